-- What an install lays: pieces of bytes, their span, and the judgement that decides which bytes these are. Here the judgement may be any
-- function.
use Rattle.std.specs.Prelude.{◌≡◌, ℕ, ◌+◌, ◌-◌, ◌≤◌, min, max, List, [], ◌∷◌, length}
use Rattle.std.proofs.lemmas.List.Edits.{sets}
use Rattle.plan_pieces.specs.declared.Span.{Span}
use Rattle.plan_pieces.specs.Answers.{Answer}

-- ---- the judgement

-- bytes, and the place of the first of them
pub data Piece : Type 0 where
  piece : ℕ → List ℕ → Piece

-- a refusal, or a plan: the pieces to lay (document 01: the laid bytes, "each at its address less
-- that order's base")
pub data Verdict : Type 0 where
  refused : Answer → Verdict
  plan : List Piece → Verdict

-- checks 2 to 14: "judged in their order from object, order and image length"
abbrev pub Judge : Type 0
Judge = List ℕ → List ℕ → ℕ → Verdict

-- each piece ends inside an image of `len` bytes
abbrev pub Inside : ℕ → List Piece → Type 0
Inside len [] = Unit {0}
Inside len (piece at b ∷ ps) = (at + length b ≤ len) × Inside len ps

-- the only assumption about a judgement: its plans lie inside the image
abbrev pub LaysInside : Judge → Type 0
LaysInside judge = (object order : List ℕ) (len : ℕ) (ps : List Piece) → judge object order len ≡ plan ps → Inside len ps

-- ---- laying

-- the list with the pieces written over it, in their order
unfoldable pub overwritten : List ℕ → List Piece → List ℕ
overwritten s [] = s
overwritten s (piece at b ∷ ps) = overwritten (sets s at b) ps

-- ---- the span: "from the lowest to the end of the highest laid byte; with none laid it is start 0, length 0"

-- the end of the highest laid byte, or 0 if none is laid
unfoldable pub end : List Piece → ℕ
end [] = 0
end (piece at [] ∷ ps) = end ps
end (piece at (b ∷ bs) ∷ ps) = max (at + length (b ∷ bs)) (end ps)

-- the lowest laid byte, or `top` if none is laid
unfoldable pub lowest : ℕ → List Piece → ℕ
lowest top [] = top
lowest top (piece at [] ∷ ps) = lowest top ps
lowest top (piece at (b ∷ bs) ∷ ps) = min at (lowest top ps)

-- if no byte is laid, `end` and `lowest` are both 0
unfoldable pub span_of : List Piece → Span
span_of ps = record { start = lowest (end ps) ps; size = end ps - lowest (end ps) ps }
