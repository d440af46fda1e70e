-- The span of an install is the span of the pieces that it lays.
use Rattle.std.specs.Prelude.{Ok}
use mathlib.Core.Path.{◌≡◌, refl, sym, ap, ◌∙◌}
use Prim.Native.Nat.{ℕ, zero, suc, ◌+◌, ◌-◌, ◌≤◌, ◌<◌, min, max}
use native.Mathlib.Omega.{arith}
use mathlib.Core.Bool.{Bool, true, false, cond}
use mathlib.Core.List.{List, [], ◌∷◌, ◌++◌}
use lib.Dec.{ltb}
use borrow.Author.Tests.{ltb-true}
use lib.ListN.{length, get_or}
use Rattle.numbers_definitions.proofs.Laws.Tests.{and_right}
use Rattle.elf_read.specs.Headers.{section_count}
use Rattle.elf_read.specs.Sections.{section_at, loaded}
use Rattle.plan_pieces.specs.Plans.{Piece, piece, end, lowest, span_of as spanOfPieces}
use Rattle.placing_check.specs.Placing.{end_of, has_bytes, placing_check}
use Rattle.placing_check.proofs.Laws.Theorems.{inside_image}
use Rattle.placing_span.specs.Spans.{highest, lowest_byte, span_of}
use Rattle.placing_span.specs.Pieces.{pieces}
use Rattle.placing_span.specs.Sized.{Sized, FromBase}

-- ---- one piece more

max_swap : (a b e : ℕ) → max a (max b e) ≡ max b (max a e)
max_swap a b e = omega arith

min_swap : (a b l : ℕ) → min a (min b l) ≡ min b (min a l)
min_swap a b l = omega arith

end_last : (at : ℕ) (b : List ℕ) (ps : List Piece) → 0 < length b → end (ps ++ piece at b ∷ []) ≡ max (at + length b) (end ps)
unfolding end
end_last at [] [] h = absurd (omega arith)
end_last at (x ∷ b) [] h = refl
end_last at b (piece a [] ∷ ps) h = end_last at b ps h
end_last at b (piece a (x ∷ xs) ∷ ps) h = ap (max (a + length (x ∷ xs))) (end_last at b ps h) ∙ max_swap (a + length (x ∷ xs)) (at + length b) (end ps)

lowest_last : (top at : ℕ) (b : List ℕ) (ps : List Piece) → 0 < length b → lowest top (ps ++ piece at b ∷ []) ≡ min at (lowest top ps)
unfolding lowest
lowest_last top at [] [] h = absurd (omega arith)
lowest_last top at (x ∷ b) [] h = refl
lowest_last top at b (piece a [] ∷ ps) h = lowest_last top at b ps h
lowest_last top at b (piece a (x ∷ xs) ∷ ps) h = ap (min a) (lowest_last top at b ps h) ∙ min_swap a at (lowest top ps)

-- ---- the two ends

some : (object : List ℕ) (i : ℕ) → has_bytes (section_at object i) ≡ true → 0 < (section_at object i).size
unfolding has_bytes
some object i e = ltb-true 0 (section_at object i).size (and_right (loaded (section_at object i)) (ltb 0 (section_at object i).size) e)

module _ (f : ℕ → List ℕ) (object addresses : List ℕ) (base : ℕ) where
  highest_end : (n : ℕ) → Sized f object n → FromBase object addresses base n → highest object addresses base n ≡ end (pieces f object addresses base n)
  unfolding highest end_of pieces end
  highest_end zero sized from = refl
  highest_end (suc i) sized from =
      go (has_bytes (section_at object i)) refl (highest_end i (λ j h. sized j (omega arith)) (λ j h. from j (omega arith)))
    where
      go : (b : Bool) → has_bytes (section_at object i) ≡ b → highest object addresses base i ≡ end (pieces f object addresses base i)
          → cond b (max (end_of object addresses i - base) (highest object addresses base i)) (highest object addresses base i)
          ≡ end (cond b (pieces f object addresses base i ++ piece (get_or addresses i 0 - base) (f i) ∷ []) (pieces f object addresses base i))
      go false e ih = ih
      go true e ih =
          let len : length (f i) ≡ (section_at object i).size = sized i (omega arith) e in
          let at : base ≤ get_or addresses i 0 = from i (omega arith) e in
          let same : get_or addresses i 0 + (section_at object i).size - base ≡ get_or addresses i 0 - base + length (f i) = omega arith in
          rw (same, ih) (sym (end_last (get_or addresses i 0 - base) (f i) (pieces f object addresses base i) (omega (arith, some object i e))))

  lowest_byte_lem : (top n : ℕ) → Sized f object n → lowest_byte object addresses base top n ≡ lowest top (pieces f object addresses base n)
  unfolding lowest_byte pieces lowest
  lowest_byte_lem top zero sized = refl
  lowest_byte_lem top (suc i) sized = go (has_bytes (section_at object i)) refl (lowest_byte_lem top i (λ j h. sized j (omega arith)))
    where
      go : (b : Bool) → has_bytes (section_at object i) ≡ b → lowest_byte object addresses base top i ≡ lowest top (pieces f object addresses base i)
          → cond b (min (get_or addresses i 0 - base) (lowest_byte object addresses base top i)) (lowest_byte object addresses base top i)
          ≡ lowest top (cond b (pieces f object addresses base i ++ piece (get_or addresses i 0 - base) (f i) ∷ []) (pieces f object addresses base i))
      go false e ih = ih
      go true e ih =
          let len : length (f i) ≡ (section_at object i).size = sized i (omega arith) e in
          rw ih (sym (lowest_last top (get_or addresses i 0 - base) (f i) (pieces f object addresses base i) (omega (arith, some object i e))))

  -- the span that is worked out from the section table is the journal's span of the pieces
  pub span_of_pieces : Sized f object (section_count object) → FromBase object addresses base (section_count object)
      → span_of object addresses base ≡ spanOfPieces (pieces f object addresses base (section_count object))
  unfolding span_of spanOfPieces
  span_of_pieces sized from =
      rw (highest_end (section_count object) sized from, lowest_byte_lem (end (pieces f object addresses base (section_count object))) (section_count object) sized)

-- where check 8 passes, laid sections start at the base or above
pub from_base : (object addresses : List ℕ) (base len : ℕ) → placing_check object addresses base len ≡ Ok tt
    → FromBase object addresses base (section_count object)
from_base object addresses base len fine i h e = (inside_image object addresses base len fine i h e).0
