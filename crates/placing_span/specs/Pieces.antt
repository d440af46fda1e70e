-- What an install lays, as the list of pieces that the journal's definitions take. The bytes of section i are `f i`, where f may be any
-- function.
use Rattle.std.specs.Prelude.{ℕ, zero, suc, ◌-◌, cond, List, [], ◌∷◌, ◌++◌, get_or}
use Rattle.elf_read.specs.Sections.{section_at}
use Rattle.plan_pieces.specs.Plans.{Piece, piece}
use Rattle.placing_check.specs.Placing.{has_bytes}

-- the laid bytes of the sections below i, in section order: one piece for "a laid row of size above 0",
-- "each at its address less that order's base"
unfoldable pub pieces : (ℕ → List ℕ) → List ℕ → List ℕ → ℕ → ℕ → List Piece
pieces f object addresses base zero = []
pieces f object addresses base (suc i) =
    cond (has_bytes (section_at object i)) (pieces f object addresses base i ++ piece (get_or addresses i 0 - base) (f i) ∷ []) (pieces f object addresses base i)
