-- Check 12: the paired high half of a PCREL_LO12 (document 01: partner).
use Rattle.std.specs.Prelude.{ℕ, Bool, cond, ◌&&◌, List, eqb, None, Option, Some}
use Rattle.numbers_definitions.specs.First.{first}
use Rattle.numbers_definitions.specs.Sums.{sum}
use Rattle.numbers_definitions.specs.declared.SectionOffset.{SectionOffset}
use Rattle.relocations_rela.specs.declared.sites.Site.{Site}
use Rattle.relocations_decisions.specs.Decisions.{gives_pair}
use Rattle.relocations_rela.specs.Sites.{count, offset, decision_at}

-- "PCREL_HI20 record whose offset equals that value"
unfoldable pub is_pair : List ℕ → Site → SectionOffset → ℕ → Bool
is_pair object x value k = gives_pair (decision_at object x k) && eqb (offset object x k) value.0

-- how many of the numbers below n satisfy p
unfoldable pub how_many : (ℕ → Bool) → ℕ → ℕ
how_many p n = sum (λ k. cond (p k) 1 0) n

-- "There must be exactly one PCREL_HI20 record whose offset equals that value, among the same RELA row's records."
unfoldable pub pair_of : List ℕ → Site → SectionOffset → Option ℕ
pair_of object x value =
    cond (eqb (how_many (is_pair object x value) (count object x)) 1) (Some (first (is_pair object x value) (count object x))) None
