-- The high halves of a site as they are gathered, in the order of the file.
use Rattle.std.specs.Prelude.{◌≡◌, Bool, true, false, cond, List, ℕ, ◌≤◌, ◌<◌, length, get_or, ltb}
use Rattle.relocations_rela.specs.declared.sites.Site.{Site}
use Rattle.relocations_rela.specs.Sites.{count, offset}
use Rattle.relocations_values.specs.Highs.{is_high}
use Rattle.relocations_values.specs.Sorting.{keys, Ordered}

-- l begins with the numbers that have a property, m of them, each once
pub record Lists (Q : ℕ → Type 0) (l : List ℕ) (m : ℕ) : Type 0 where
  pub fits : m ≤ length l
  pub each : (i : ℕ) → i < m → Q (get_or l i 0)
  pub all : (k : ℕ) → Q k → (i : ℕ) × (i < m) × (get_or l i 0 ≡ k)
  pub once : (i j : ℕ) → i < m → j < m → get_or l i 0 ≡ get_or l j 0 → i ≡ j

-- k is the number of a high half
abbrev pub High : List ℕ → Site → ℕ → Type 0
High object x k = (k < count object x) × (is_high object x k ≡ true)

-- l begins with the numbers of the m high halves, and is in the order of their offsets unless one fell below the one before
pub record Gathers (object : List ℕ) (x : Site) (l : List ℕ) (m : ℕ) (falls : Bool) : Type 0 where
  pub lists : Lists (High object x) l m
  pub ordered : falls ≡ false → Ordered (keys object x l) m

-- the offset of relocation k, or 0 if there is none
abbrev pub key_of : List ℕ → Site → ℕ → ℕ
key_of object x k = cond (ltb k (count object x)) (offset object x k) 0
