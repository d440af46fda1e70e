-- The high halves of a site, listed once.
use Rattle.std.specs.Prelude.{◌≡◌, Bool, true, List, ℕ, ◌≤◌, ◌<◌, length, get_or}
use Rattle.relocations_rela.specs.declared.sites.Site.{Site}
use Rattle.relocations_decisions.specs.Decisions.{gives_pair}
use Rattle.relocations_rela.specs.Sites.{count, offset, decision_at}

-- relocation k is a high half
abbrev pub is_high : List ℕ → Site → ℕ → Bool
is_high object x k = gives_pair (decision_at object x k)

-- l begins with the numbers of the site's high halves, m of them, each once, in the order of their offsets
pub record Listed (object : List ℕ) (x : Site) (l : List ℕ) (m : ℕ) : Type 0 where
  pub fits : m ≤ length l
  pub each : (i : ℕ) → i < m → (get_or l i 0 < count object x) × (is_high object x (get_or l i 0) ≡ true)
  pub all : (k : ℕ) → k < count object x → is_high object x k ≡ true → (i : ℕ) × (i < m) × (get_or l i 0 ≡ k)
  pub once : (i j : ℕ) → i < j → j < m → get_or l i 0 ≡ get_or l j 0 → ⊥
  pub ordered : (i j : ℕ) → i ≤ j → j < m → offset object x (get_or l i 0) ≤ offset object x (get_or l j 0)
