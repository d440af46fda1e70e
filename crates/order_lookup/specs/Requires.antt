-- What inner functions require of their callers.
use Rattle.std.specs.Prelude.{◌≡◌, true, List, ℕ, ◌+◌, ◌*◌, ◌≤◌, ◌<◌, length}
use Rattle.numbers_definitions.specs.declared.Class.{Class}
use Rattle.order_format.specs.Orders.{entry_size, entry_at, ascending, externals_start, external_count}

-- the n entries from place `at` on lie in the order, and ascend
pub record Searchable (c : Class) (s : List ℕ) (at n : ℕ) : Type 0 where
  pub inside : at + entry_size c * n ≤ length s
  pub ascends : ascending (λ i. (entry_at c s at i).index) n ≡ true

-- place `from` of the external values: those before it are of symbols below k, and this one and those behind it are not
pub record Reached (c : Class) (s : List ℕ) (from k : ℕ) : Type 0 where
  pub below : (j : ℕ) → j < from → (entry_at c s (externals_start c s) j).index < k
  pub above : (j : ℕ) → from ≤ j → j < external_count c s → k ≤ (entry_at c s (externals_start c s) j).index
