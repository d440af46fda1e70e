-- What reading a list of an order gives.
use Rattle.std.specs.Prelude.{◌≡◌, ℕ, ◌+◌, ◌-◌, ◌*◌, ◌≤◌, true, List, length}
use Rattle.numbers_definitions.specs.Bytes.{le_at}
use Rattle.numbers_definitions.specs.declared.Class.{Class}
use Rattle.order_format.specs.Orders.{entry_size, entry_at, ascending}

-- from place `at` on stand n entries, which is the count before them: at most `most`, and inside the bytes
pub record Counted (c : Class) (s : List ℕ) (at most n : ℕ) : Type 0 where
  pub count_is : n ≡ le_at 4 s (at - 4)
  pub few : n ≤ most
  pub inside : at + entry_size c * n ≤ length s

-- they are a list if they also ascend by their indices
pub record Listed (c : Class) (s : List ℕ) (at most n : ℕ) : Type 0 where
  pub counted : Counted c s at most n
  pub ascends : ascending (λ i. (entry_at c s at i).index) n ≡ true
