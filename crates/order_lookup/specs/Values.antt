-- The values that an order gives to numbers of sections and of symbols.
use Rattle.numbers_definitions.specs.declared.Address.{Address}
use Rattle.std.specs.Prelude.{ℕ, Bool, true, false, cond, List, ltb, eqb, None, Option, Some}
use Rattle.numbers_definitions.specs.First.{first}
use Rattle.numbers_definitions.specs.declared.Class.{Class}
use Rattle.order_format.specs.Orders.{entry_at, externals_start, external_count}

-- among the n entries from place `at` on, the value of the first with the index k, if there is one
unfoldable pub value_in : Class → List ℕ → ℕ → ℕ → ℕ → Option Address
value_in c s at n k =
    let i = first (λ j. eqb (entry_at c s at j).index k) n in
    cond (ltb i n) (Some (entry_at c s at i).value) None

-- an order gives a value
abbrev pub is_given : Option Address → Bool
is_given (Some a) = true
is_given None = false

-- the external value of a symbol
unfoldable pub external_value : Class → List ℕ → ℕ → Option Address
external_value c s symbol = value_in c s (externals_start c s) (external_count c s) symbol
