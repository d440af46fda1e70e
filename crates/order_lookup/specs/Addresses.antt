-- "The 32 row addresses travel as one array passed by value."; document 02 has up to 128 rows.
use Rattle.numbers_definitions.specs.declared.Address.{Address}
use Rattle.std.specs.Prelude.{ℕ, List, replicate, None, Option, Some}
use Rattle.numbers_definitions.specs.First.{tabulate}
use Rattle.numbers_definitions.specs.declared.Class.{Class}
use Rattle.elf_read.specs.Headers.{class_of, max_sections}
use Rattle.order_format.specs.Orders.{base, placements_start, placement_count}
use Rattle.order_lookup.specs.Values.{value_in}

-- A section that the order does not place has the entry 0. Once check 6 has passed, no result depends on it.
abbrev pub or_zero : Option Address → ℕ
or_zero (Some a) = a.0
or_zero None = 0

-- the address that an order gives a section, if it places it
unfoldable pub placed_at : Class → List ℕ → ℕ → Option Address
placed_at c s section = value_in c s (placements_start c) (placement_count c s) section

-- the array before any address is stored
abbrev pub no_addresses : List ℕ
no_addresses = replicate max_sections 0

-- the array: an entry for each section number
unfoldable pub addresses : Class → List ℕ → List ℕ
addresses c s = tabulate (λ section. or_zero (placed_at c s section)) max_sections

-- ---- an order for an object, whose class says how the order is read

abbrev pub addresses_for : List ℕ → List ℕ → List ℕ
addresses_for object order = addresses (class_of object) order

abbrev pub base_for : List ℕ → List ℕ → ℕ
base_for object order = base (class_of object) order
