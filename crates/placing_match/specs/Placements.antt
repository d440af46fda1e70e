-- Check 6: exactly the allocated sections are placed.
use Rattle.std.specs.Prelude.{ℕ, ◌^◌, Bool, not, cond, ◌&&◌, ◌||◌, List, ltb, Err, Ok, Result, ⊤}
use Rattle.numbers_definitions.specs.First.{first}
use Rattle.elf_read.specs.Headers.{class_of}
use Rattle.elf_read.specs.Sections.{is_allocated}
use Rattle.order_lookup.specs.Values.{is_given}
use Rattle.order_lookup.specs.Addresses.{placed_at}

-- the least number below n at which a rule is broken, if there is one
unfoldable pub lowest : (ℕ → Bool) → ℕ → Result ⊤ ℕ
lowest broken n = cond (ltb (first broken n) n) (Err (first broken n)) (Ok tt)

-- a number is in one list only: it is placed and not allocated, or allocated and not placed
unfoldable pub differs : List ℕ → List ℕ → ℕ → Bool
differs object order i =
    (is_given (placed_at (class_of object) order i) && not (is_allocated object i)) || (is_allocated object i && not (is_given (placed_at (class_of object) order i)))

-- check 6: "placements differ from allocated rows", at the "lowest row in one only". A placement may name any number of 32 bits.
unfoldable pub placement_check : List ℕ → List ℕ → Result ⊤ ℕ
placement_check object order = lowest (differs object order) (2 ^ 32)
