-- Document 01's bench order, "row 1 at 0x20000008": the address is found.
use Rattle.std.specs.Prelude.{Some}
use mathlib.Core.Path.{◌≡◌, refl}
use Rattle.numbers_definitions.specs.Bytes.{le, le_at}
use Rattle.numbers_definitions.specs.First.{first}
use Rattle.numbers_definitions.specs.Places.{address}
use Rattle.numbers_definitions.specs.declared.Class.TheVariants.{Elf32, Elf64}
use Rattle.order_format.specs.Orders.{entry_at}
use Rattle.order_format.proofs.Laws.Bench.{said, said64}
use Rattle.order_lookup.specs.Values.{value_in}
use Rattle.order_lookup.specs.Addresses.{placed_at}

pub placed_at_bench : placed_at Elf32 said 1 ≡ Some (address 0x20000008)
unfolding placed_at value_in first entry_at le_at le
placed_at_bench = refl

pub placed_at_bench64 : placed_at Elf64 said64 1 ≡ Some (address 0x1_20000008)
unfolding placed_at value_in first entry_at le_at le
placed_at_bench64 = refl
