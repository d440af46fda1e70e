-- Document 01's bench order: "Order, window 0x20000000, row 1 at 0x20000008: 01000000 00000020 01000000 01000000 08000020 00000000, in
-- file byte order."
use Rattle.std.specs.Prelude.{None, Some}
use mathlib.Core.Path.{◌≡◌, refl}
use mathlib.Core.List.{List, [], ◌∷◌}
use Prim.Native.Nat.{ℕ}
use Rattle.numbers_definitions.specs.Bytes.{le, le_at, bytes}
use Rattle.numbers_definitions.specs.First.{first, everywhere, tabulate}
use Rattle.numbers_definitions.specs.Places.{address}
use Rattle.numbers_definitions.specs.declared.Class.TheVariants.{Elf32, Elf64}
use Rattle.order_format.specs.Orders.{Order, encode_entries, encode, entry_at, ascending, well_formed, reading, order_of}

abbrev pub said : List ℕ
said =
    0x01 ∷ 0x00 ∷ 0x00 ∷ 0x00 ∷ 0x00 ∷ 0x00 ∷ 0x00 ∷ 0x20 ∷ 0x01 ∷ 0x00 ∷ 0x00 ∷ 0x00
    ∷ 0x01 ∷ 0x00 ∷ 0x00 ∷ 0x00 ∷ 0x08 ∷ 0x00 ∷ 0x00 ∷ 0x20 ∷ 0x00 ∷ 0x00 ∷ 0x00 ∷ 0x00 ∷ []

abbrev pub meant : Order
meant = record { base = address 0x20000000; placements = record { index = 1; value = address 0x20000008 } ∷ []; externals = [] }

pub encode_bench : encode Elf32 meant ≡ said
unfolding encode encode_entries bytes
encode_bench = refl

pub reading_bench : reading Elf32 said ≡ Some (record { base = address 0x20000000; placements = 1; externals = 0 })
unfolding reading well_formed ascending everywhere first entry_at le_at le
reading_bench = refl

pub order_of_bench : order_of Elf32 said ≡ meant
unfolding order_of tabulate entry_at le_at le
order_of_bench = refl

-- ---- the same order 2^32 higher, for an object of class 2

abbrev pub said64 : List ℕ
said64 =
    0x01 ∷ 0x00 ∷ 0x00 ∷ 0x00 ∷ 0x00 ∷ 0x00 ∷ 0x00 ∷ 0x20 ∷ 0x01 ∷ 0x00 ∷ 0x00 ∷ 0x00 ∷ 0x01 ∷ 0x00 ∷ 0x00 ∷ 0x00
    ∷ 0x01 ∷ 0x00 ∷ 0x00 ∷ 0x00 ∷ 0x08 ∷ 0x00 ∷ 0x00 ∷ 0x20 ∷ 0x01 ∷ 0x00 ∷ 0x00 ∷ 0x00 ∷ 0x00 ∷ 0x00 ∷ 0x00 ∷ 0x00 ∷ []

abbrev pub meant64 : Order
meant64 = record { base = address 0x1_20000000; placements = record { index = 1; value = address 0x1_20000008 } ∷ []; externals = [] }

pub encode_bench64 : encode Elf64 meant64 ≡ said64
unfolding encode encode_entries bytes
encode_bench64 = refl

pub reading_bench64 : reading Elf64 said64 ≡ Some (record { base = address 0x1_20000000; placements = 1; externals = 0 })
unfolding reading well_formed ascending everywhere first entry_at le_at le
reading_bench64 = refl

pub order_of_bench64 : order_of Elf64 said64 ≡ meant64
unfolding order_of tabulate entry_at le_at le
order_of_bench64 = refl

-- neither is an order for the other class
pub malformed_bench : (reading Elf64 said ≡ None) × (reading Elf32 said64 ≡ None)
unfolding reading well_formed ascending everywhere first entry_at le_at le
malformed_bench = (refl, refl)
