-- The sizes of an order's parts, for both classes.
use mathlib.Core.Path.{◌≡◌, refl}
use Prim.Native.Nat.{ℕ, ◌+◌, ◌*◌, ◌^◌, ◌≤◌, ◌<◌}
use native.Mathlib.Omega.{arith}
use Rattle.numbers_definitions.specs.Classes.{address_bytes, bits}
use Rattle.numbers_definitions.specs.declared.Class.{Class}
use Rattle.numbers_definitions.specs.declared.Class.TheVariants.{Elf32, Elf64}
use Rattle.order_format.specs.Orders.{entry_size}

-- an address takes at most eight bytes
pub address_bytes_le : (c : Class) → address_bytes c ≤ 8
address_bytes_le Elf32 = omega arith
address_bytes_le Elf64 = omega arith

-- its bytes spell just the numbers of its bits
pub address_bytes_bits : (c : Class) → 256 ^ address_bytes c ≡ 2 ^ bits c
address_bytes_bits Elf32 = refl
address_bytes_bits Elf64 = refl

-- an entry takes at most twelve bytes
pub entries_le : (c : Class) (n : ℕ) → entry_size c * n ≤ 12 * n
entries_le Elf32 n = omega arith
entries_le Elf64 n = omega arith

-- each of n entries ends where the last one ends, or before it
pub entry_inside : (c : Class) (i n : ℕ) → i < n → entry_size c * i + entry_size c ≤ entry_size c * n
entry_inside Elf32 i n h = omega arith
entry_inside Elf64 i n h = omega arith
