-- Laws of the class of a file: how wide addresses can be, and where the parts of a file with that class end.
use mathlib.Core.List.{List}
use Prim.Native.Nat.{ℕ, ◌≤◌, ◌<◌}
use native.Mathlib.Omega.{arith}
use lib.ListN.{length}
use Rattle.numbers_definitions.specs.declared.Class.{Class}
use Rattle.numbers_definitions.specs.declared.Class.TheVariants.{Elf32, Elf64}
use Rattle.numbers_definitions.specs.Classes.{bits}
use Rattle.elf_read.specs.Headers.{class_of, address_width, header_size}
use Rattle.elf_read.specs.Requires.{HeaderInside}

-- ---- The laws over the width w of an address need only these two bounds, and no particular width.

-- an address has at least 32 bits, the width of an instruction
pub address_wide : (object : List ℕ) → 32 ≤ address_width object
address_wide object = go (class_of object)
  where
    go : (c : Class) → 32 ≤ bits c
    go Elf32 = omega arith
    go Elf64 = omega arith

-- an address fits the 64-bit numbers of the code
pub address_narrow : (object : List ℕ) → address_width object ≤ 64
address_narrow object = go (class_of object)
  where
    go : (c : Class) → bits c ≤ 64
    go Elf32 = omega arith
    go Elf64 = omega arith

-- ---- the parts of a file

-- a file with a header has at least the shorter one
pub header_there : (s : List ℕ) → HeaderInside s → header_size Elf32 ≤ length s
header_there s h = go (class_of s) h
  where
    go : (c : Class) → header_size c ≤ length s → header_size Elf32 ≤ length s
    go Elf32 l = l
    go Elf64 l = omega arith

-- a file that is shorter has none
pub header_missing : (s : List ℕ) → length s < header_size Elf32 → length s < header_size (class_of s)
header_missing s l = go (class_of s)
  where
    go : (c : Class) → length s < header_size c
    go Elf32 = l
    go Elf64 = omega arith
