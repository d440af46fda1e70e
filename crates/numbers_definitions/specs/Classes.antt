-- The two classes of ELF files, and what depends on them.
use Rattle.std.specs.Prelude.{ℕ, Bool, true, false}
use Rattle.numbers_definitions.specs.declared.Class.{Class}
use Rattle.numbers_definitions.specs.declared.Class.TheVariants.{Elf32, Elf64}

-- one number for class 1 (ELFCLASS32), another for class 2 (ELFCLASS64)
abbrev pub by : Class → ℕ → ℕ → ℕ
by Elf32 m n = m
by Elf64 m n = n

-- whether it is class 2
abbrev pub is_elf64 : Class → Bool
is_elf64 Elf32 = false
is_elf64 Elf64 = true

-- how many bits an address has, and how many bytes it takes in a file
abbrev pub bits : Class → ℕ
bits c = by c 32 64

abbrev pub address_bytes : Class → ℕ
address_bytes c = by c 4 8
