-- The header of an ELF file (System V gABI), for both classes: where its section headers are, and the sizes that the format gives its
-- parts. `by c m n` is m in a file of class 1 and n in a file of class 2.
use Rattle.std.specs.Prelude.{ℕ, ◌%◌, Bool, cond, List, eqb}
use Rattle.numbers_definitions.specs.declared.Class.{Class}
use Rattle.numbers_definitions.specs.declared.Class.TheVariants.{Elf32, Elf64}
use Rattle.numbers_definitions.specs.Bytes.{le_at}
use Rattle.numbers_definitions.specs.Classes.{by, bits, address_bytes}

-- the class of a file: byte 4 (EI_CLASS) is 1 or 2. Any other is refused by check 4, whose other sentences then read the file as class 1.
unfoldable pub class_of : List ℕ → Class
class_of s = cond (eqb (le_at 1 s 4) 2) Elf64 Elf32

-- how many bits an address has. No other definition says how wide addresses are.
abbrev pub address_width : List ℕ → ℕ
address_width s = bits (class_of s)

-- the sizes in bytes of the file header, a section header, a symbol and a relocation
abbrev pub header_size : Class → ℕ
header_size c = by c 52 64

abbrev pub section_size : Class → ℕ
section_size c = by c 40 64

abbrev pub symbol_size : Class → ℕ
symbol_size c = by c 16 24

abbrev pub relocation_size : Class → ℕ
relocation_size c = by c 12 24

-- where the section header table starts, and how many headers it has (document 01: the row table, rows)
abbrev pub section_table : List ℕ → ℕ
section_table s = le_at (address_bytes (class_of s)) s (by (class_of s) 32 40)

abbrev pub section_count : List ℕ → ℕ
section_count s = le_at 2 s (by (class_of s) 48 60)

-- e_flags
abbrev pub file_flags : List ℕ → ℕ
file_flags s = le_at 4 s (by (class_of s) 36 48)

-- whether bit 0 of e_flags is set (EF_RISCV_RVC): the object may hold instructions of 16 bits
unfoldable pub has_rvc : List ℕ → Bool
has_rvc s = eqb (file_flags s % 2) 1

-- "1 to 32 rows"; document 02: "Rows and placements up to 128"
abbrev pub max_sections : ℕ
max_sections = 128
