-- Symbols, relocations, the bytes of a section, and the numbering of relocations through all counting RELA sections.
use Rattle.std.specs.Prelude.{ℕ, suc, ◌+◌, ◌-◌, ◌*◌, ◌/◌, ◌%◌, ◌^◌, cond, List, ltb}
use Rattle.numbers_definitions.specs.Bytes.{le_at, part}
use Rattle.numbers_definitions.specs.declared.Class.{Class}
use Rattle.numbers_definitions.specs.Classes.{by, bits, address_bytes}
use Rattle.numbers_definitions.specs.First.{first}
use Rattle.numbers_definitions.specs.Places.{section_offset}
use Rattle.numbers_definitions.specs.Whole.{residue, signed}
use Rattle.elf_read.specs.declared.Section.{Section}
use Rattle.elf_read.specs.declared.Symbol.{Symbol}
use Rattle.elf_read.specs.declared.Relocation.{Relocation}
use Rattle.elf_read.specs.declared.Location.{Location}
use Rattle.elf_read.specs.Headers.{class_of, symbol_size, relocation_size, section_count}
use Rattle.elf_read.specs.Sections.{section_at, symbol_table, relocations_below}

-- the bytes of a section that has bytes in the file
unfoldable pub bytes_of : List ℕ → Section → List ℕ
bytes_of s h = part s h.offset.0 h.size

-- the section numbers of undefined, of absolute and of common symbols, the first of those that are reserved, the binding of weak symbols,
-- and two symbol types
abbrev pub SHN_UNDEF : ℕ
SHN_UNDEF = 0

abbrev pub SHN_LORESERVE : ℕ
SHN_LORESERVE = 0xFF00

abbrev pub SHN_ABS : ℕ
SHN_ABS = 0xFFF1

abbrev pub SHN_COMMON : ℕ
SHN_COMMON = 0xFFF2

abbrev pub STB_WEAK : ℕ
STB_WEAK = 2

abbrev pub STT_TLS : ℕ
STT_TLS = 6

abbrev pub STT_GNU_IFUNC : ℕ
STT_GNU_IFUNC = 10

-- how many entries a SYMTAB section has
abbrev pub symbol_entries : Class → Section → ℕ
symbol_entries c h = h.size / symbol_size c

-- how many symbols there are: none where there is no SYMTAB
unfoldable pub symbol_count : List ℕ → ℕ
symbol_count s = cond (ltb (symbol_table s) (section_count s)) (symbol_entries (class_of s) (section_at s (symbol_table s))) 0

-- the symbol at a place of a file of class c
unfoldable pub read_symbol : Class → List ℕ → ℕ → Symbol
read_symbol c s at =
    record {
      value = section_offset (le_at (address_bytes c) s (at + by c 4 8));
      kind = le_at 1 s (at + by c 12 4) % 16;
      binding = le_at 1 s (at + by c 12 4) / 16;
      section = le_at 2 s (at + by c 14 6);
    }

-- entry k of a SYMTAB section
unfoldable pub symbol_at : List ℕ → Section → ℕ → Symbol
symbol_at s h k = read_symbol (class_of s) s (h.offset.0 + symbol_size (class_of s) * k)

-- how many of the info's bits are the type. In class 1 they are the low eight (gABI); in class 2, "records 24 with the symbol in the upper
-- half of the info word".
abbrev pub type_bits : Class → ℕ
type_bits c = by c 8 32

-- the relocation at a place of a file of class c; the addend is a signed number, kept modulo 2^64
unfoldable pub read_relocation : Class → List ℕ → ℕ → Relocation
read_relocation c s at =
    let n = address_bytes c in
    let info = le_at n s (at + n) in
    record {
      offset = section_offset (le_at n s at);
      kind = info % 2 ^ type_bits c;
      symbol = info / 2 ^ type_bits c;
      addend = residue 64 (signed (bits c) (le_at n s (at + 2 * n)));
    }

-- entry k of a RELA section
unfoldable pub relocation_at : List ℕ → Section → ℕ → Relocation
relocation_at s h k = read_relocation (class_of s) s (h.offset.0 + relocation_size (class_of s) * k)

-- how many relocations there are; document 01 counts each as "record, counted from 0 over all"
abbrev pub relocation_count : List ℕ → ℕ
relocation_count s = relocations_below s (section_count s)

-- where relocation number k is: in the first section i for which sections 0 to i together hold more than k relocations.
-- Its entry there is k less the number of relocations in the sections below i.
unfoldable pub location_of : List ℕ → ℕ → Location
location_of s k =
    let i = first (λ j. ltb k (relocations_below s (suc j))) (section_count s) in
    record { section = i; entry = k - relocations_below s i }
