-- Section headers (document 01: rows), and which sections are allocated, loaded and counted.
use Rattle.std.specs.Prelude.{ℕ, ◌+◌, ◌*◌, ◌/◌, ◌%◌, Bool, not, cond, ◌&&◌, List, ltb, eqb}
use Rattle.numbers_definitions.specs.Bytes.{le_at}
use Rattle.numbers_definitions.specs.Classes.{by, address_bytes}
use Rattle.numbers_definitions.specs.First.{first}
use Rattle.numbers_definitions.specs.Places.{file_offset}
use Rattle.numbers_definitions.specs.Sums.{sum}
use Rattle.numbers_definitions.specs.declared.Class.{Class}
use Rattle.elf_read.specs.declared.Section.{Section}
use Rattle.elf_read.specs.Headers.{class_of, section_size, relocation_size, section_table, section_count}

-- "Types used"
abbrev pub NULL : ℕ
NULL = 0

abbrev pub SYMTAB : ℕ
SYMTAB = 2

abbrev pub RELA : ℕ
RELA = 4

abbrev pub NOBITS : ℕ
NOBITS = 8

abbrev pub REL : ℕ
REL = 9

-- the section header at a place of a file of class c
unfoldable pub read_section : Class → List ℕ → ℕ → Section
read_section c s at =
    let n = address_bytes c in
    record {
      kind = le_at 4 s (at + 4);
      flags = le_at n s (at + 8);
      offset = file_offset (le_at n s (at + by c 16 24));
      size = le_at n s (at + by c 20 32);
      link = le_at 4 s (at + by c 24 40);
      info = le_at 4 s (at + by c 28 44);
      alignment = le_at n s (at + by c 32 48);
      entsize = le_at n s (at + by c 36 56);
    }

-- the header of section i
unfoldable pub section_at : List ℕ → ℕ → Section
section_at s i = read_section (class_of s) s (section_table s + section_size (class_of s) * i)

-- "A row is allocated if flag bit 2 (value 2) is set and its type is not NULL."
unfoldable pub allocated : Section → Bool
allocated h = eqb (h.flags / 2 % 2) 1 && not (eqb h.kind NULL)

-- document 01: laid. "It is laid if allocated and not NOBITS."
unfoldable pub loaded : Section → Bool
loaded h = allocated h && not (eqb h.kind NOBITS)

-- a number names an allocated section
unfoldable pub is_allocated : List ℕ → ℕ → Bool
is_allocated s i = ltb i (section_count s) && allocated (section_at s i)

-- the lowest SYMTAB, or the number of sections where there is none
unfoldable pub symbol_table : List ℕ → ℕ
symbol_table s = first (λ i. eqb (section_at s i).kind SYMTAB) (section_count s)

-- "A RELA or REL row counts only if its info names an allocated row."
abbrev pub targets : List ℕ → Section → Bool
targets s h = is_allocated s h.info

unfoldable pub counting_rel : List ℕ → ℕ → Bool
counting_rel s i = eqb (section_at s i).kind REL && targets s (section_at s i)

unfoldable pub counting_rela : List ℕ → ℕ → Bool
counting_rela s i = eqb (section_at s i).kind RELA && targets s (section_at s i)

-- how many entries a RELA section has
abbrev pub relocation_entries : Class → Section → ℕ
relocation_entries c h = h.size / relocation_size c

-- how many relocations section i holds: none, unless it is a counting RELA
unfoldable pub relocations_in : List ℕ → ℕ → ℕ
relocations_in s i = cond (counting_rela s i) (relocation_entries (class_of s) (section_at s i)) 0

-- how many relocations the sections below i hold together
abbrev pub relocations_below : List ℕ → ℕ → ℕ
relocations_below s i = sum (relocations_in s) i
