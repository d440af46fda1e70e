-- "Row rules": each sentence as a test of section i. `Sound` has the same sentences as propositions.
use Rattle.std.specs.Prelude.{ℕ, suc, ◌+◌, ◌%◌, Bool, not, cond, ◌&&◌, ◌||◌, List, length, leb, ltb, eqb, Err, Ok, Result, ⊤}
use Rattle.numbers_definitions.specs.First.{first, everywhere}
use Rattle.numbers_definitions.specs.Powers.{one_bit}
use Rattle.elf_read.specs.Headers.{class_of, symbol_size, relocation_size, section_count}
use Rattle.elf_read.specs.Sections.{NULL, SYMTAB, RELA, NOBITS, REL, section_at, allocated, loaded, symbol_table, counting_rel, counting_rela, relocations_below}
use Rattle.elf_read.specs.Entries.{symbol_entries}
use Rattle.elf_header.specs.Headers.{table_allowed}

-- "at most 1,024" symbols and "at most 4,096 records"; document 02: "symbols and outside values up to 8,192, records up to 32,768"
abbrev pub max_symbols : ℕ
max_symbols = 8192

abbrev pub max_relocations : ℕ
max_relocations = 32768

-- "Row 0 is NULL."
unfoldable pub starts_null : List ℕ → ℕ → Bool
starts_null s i = not (eqb i 0) || eqb (section_at s i).kind NULL

-- "Except for NULL and NOBITS, offset + size stays inside the file."
unfoldable pub inside_file : List ℕ → ℕ → Bool
inside_file s i =
    let h = section_at s i in
    eqb h.kind NULL || eqb h.kind NOBITS || leb (h.offset.0 + h.size) (length s)

-- "An allocated row has alignment 0, or an alignment with exactly one bit set; it is not SYMTAB, RELA or REL."
unfoldable pub allocated_well : List ℕ → ℕ → Bool
allocated_well s i =
    let h = section_at s i in
    not (allocated h)
    || ((eqb h.alignment 0 || one_bit 64 h.alignment)
    && not (eqb h.kind SYMTAB || eqb h.kind RELA || eqb h.kind REL))

-- "At most one SYMTAB: entry size 16, whole entries, at most 1,024. The higher row of two is at fault." In class 2, "symbols 24"; document 02: up
-- to 8,192.
unfoldable pub symbol_table_well : List ℕ → ℕ → Bool
symbol_table_well s i =
    let h = section_at s i in
    not (eqb h.kind SYMTAB)
    || (eqb i (symbol_table s) && eqb h.entsize (symbol_size (class_of s)) && eqb (h.size % symbol_size (class_of s)) 0 && leb (symbol_entries (class_of s) h) max_symbols)

-- "A counting REL is refused."
unfoldable pub no_counting_rel : List ℕ → ℕ → Bool
no_counting_rel s i = not (counting_rel s i)

-- "A counting RELA has entry size 12, whole entries, links to the SYMTAB (the lowest, if there are two), and targets a laid row that no
-- lower counting RELA targets." In class 2, "records 24".
unfoldable pub rela_kept : List ℕ → ℕ → Bool
rela_kept s i =
    let h = section_at s i in
    (eqb h.entsize (relocation_size (class_of s)) && eqb (h.size % relocation_size (class_of s)) 0)
    && (ltb (symbol_table s) (section_count s) && eqb h.link (symbol_table s))
    && loaded (section_at s h.info)
    && everywhere (λ j. not (counting_rela s j && eqb (section_at s j).info h.info)) i

unfoldable pub rela_well : List ℕ → ℕ → Bool
rela_well s i = not (counting_rela s i) || rela_kept s i

-- "All counting RELA rows together hold at most 4,096 records; the row that passes this is at fault."; document 02: up to 32,768
unfoldable pub relocations_kept : List ℕ → ℕ → Bool
relocations_kept s i = leb (relocations_below s (suc i)) max_relocations

unfoldable pub relocations_well : List ℕ → ℕ → Bool
relocations_well s i = not (counting_rela s i) || relocations_kept s i

-- section i keeps every rule
unfoldable pub section_well : List ℕ → ℕ → Bool
section_well s i =
    starts_null s i
    && inside_file s i
    && allocated_well s i
    && symbol_table_well s i
    && no_counting_rel s i
    && rela_well s i
    && relocations_well s i

-- check 5: place 0 if the table itself is at fault, else the first section that breaks a rule
unfoldable pub section_check : List ℕ → Result ⊤ ℕ
section_check s =
    let i = first (λ j. not (section_well s j)) (section_count s) in
    cond (table_allowed s) (cond (ltb i (section_count s)) (Err i) (Ok tt)) (Err 0)
