-- "Row rules": each sentence as a proposition about section i. `Rules` has the same sentences as tests.
use Rattle.std.specs.Prelude.{◌⊎◌, ◌≡◌, true, false, List, ℕ, suc, ◌+◌, ◌%◌, ◌≤◌, ◌<◌, length}
use Rattle.numbers_definitions.specs.Powers.{one_bit}
use Rattle.elf_read.specs.Headers.{class_of, symbol_size, relocation_size, section_count}
use Rattle.elf_read.specs.Sections.{NULL, SYMTAB, RELA, NOBITS, REL, section_at, allocated, loaded, symbol_table, counting_rel, counting_rela, relocations_below}
use Rattle.elf_read.specs.Entries.{symbol_entries}
use Rattle.elf_check.specs.Rules.{max_symbols, max_relocations}

-- the rules of section i if it is a SYMTAB
pub record SoundSymbols (s : List ℕ) (i : ℕ) : Type 0 where
  -- "At most one SYMTAB", "The higher row of two is at fault."
  pub lowest : i ≡ symbol_table s
  -- "entry size 16, whole entries, at most 1,024"; document 02: up to 8,192
  pub entries : (section_at s i).entsize ≡ symbol_size (class_of s)
  pub whole : (section_at s i).size % symbol_size (class_of s) ≡ 0
  pub few : symbol_entries (class_of s) (section_at s i) ≤ max_symbols

-- the rules of section i if it is a counting RELA
pub record SoundRela (s : List ℕ) (i : ℕ) : Type 0 where
  -- "entry size 12, whole entries"
  pub entries : (section_at s i).entsize ≡ relocation_size (class_of s)
  pub whole : (section_at s i).size % relocation_size (class_of s) ≡ 0
  -- "links to the SYMTAB (the lowest, if there are two)"
  pub some_table : symbol_table s < section_count s
  pub linked : (section_at s i).link ≡ symbol_table s
  -- "and targets a laid row that no lower counting RELA targets"
  pub target_there : (section_at s i).info < section_count s
  pub target_loaded : loaded (section_at s (section_at s i).info) ≡ true
  pub new_target : (j : ℕ) → j < i → counting_rela s j ≡ true → (section_at s j).info ≡ (section_at s i).info → ⊥
  -- "All counting RELA rows together hold at most 4,096 records; the row that passes this is at fault."; document 02: up to 32,768
  pub few : relocations_below s (suc i) ≤ max_relocations

-- section i keeps every rule
pub record SoundSection (s : List ℕ) (i : ℕ) : Type 0 where
  -- "Row 0 is NULL."
  pub null_first : i ≡ 0 → (section_at s i).kind ≡ NULL
  -- "Except for NULL and NOBITS, offset + size stays inside the file."
  pub inside : ((section_at s i).kind ≡ NULL → ⊥) → ((section_at s i).kind ≡ NOBITS → ⊥) → (section_at s i).offset.0 + (section_at s i).size ≤ length s
  -- "An allocated row has alignment 0, or an alignment with exactly one bit set; it is not SYMTAB, RELA or REL."
  pub aligned : allocated (section_at s i) ≡ true → ((section_at s i).alignment ≡ 0) ⊎ (one_bit 64 (section_at s i).alignment ≡ true)
  pub no_table : allocated (section_at s i) ≡ true → (section_at s i).kind ≡ SYMTAB → ⊥
  pub no_rela : allocated (section_at s i) ≡ true → (section_at s i).kind ≡ RELA → ⊥
  pub no_rel : allocated (section_at s i) ≡ true → (section_at s i).kind ≡ REL → ⊥
  -- the rules of a SYMTAB
  pub symbols : (section_at s i).kind ≡ SYMTAB → SoundSymbols s i
  -- "A counting REL is refused."
  pub without_counting_rel : counting_rel s i ≡ false
  -- the rules of a counting RELA
  pub rela : counting_rela s i ≡ true → SoundRela s i
