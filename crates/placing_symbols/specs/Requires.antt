-- What functions require of their callers.
use Rattle.std.specs.Prelude.{◌≡◌, List, ℕ, ◌<◌}
use Rattle.elf_read.specs.Sections.{section_at, symbol_table}
use Rattle.elf_read.specs.Entries.{symbol_count}
use Rattle.placing_symbols.specs.declared.Symbols.{Symbols}

-- the symbol table that a lookup is given is that of the object; without symbols its header may be any
pub record SymbolsOf (object : List ℕ) (y : Symbols) : Type 0 where
  pub count : y.count ≡ symbol_count object
  pub table : 0 < y.count → y.table ≡ section_at object (symbol_table object)
