-- `elf_read::read_symbol` meets its contract.
use Rattle.elf_read.specs.Entries.{symbol_at}
use Rattle.elf_read.proofs.read_symbol.Goals as goal

pub returns : goal.returns
unfolding symbol_at
returns c =
    rw (c.symbol_entry.ensures, c.entry_place.ensures.0, c.symbol_size.ensures.0, c.class_of-class.ensures)
