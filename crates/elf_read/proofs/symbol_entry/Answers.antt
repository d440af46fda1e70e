-- `elf_read::symbol_entry` meets its contract.
use Rattle.elf_read.specs.Entries.{read_symbol}
use Rattle.elf_read.proofs.symbol_entry.Goals as goal

pub returns : goal.returns
unfolding read_symbol
returns c = cc
