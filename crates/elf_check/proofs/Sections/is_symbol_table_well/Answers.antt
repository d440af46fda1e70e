-- `elf_check::Sections::is_symbol_table_well` meets its contract.
use Rattle.elf_check.specs.Rules.{symbol_table_well}
use Rattle.elf_check.proofs.Sections.is_symbol_table_well.Goals as goal

pub returns : goal.returns
unfolding symbol_table_well
returns c =
    rw (c.symbol_entries.ensures, c.symbol_size-size.ensures.0, c.class_of.ensures, c.args.self.now.table_is, c.read_section-h.ensures)
