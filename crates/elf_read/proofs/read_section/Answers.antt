-- `elf_read::read_section` meets its contract.
use Rattle.elf_read.specs.Sections.{section_at}
use Rattle.elf_read.proofs.read_section.Goals as goal

pub returns : goal.returns
unfolding section_at
returns c =
    rw (c.section_header.ensures, c.section_size.ensures, c.section_table-table.ensures, c.class_of-class.ensures)
