-- `elf_read::section_header` meets its contract.
use Rattle.elf_read.specs.Sections.{read_section}
use Rattle.elf_read.proofs.section_header.Goals as goal

pub returns : goal.returns
unfolding read_section
returns c = cc
