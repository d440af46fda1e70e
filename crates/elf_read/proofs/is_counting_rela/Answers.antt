-- `elf_read::is_counting_rela` meets its contract.
use Rattle.elf_read.specs.Sections.{counting_rela}
use Rattle.elf_read.proofs.is_counting_rela.Goals as goal

pub returns : goal.returns
unfolding counting_rela
returns c = rw (c.has_target.ensures, c.read_section-h.ensures)
