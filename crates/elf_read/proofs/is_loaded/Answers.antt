-- `elf_read::is_loaded` meets its contract.
use Rattle.elf_read.specs.Sections.{loaded}
use Rattle.elf_read.proofs.is_loaded.Goals as goal

pub returns : goal.returns
unfolding loaded
returns c = rw c.is_allocated.ensures
