-- `elf_read::is_allocated` meets its contract.
use mathlib.Core.Path.{refl}
use Rattle.elf_read.specs.Sections.{allocated}
use Rattle.elf_read.proofs.is_allocated.Goals as goal

pub returns : goal.returns
unfolding allocated
returns c = refl
