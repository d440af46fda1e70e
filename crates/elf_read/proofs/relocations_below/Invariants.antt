-- `elf_read::relocations_below` meets its contract.
use mathlib.Core.Path.{◌≡◌}
use Rattle.elf_read.specs.Sections.{relocations_below}
use Rattle.elf_read.proofs.relocations_below.Given as goal

abbrev pub invariant-loop-j : goal.invariant-loop-j
invariant-loop-j l = l.total ≡ relocations_below l.object l.j
