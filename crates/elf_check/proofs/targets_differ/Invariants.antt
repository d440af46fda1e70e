-- `elf_check::targets_differ` meets its contract. The invariant: the RELA sections below `i` have been met at their targets, which differ.
use mathlib.Core.Path.{◌≡◌}
use lib.ListN.{length}
use Rattle.elf_read.specs.Headers.{max_sections}
use Rattle.elf_check.proofs.Laws.Targets.{MetBelow}
use Rattle.elf_check.proofs.targets_differ.Given as goal

abbrev pub invariant-loop-i : goal.invariant-loop-i
invariant-loop-i l = MetBelow l.object l.met l.i × (length l.met ≡ max_sections)
