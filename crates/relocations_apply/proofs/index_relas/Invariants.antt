-- `relocations_apply::index_relas` meets its contract. The invariant: the RELA sections below `i` are listed.
use mathlib.Core.Path.{◌≡◌}
use lib.ListN.{length}
use Rattle.elf_read.specs.Sections.{relocations_below}
use Rattle.relocations_apply.proofs.Laws.Relas.{IndexedBelow}
use Rattle.relocations_apply.proofs.index_relas.Given as goal

abbrev pub invariant-loop-i : goal.invariant-loop-i
invariant-loop-i l = (l.number ≡ relocations_below l.object l.i) × IndexedBelow l.object l.relas l.i × (length l.relas ≡ length l.initial.relas)
