-- `elf_read::locate` meets its contract.
use mathlib.Core.Path.{◌≡◌}
use Prim.Native.Nat.{◌≤◌}
use Rattle.elf_read.specs.Sections.{relocations_below}
use Rattle.elf_read.proofs.Laws.Entries.{NotBelow}
use Rattle.elf_read.proofs.locate.Given as goal

abbrev pub invariant-loop-i : goal.invariant-loop-i
invariant-loop-i l =
    (l.below ≡ relocations_below l.object l.i) × (l.below ≤ l.k) × NotBelow l.object l.k l.i
