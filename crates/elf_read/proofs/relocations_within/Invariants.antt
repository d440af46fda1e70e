-- `elf_read::relocations_within` meets its contract.
use mathlib.Core.Path.{◌≡◌}
use Prim.Native.Nat.{◌+◌}
use Rattle.elf_read.specs.Sections.{relocations_below}
use Rattle.elf_read.proofs.relocations_within.Given as goal

abbrev pub invariant-loop-j : goal.invariant-loop-j
invariant-loop-j l = l.left + relocations_below l.object l.j ≡ l.most
