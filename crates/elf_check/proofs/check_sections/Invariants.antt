-- `elf_check::check_sections` meets its contract.
use mathlib.Core.Path.{◌≡◌}
use Prim.Native.Nat.{ℕ, ◌<◌}
use mathlib.Core.Bool.{false, not}
use Rattle.elf_check.specs.Rules.{section_well}
use Rattle.elf_check.proofs.check_sections.Given as goal

abbrev pub invariant-loop-i : goal.invariant-loop-i
invariant-loop-i l = (j : ℕ) → j < l.i → not (section_well l.object j) ≡ false
