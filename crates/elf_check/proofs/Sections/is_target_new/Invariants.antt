-- `elf_check::Sections::is_target_new` meets its contract.
use mathlib.Core.Path.{◌≡◌}
use Prim.Native.Nat.{ℕ, ◌<◌}
use mathlib.Core.Bool.{true, not, ◌&&◌}
use lib.Dec.{eqb}
use Rattle.elf_read.specs.Sections.{section_at, counting_rela}
use Rattle.elf_check.proofs.Sections.is_target_new.Given as goal

abbrev pub invariant-loop-j : goal.invariant-loop-j
invariant-loop-j l = (k : ℕ) → k < l.j → not (counting_rela l.self.object.now k && eqb (section_at l.self.object.now k).info l.target) ≡ true
