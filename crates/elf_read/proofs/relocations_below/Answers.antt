-- `elf_read::relocations_below` meets its contract.
use mathlib.Core.Path.{refl}
use Prim.Native.Nat.{suc, ◌≤◌}
use native.Mathlib.Numerals.{add-one}
use native.Mathlib.Omega.{arith}
use Rattle.numbers_definitions.specs.Sums.{sum}
use Rattle.numbers_definitions.proofs.Laws.Sums.{sum_mono}
use Rattle.elf_read.specs.Sections.{relocations_in, relocations_below}
use Rattle.elf_read.proofs.relocations_below.Goals as goal

pub loop-j-init : goal.loop-j-init
unfolding sum
loop-j-init c = refl

pub overflow_add-total : goal.overflow_add-total
unfolding sum
overflow_add-total c =
    let s = c.args.object.now in
    let bound : relocations_below s (suc c.loop-j.j) ≤ relocations_below s c.args.i = sum_mono (relocations_in s) (suc c.loop-j.j) c.args.i (omega arith) in
    omega (arith, c.relocations_in-total.ensures, c.requires.2, c.loop-j.invariant)

pub loop-j-preserved : goal.loop-j-preserved
unfolding sum
loop-j-preserved c = rw add-one (omega (arith, c.relocations_in-total.ensures))
