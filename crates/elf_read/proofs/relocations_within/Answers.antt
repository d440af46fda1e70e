-- `elf_read::relocations_within` meets its contract.
use mathlib.Core.Path.{sym}
use Prim.Native.Nat.{suc, ◌≤◌}
use native.Mathlib.Numerals.{add-one}
use native.Mathlib.Omega.{arith}
use borrow.Author.Tests.{lt-leb}
use Rattle.numbers_definitions.specs.Sums.{sum}
use Rattle.numbers_definitions.proofs.Laws.Sums.{sum_mono}
use Rattle.elf_read.specs.Sections.{relocations_in, relocations_below}
use Rattle.elf_read.proofs.relocations_within.Goals as goal

pub loop-j-init : goal.loop-j-init
unfolding sum
loop-j-init c = omega arith

pub returns-then-left-here : goal.returns-then-left-here
unfolding sum
returns-then-left-here c =
    let s = c.args.object.now in
    let more : relocations_below s (suc c.loop-j.j) ≤ relocations_below s c.args.i = sum_mono (relocations_in s) (suc c.loop-j.j) c.args.i (omega arith) in
    sym (lt-leb (relocations_below s c.args.i) c.args.most (omega (arith, c.relocations_in-here.ensures, c.loop-j.invariant, c.if-left-here.true)))

pub loop-j-preserved : goal.loop-j-preserved
unfolding sum
loop-j-preserved c =
    rw add-one (omega (arith, c.relocations_in-here.ensures, c.loop-j.invariant))
