-- `elf_read::locate` meets its contract.
use mathlib.Core.Path.{◌≡◌, refl, ap, ◌∙◌}
use Prim.Native.Nat.{suc, ◌+◌, ◌≤◌, ◌<◌}
use native.Mathlib.Numerals.{add-one}
use native.Mathlib.Omega.{arith}
use borrow.Author.Count.{below_more}
use borrow.Author.Tests.{le-ltb}
use Rattle.numbers_definitions.specs.Sums.{sum}
use Rattle.numbers_definitions.proofs.Laws.Sums.{sum_mono}
use Rattle.elf_read.specs.Headers.{section_count}
use Rattle.elf_read.specs.Sections.{relocations_in, relocations_below}
use Rattle.elf_read.proofs.Laws.Entries.{located, located_nowhere}
use Rattle.elf_read.proofs.locate.Goals as goal

pub loop-i-init : goal.loop-i-init
unfolding sum
loop-i-init c = (refl, omega arith, λ j h. absurd (omega arith))

-- the relocations up to here are some of all
pub overflow_add-below : goal.overflow_add-below
unfolding sum
overflow_add-below c =
    let s = c.args.object.now in
    let bound : relocations_below s (suc c.loop-i.i) ≤ relocations_below s (section_count s) = sum_mono (relocations_in s) (suc c.loop-i.i) (section_count s) (omega (arith, c.section_count-n.ensures)) in
    omega (arith, c.relocations_in-here.ensures, c.requires.1, c.loop-i.invariant.0)

pub returns-then-k-below : goal.returns-then-k-below
unfolding sum
returns-then-k-below c =
    let s = c.args.object.now in
    let k = c.args.k in
    let at = c.loop-i in
    let there : at.i < section_count s = omega arith in
    let here : k < relocations_below s (suc at.i) = omega (arith, c.relocations_in-here.ensures) in
    rw at.invariant.0 (located s k at.i there at.invariant.2 here)

pub loop-i-preserved : goal.loop-i-preserved
unfolding sum
loop-i-preserved c =
    let s = c.args.object.now in
    let k = c.args.k in
    let at = c.loop-i in
    let sum : at.below + c.relocations_in-here.result ≡ relocations_below s (suc at.i) = omega (arith, c.relocations_in-here.ensures) in
    (rw add-one sum, omega arith, below_more _ _ at.invariant.2 (le-ltb k (relocations_below s (suc at.i)) (omega arith)))

pub returns : goal.returns
returns c =
    let s = c.args.object.now in
    let at = c.loop-i in
    let count : c.section_count-n.result ≡ section_count s = c.section_count-n.ensures in
    let end : at.i ≡ section_count s = omega arith in
    let total : at.below ≡ relocations_below s (section_count s) = at.invariant.0 ∙ ap (relocations_below s) end in
    rw (count, total) (located_nowhere s c.args.k (λ j h. at.invariant.2 j (omega arith)))
