-- `calls_install::finish` meets its contract.
use mathlib.Core.Path.{◌≡◌, sym, ap, ◌∙◌}
use mathlib.Core.Bool.{Bool, true}
use Prim.Native.Nat.{ℕ, ◌≤◌}
use native.Mathlib.Omega.{arith}
use lib.Dec.{leb}
use borrow.Author.Tests.{leb-true}
use Rattle.elf_read.specs.Sections.{relocations_below}
use Rattle.elf_read.specs.Entries.{relocation_count}
use Rattle.elf_check.specs.Requires.{SoundObject}
use Rattle.elf_check.proofs.Laws.Objects.{sound_object}
use Rattle.elf_check.proofs.Laws.Bounds.{relocations_few}
use Rattle.calls_install.proofs.finish.Goals as goal
use Rattle.calls_install.proofs.finish.Goals.{After-section_count-n, Start}

is_sound : (c : Start) → SoundObject c.args.object.now
is_sound c = let r = c.requires.0.named.readable in sound_object c.args.object.now r.header r.sections

-- what is said of the sections below that number is said of all
all_of : (c : After-section_count-n) (most : ℕ) (b : Bool) → b ≡ leb (relocations_below c.args.object.now c.section_count-n.result) most → b ≡ true
    → relocation_count c.args.object.now ≤ most
all_of c most b e t =
    let s = c.args.object.now in
    leb-true (relocation_count s) most (ap (λ n. leb (relocations_below s n) most) (sym c.section_count-n.ensures) ∙ sym e ∙ t)

pub section_count-n-requires : goal.section_count-n-requires
section_count-n-requires c = (is_sound (goal.at.section_count-n-requires c).Start).table.header

pub relocations_within-requires : goal.relocations_within-requires
relocations_within-requires c = ((is_sound (goal.at.relocations_within-requires c).Start).table, omega (arith, c.section_count-n.ensures))

pub with_scratch-requires : goal.with_scratch-requires
with_scratch-requires c =
    (c.requires.0, c.requires.1, c.requires.2, all_of (goal.at.with_scratch-requires c).After-section_count-n 256 _ c.relocations_within.ensures c.if-relocations_within.true, omega arith, c.requires.3)

pub relocations_within-requires-2 : goal.relocations_within-requires-2
relocations_within-requires-2 c =
    ((is_sound (goal.at.relocations_within-requires-2 c).Start).table, omega (arith, c.section_count-n.ensures))

pub with_scratch-requires-then-relocations_within-2 : goal.with_scratch-requires-then-relocations_within-2
with_scratch-requires-then-relocations_within-2 c =
    (c.requires.0, c.requires.1, c.requires.2, all_of (goal.at.with_scratch-requires-then-relocations_within-2 c).After-section_count-n 4096 _ c.relocations_within-2.ensures c.if-relocations_within-2.true, omega arith, c.requires.3)

pub with_scratch-requires-2 : goal.with_scratch-requires-2
with_scratch-requires-2 c =
    (c.requires.0, c.requires.1, c.requires.2, relocations_few _ (is_sound (goal.at.with_scratch-requires-2 c).Start), omega arith, c.requires.3)
