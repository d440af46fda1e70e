-- `relocations_apply::apply_all` meets its contract.
use mathlib.Core.Path.{◌≡◌, refl, ap, ◌∙◌}
use Prim.Native.Nat.{◌+◌, ◌<◌}
use native.Mathlib.Numerals.{add-one}
use native.Mathlib.Omega.{arith}
use lib.ListN.{length, get_or}
use lib.Seq.{length-sets}
use Rattle.numbers_definitions.specs.Bytes.{bytes}
use Rattle.relocations_rela.specs.Sites.{count, offset}
use Rattle.relocations_bytes.specs.Sections.{after}
use Rattle.relocations_apply.proofs.Laws.Stores.{stored_next}
use Rattle.relocations_apply.proofs.apply_all.Goals as goal
use Rattle.relocations_apply.proofs.apply_all.Goals.{In-loop-j}

there : (c : In-loop-j) → c.loop-j.j < count c.args.object.now c.args.site
there c = omega (arith, c.loop-j-test.true, c.relocation_entries-n.ensures)

pub loop-j-init : goal.loop-j-init
unfolding after
loop-j-init c = (refl, λ o a w. c.requires.5)

pub loop-j-preserved : goal.loop-j-preserved
loop-j-preserved c =
    let a = c.args in
    let now = c.loop-j in (
      ap length c.store_one.ensures ∙ length-sets now.part (offset a.object.now a.site now.j) (bytes (get_or a.sizes.now (a.base + now.j) 0) (get_or a.words.now (a.base + now.j) 0)) ∙ now.invariant.0,
      λ o l w. rw add-one (stored_next a.object.now o l a.site a.words.now a.sizes.now _ _ a.base now.j w (there (goal.at.loop-j-preserved c).In-loop-j) (now.invariant.1 o l w) c.store_one.ensures),
    )

pub returns : goal.returns
returns c =
    let now = c.loop-j in
    let a = c.args in
    let all : now.j ≡ count a.object.now a.site = omega (arith, c.loop-j-test.false, now.auto.j-end, c.relocation_entries-n.ensures) in
    ((λ o l w. now.invariant.1 o l w ∙ ap (after a.object.now o l a.site) all), now.invariant.0)
