-- `relocations_check_all::search::check_site` meets its contract.
use Rattle.std.specs.Prelude.{None}
use Rattle.std.specs.Option.{is_some}
use mathlib.Core.Path.{◌≡◌, refl, sym, ap, ◌∙◌, subst}
use Prim.Native.Nat.{◌+◌, ◌<◌}
use native.Mathlib.Numerals.{add-one}
use native.Mathlib.Omega.{arith}
use lib.ListN.{length-set}
use Rattle.numbers_definitions.proofs.Laws.Tests.{never}
use Rattle.elf_read.specs.Headers.{class_of, has_rvc}
use Rattle.relocations_types.specs.Types.{decision}
use Rattle.relocations_rela.specs.Sites.{count, decision_at}
use Rattle.relocations_rela.specs.Trails.{trail_at}
use Rattle.relocations_check_all.specs.Sites.{KeptBelow, Worded}
use Rattle.relocations_check_all.proofs.Laws.Sites.{Searching, searching_start, searching_next, trail_next, finding_found}
use Rattle.relocations_check_all.proofs.search.check_site.Goals as goal
use Rattle.relocations_check_all.proofs.search.check_site.Goals.{After-decide-decision}

kind : (c : After-decide-decision)
    → c.decide-decision.result ≡ decision_at c.args.source.now.object.now c.args.site c.loop-j.j
kind c =
    c.decide-decision.ensures
    ∙ ap (λ k. decision k c.args.site.rvc c.read_relocation-here.result.kind) c.class_of-class.ensures
    ∙ ap (λ v. decision (class_of c.args.source.now.object.now) v c.read_relocation-here.result.kind) c.requires.0.flagged
    ∙ ap (λ r. decision (class_of c.args.source.now.object.now) (has_rvc c.args.source.now.object.now) r.kind) c.read_relocation-here.ensures

pub loop-j-init : goal.loop-j-init
unfolding trail_at
loop-j-init c =
    let f = c.requires in
    let a = c.args in (
      c.no_trail-trail.ensures,
      record { room = f.1; short = f.2; highs = λ m e. never (ap is_some e) },
      refl,
      refl,
      refl,
      λ o l v.
          subst (λ t. Searching a.source.now.object.now o l a.site a.base a.words.now a.sizes.now a.highs.now a.words.now a.sizes.now a.highs.now t 0 None 0) (sym c.no_trail-trail.ensures)
          (searching_start a.source.now.object.now o l a.site a.base a.words.now a.sizes.now a.highs.now f.1 f.2),
    )

pub returns-in-Err : goal.returns-in-Err
returns-in-Err c =
    let a = c.args in
    let inv = c.loop-j.invariant in
    let e = c.in-Err.ensures in (
      (λ o l v.
          let s = inv.5 o l v in
          record {
            found = record {
              at = c.loop-j.j;
              there = omega (arith, c.loop-j-test.true, c.relocation_entries-n.ensures);
              below = s.kept;
              relocation_is = refl;
              finding_is = sym (finding_found a.source.now.object.now o l a.site a.source.now.values.now a.source.now.states.now a.source.now.lookups.sound v c.loop-j.j) ∙ e.0;
            };
            words_same = s.words_same;
            sizes_same = s.sizes_same;
          }),
      inv.3,
      inv.4,
      e.1.1 ∙ inv.2,
    )

pub loop-j-preserved : goal.loop-j-preserved
loop-j-preserved c =
    let a = c.args in
    let f = c.requires in
    let inv = c.loop-j.invariant in
    let e = c.in-Ok.ensures in
    let r = c.read_relocation-here.ensures in
    let is = kind (goal.at.loop-j-preserved c).After-decide-decision in
    let next = e.0.1.1 in
    let there : c.loop-j.j < count a.source.now.object.now a.site = omega (arith, c.loop-j-test.true, c.relocation_entries-n.ensures) in (
      rw add-one (trail_next a.source.now.object.now a.site c.loop-j.j _ _ _ _ inv.0 is r next.next_is),
      e.1.0,
      e.1.1 ∙ inv.2,
      length-set c.loop-j.words (a.base + c.loop-j.j) c.in-Ok.step.word ∙ inv.3,
      length-set c.loop-j.sizes (a.base + c.loop-j.j) c.in-Ok.step.size ∙ inv.4,
      (λ o l v.
          rw add-one
          (searching_next a.source.now.object.now o l a.site a.base a.words.now a.sizes.now a.highs.now a.source.now.values.now a.source.now.states.now a.source.now.lookups.sound v f.0 _ _ _ _ _ _ _ _ _ _ _ c.loop-j.j _ _ _
          (inv.5 o l v) there f.3 f.4 r is e.0.0 e.0.1.0 e.1.0 e.1.1 next.next_is next.size_is next.left_is)),
    )

pub returns : goal.returns
returns c =
    let a = c.args in
    let inv = c.loop-j.invariant in
    let all : c.loop-j.j ≡ count a.source.now.object.now a.site = omega (arith, c.loop-j-test.false, c.loop-j.auto.j-end, c.relocation_entries-n.ensures) in (
      (λ o l v.
          let s = inv.5 o l v in
          record {
            found = (subst (KeptBelow a.source.now.object.now o l a.site) all s.kept, subst (λ n. Worded a.source.now.object.now o l a.site n c.loop-j.words c.loop-j.sizes a.base) all s.worded);
            words_same = s.words_same;
            sizes_same = s.sizes_same;
          }),
      inv.3,
      inv.4,
      inv.2,
    )
