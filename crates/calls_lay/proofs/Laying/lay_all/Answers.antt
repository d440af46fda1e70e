-- `calls_lay::Laying::lay_all` meets its contract.
use mathlib.Core.Path.{◌≡◌, refl, sym, ap, ◌∙◌, subst}
use mathlib.Core.List.{List}
use Prim.Native.Nat.{ℕ}
use native.Mathlib.Numerals.{add-one}
use native.Mathlib.Omega.{arith}
use lib.ListN.{length}
use Rattle.elf_read.specs.Headers.{section_count}
use Rattle.calls_judgement.specs.Requires.{Fitting, with_section}
use Rattle.calls_judgement.proofs.Laws.Laying.{is_sound, laid_below, laid_none, laid_more, laid_all}
use Rattle.calls_lay.proofs.Laying.lay_all.Goals as goal
use Rattle.calls_lay.proofs.Laying.lay_all.Goals.{After-section_count-n, Start}

abbrev S : Start → List ℕ
S c = c.args.self.now.object.now

abbrev O : Start → List ℕ
O c = c.args.self.now.order.now.bytes.now

abbrev Image : Start → List ℕ
Image c = c.args.image.now

count_is : (c : After-section_count-n) → c.section_count-n.result ≡ section_count (S (goal.at.After-section_count-n c).Start)
count_is c = c.section_count-n.ensures

pub section_count-n-requires : goal.section_count-n-requires
section_count-n-requires c = let s = (goal.at.section_count-n-requires c).Start in (is_sound (S s) (O s) c.args.self.now.order.now.counts (length (Image s)) c.requires).table.header

pub loop-t-init : goal.loop-t-init
loop-t-init c = let s = (goal.at.loop-t-init c).Start in (refl, sym (laid_none (S s) (O s) (Image s)))

pub lay_one-requires : goal.lay_one-requires
lay_one-requires c =
    let s = (goal.at.lay_one-requires c).Start in
    (subst (Fitting (S s) (O s) c.args.self.now.order.now.counts) (sym c.loop-t.invariant.0) c.requires, omega (arith, c.loop-t-test.true, count_is (goal.at.lay_one-requires c).After-section_count-n))

pub loop-t-preserved : goal.loop-t-preserved
loop-t-preserved c =
    let s = (goal.at.loop-t-preserved c).Start in
    (omega arith, rw add-one (c.lay_one.ensures ∙ ap (with_section (S s) (O s) c.loop-t.t) c.loop-t.invariant.1 ∙ sym (laid_more (S s) (O s) (Image s) c.loop-t.t)))

pub returns : goal.returns
returns c =
    let s = (goal.at.returns c).Start in
    let stop : c.loop-t.t ≡ section_count (S s) = omega (arith, c.loop-t-test.false, c.loop-t.auto.t-end, count_is (goal.at.returns c).After-section_count-n) in
    c.loop-t.invariant.1 ∙ ap (laid_below (S s) (O s) (Image s)) stop ∙ laid_all (S s) (O s) (Image s)
