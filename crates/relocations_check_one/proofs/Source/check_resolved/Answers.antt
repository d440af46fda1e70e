-- `relocations_check_one::Source::check_resolved` meets its contract.
use Rattle.std.specs.Prelude.{None, Option, Some}
use Rattle.std.proofs.lemmas.Result.{err_from_is_err_and}
use mathlib.Core.Path.{◌≡◌, refl, sym, ap, ◌∙◌}
use mathlib.Core.Bool.{true, false, cond}
use borrow.Author.Tests.{not-true, not-false}
use Rattle.std.specs.Option.{is_some, unwrap_or}
use Prim.Native.Nat.{ℕ, ◌+◌}
use native.Mathlib.Omega.{arith}
use Rattle.numbers_definitions.specs.Whole.{signed}
use Rattle.numbers_definitions.proofs.Laws.Tests.{never}
use Rattle.placing_symbols.specs.Arrays.{listed}
use Rattle.placing_symbols.specs.Reasons.{SymbolValue}
use Rattle.elf_read.specs.Headers.{class_of, address_width}
use Rattle.elf_read.specs.declared.Relocation.{Relocation}
use Rattle.relocations_decisions.specs.Decisions.{is_store}
use Rattle.relocations_rela.proofs.Laws.Shape.{shape_inside}
use Rattle.relocations_rules.specs.declared.Finding.TheVariants.{OutOfReach}
use Rattle.placing_symbols.specs.declared.Reason.TheVariants.{OutsideTarget}
use Rattle.relocations_rules.specs.Rules.{is_one, stands_well}
use Rattle.relocations_rules.proofs.Laws.Rules.{form_read}
use Rattle.relocations_bytes.specs.Patches.{patched}
use Rattle.relocations_bytes.proofs.Laws.Sections.{place_read}
use Rattle.relocations_patch.proofs.Laws.Regular.{rules_regular}
use Rattle.relocations_check_one.specs.Outcomes.{finding_by}
use Rattle.relocations_check_one.proofs.Laws.Outcomes.{store_finding, target_sum, finding_read, word_read, symbol_breaks}
use Rattle.relocations_check_one.proofs.Source.check_resolved.Goals as goal
use Rattle.relocations_check_one.proofs.Source.check_resolved.Goals.{After-apply_rule-applied, Else-is_none, Start}

one_some : (o : Option ℕ) → is_some o ≡ is_one o
one_some (Some n) = refl
one_some None = refl

some_is : (o : Option ℕ) → is_some o ≡ true → o ≡ Some (unwrap_or o 0)
some_is (Some n) e = refl
some_is None e = never e

abbrev V : Start → ℕ → SymbolValue
V c = listed c.args.self.now.values.now c.args.self.now.states.now

pub returns-in_err-high : goal.returns-in_err-high
returns-in_err-high c =
    let a = c.args in
    let e = c.in_err-high.ensures in
    let p = err_from_is_err_and c.from_residual.result c.from_residual.ensures.1 in
    rw (p.1, p.2) (symbol_breaks (V (goal.at.returns-in_err-high c).Start) a.self.now.object.now a.site a.j a.rule a.here c.requires.0 e.0.0 ∙ sym (ap Some e.0.1), e.1)

pub apply_rule-applied-requires : goal.apply_rule-applied-requires
apply_rule-applied-requires c =
    rules_regular _ _ _ _ c.requires.0.decided

-- the first of 11 to 13 that is broken, by what was worked out
finding_is : (c : After-apply_rule-applied)
    → let a = c.args in
    let v = V (goal.at.After-apply_rule-applied c).Start in
    let r = c.apply_rule-applied.result in
    finding_by v a.self.now.object.now a.site a.j ≡ store_finding OutsideTarget true r.stands (is_one c.in_ok-high.high) r.reaches
finding_is c =
    let a = c.args in
    let s = a.self.now.object.now in
    let f = c.requires.0 in
    let place = c.place_of.ensures in
    let e = rw (c.class_of-class.ensures, f.there.site.flagged) at c.apply_rule-applied.ensures in
    let takes = c.in_ok-high.ensures.0 in
    let at = place_read s a.site a.j a.here _ f.read place f.there.site (shape_inside s a.site a.j f.shape) (ap is_store f.decided) ∙ sym (ap (λ (r : Relocation). a.site.address.0 + r.offset.0) f.read) in
    let forms =
    e.0 ∙ ap (λ p. stands_well (class_of s) a.rule.form p c.found_bytes-found.result) at ∙ ap (stands_well (class_of s) a.rule.form (a.site.address.0 + a.here.offset.0)) c.found_bytes-found.ensures
    ∙ form_read s a.site a.j a.rule _ a.here f.decided refl f.read in
    finding_read (V (goal.at.After-apply_rule-applied c).Start) s a.site a.j a.rule a.here f _ c.requires.2 _ place _ _ _ _ takes.symbol_is forms takes.pair_is e.1
    (sym (target_sum (class_of s) _ _ _ (omega arith) refl c.symbol_sum.ensures))

pub returns-then-not-applied : goal.returns-then-not-applied
returns-then-not-applied c =
    let e = c.in_ok-high.ensures in
    let r = c.apply_rule-applied.result in
    (finding_is (goal.at.returns-then-not-applied c).After-apply_rule-applied ∙ ap (λ b. store_finding OutsideTarget true b (is_one c.in_ok-high.high) r.reaches) (not-true _ c.if-not-applied.true), e.1)

pub returns-then-is_none : goal.returns-then-is_none
returns-then-is_none c =
    let e = c.in_ok-high.ensures in
    let r = c.apply_rule-applied.result in
    let none : is_one c.in_ok-high.high ≡ false = sym (one_some c.in_ok-high.high) ∙ c.if-is_none.ensures in (
      finding_is (goal.at.returns-then-is_none c).After-apply_rule-applied ∙ ap (λ b. store_finding OutsideTarget true b (is_one c.in_ok-high.high) r.reaches) (not-false _ c.if-not-applied.false)
          ∙ ap (λ b. store_finding OutsideTarget true true b r.reaches) none,
      e.1,
    )

-- where the form stands and the pair is there
reach_left : (c : Else-is_none)
    → finding_by (V (goal.at.Else-is_none c).Start) c.args.self.now.object.now c.args.site c.args.j ≡ cond c.apply_rule-applied.result.reaches None (Some OutOfReach)
reach_left c =
    let r = c.apply_rule-applied.result in
    let one : is_one c.in_ok-high.high ≡ true = sym (one_some c.in_ok-high.high) ∙ c.if-is_none.ensures in
    finding_is (goal.at.Else-is_none c).After-apply_rule-applied ∙ ap (λ b. store_finding OutsideTarget true b (is_one c.in_ok-high.high) r.reaches) (not-false _ c.if-not-applied.false)
    ∙ ap (λ b. store_finding OutsideTarget true true b r.reaches) one

pub returns-then-not-applied-2 : goal.returns-then-not-applied-2
returns-then-not-applied-2 c =
    let e = c.in_ok-high.ensures in
    (reach_left (goal.at.returns-then-not-applied-2 c).Else-is_none ∙ ap (λ b. cond b None (Some OutOfReach)) (not-true _ c.if-not-applied-2.true), e.1)

pub returns : goal.returns
returns c =
    let a = c.args in
    let s = a.self.now.object.now in
    let f = c.requires.0 in
    let place = c.place_of.ensures in
    let e = rw (c.class_of-class.ensures, f.there.site.flagged) at c.apply_rule-applied.ensures in
    let takes = c.in_ok-high.ensures in
    let high : c.in_ok-high.high ≡ Some c.unwrap_or.result = some_is c.in_ok-high.high c.if-is_none.ensures ∙ sym (ap Some c.unwrap_or.ensures) in (
      (
        reach_left (goal.at.returns c).Else-is_none ∙ ap (λ b. cond b None (Some OutOfReach)) (not-false _ c.if-not-applied-2.false),
        word_read (V (goal.at.returns c).Start) s a.site a.j a.rule a.here f _ c.requires.2 _ place _ _ _ _
            (e.2
            ∙ ap (λ b. patched (address_width s) a.rule.calculation a.rule.field b (signed 64 c.symbol_sum.result) c.place_of.result.0 c.unwrap_or.result)
            (c.present.ensures ∙ ap (cond a.shares a.last) c.found_bytes-found.ensures))
            (omega arith) c.symbol_sum.ensures (takes.0.distance_is _ high),
      ),
      takes.1,
    )
