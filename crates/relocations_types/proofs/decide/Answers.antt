-- `relocations_types::decide` meets its contract.
use mathlib.Core.Path.{refl, sym, ◌∙◌}
use mathlib.Core.Logic.{⊎_elim}
use native.Mathlib.Omega.{arith}
use Rattle.relocations_types.proofs.Laws.Types.{listed, doubled, others_refused, call_types, too_low, too_high}
use Rattle.relocations_types.specs.Types.{among, table, lookup}
use Rattle.relocations_types.proofs.decide.Goals as goal

pub returns-in-0 : goal.returns-in-0
unfolding lookup table among
returns-in-0 c = ⊎_elim (λ e. sym (listed _ _ _ 0 e refl)) (λ e. sym (listed _ _ _ 51 e refl)) c.in-0.is

pub returns-in-43 : goal.returns-in-43
unfolding lookup table among
returns-in-43 c = sym (listed _ _ _ _ c.in-43.is refl)

pub returns-in-1 : goal.returns-in-1
unfolding lookup table among
returns-in-1 c = c.word.ensures ∙ sym (listed _ _ _ _ c.in-1.is refl)

pub returns-in-2 : goal.returns-in-2
returns-in-2 c = c.word64.ensures ∙ sym (doubled _ _ _ c.in-2.is)

pub returns-in-57 : goal.returns-in-57
unfolding lookup table among
returns-in-57 c = c.word-in-57.ensures ∙ sym (listed _ _ _ _ c.in-57.is refl)

pub returns-in-16 : goal.returns-in-16
unfolding lookup table among
returns-in-16 c = c.jump.ensures ∙ sym (listed _ _ _ _ c.in-16.is refl)

pub returns-in-17 : goal.returns-in-17
unfolding lookup table among
returns-in-17 c = c.jump-in-17.ensures ∙ sym (listed _ _ _ _ c.in-17.is refl)

pub returns-in-44 : goal.returns-in-44
unfolding lookup table among
returns-in-44 c = c.short_jump.ensures ∙ sym (listed _ _ _ _ c.in-44.is refl)

pub returns-in-45 : goal.returns-in-45
unfolding lookup table among
returns-in-45 c = c.short_jump-in-45.ensures ∙ sym (listed _ _ _ _ c.in-45.is refl)

pub returns-in-23 : goal.returns-in-23
unfolding lookup table among
returns-in-23 c = c.pairing.ensures ∙ sym (listed _ _ _ _ c.in-23.is refl)

pub returns-in-26 : goal.returns-in-26
unfolding lookup table among
returns-in-26 c = c.of.ensures ∙ sym (listed _ _ _ _ c.in-26.is refl)

pub returns-in-27 : goal.returns-in-27
unfolding lookup table among
returns-in-27 c = c.of-in-27.ensures ∙ sym (listed _ _ _ _ c.in-27.is refl)

pub returns-in-28 : goal.returns-in-28
unfolding lookup table among
returns-in-28 c = c.of-in-28.ensures ∙ sym (listed _ _ _ _ c.in-28.is refl)

pub returns-in-24 : goal.returns-in-24
unfolding lookup table among
returns-in-24 c = c.of-in-24.ensures ∙ sym (listed _ _ _ _ c.in-24.is refl)

pub returns-in-25 : goal.returns-in-25
unfolding lookup table among
returns-in-25 c = c.of-in-25.ensures ∙ sym (listed _ _ _ _ c.in-25.is refl)

pub returns-in-33 : goal.returns-in-33
unfolding lookup table among
returns-in-33 c = c.stacking.ensures ∙ sym (listed _ _ _ _ c.in-33.is refl)

pub returns-in-34 : goal.returns-in-34
unfolding lookup table among
returns-in-34 c = c.stacking-in-34.ensures ∙ sym (listed _ _ _ _ c.in-34.is refl)

pub returns-in-35 : goal.returns-in-35
unfolding lookup table among
returns-in-35 c = c.stacking-in-35.ensures ∙ sym (listed _ _ _ _ c.in-35.is refl)

pub returns-in-36 : goal.returns-in-36
unfolding lookup table among
returns-in-36 c = c.stacking-in-36.ensures ∙ sym (listed _ _ _ _ c.in-36.is refl)

pub returns-in-37 : goal.returns-in-37
unfolding lookup table among
returns-in-37 c = c.stacking-in-37.ensures ∙ sym (listed _ _ _ _ c.in-37.is refl)

pub returns-in-38 : goal.returns-in-38
unfolding lookup table among
returns-in-38 c = c.stacking-in-38.ensures ∙ sym (listed _ _ _ _ c.in-38.is refl)

pub returns-in-39 : goal.returns-in-39
unfolding lookup table among
returns-in-39 c = c.stacking-in-39.ensures ∙ sym (listed _ _ _ _ c.in-39.is refl)

pub returns-in-40 : goal.returns-in-40
unfolding lookup table among
returns-in-40 c = c.stacking-in-40.ensures ∙ sym (listed _ _ _ _ c.in-40.is refl)

pub returns-in-52 : goal.returns-in-52
unfolding lookup table among
returns-in-52 c = c.stacking-in-52.ensures ∙ sym (listed _ _ _ _ c.in-52.is refl)

pub returns-in-53 : goal.returns-in-53
unfolding lookup table among
returns-in-53 c = c.stacking-in-53.ensures ∙ sym (listed _ _ _ _ c.in-53.is refl)

pub returns-in-54 : goal.returns-in-54
unfolding lookup table among
returns-in-54 c = c.stacking-in-54.ensures ∙ sym (listed _ _ _ _ c.in-54.is refl)

pub returns-in-55 : goal.returns-in-55
unfolding lookup table among
returns-in-55 c = c.stacking-in-55.ensures ∙ sym (listed _ _ _ _ c.in-55.is refl)

pub returns-in-56 : goal.returns-in-56
unfolding lookup table among
returns-in-56 c = c.stacking-in-56.ensures ∙ sym (listed _ _ _ _ c.in-56.is refl)

pub returns-in-18 : goal.returns-in-18
unfolding lookup table among
returns-in-18 c =
    let h = c.in-18 in
    c.of-in-18.ensures
    ∙ ⊎_elim (λ e. sym (listed _ _ _ 18 e refl)) (λ e. sym (listed _ _ _ 19 e refl))
    (call_types c.args.number h.if-number-lt16-own.false h.if-number-lt20-own.true h.in_default-own.rest)

pub returns-in-3-to-15 : goal.returns-in-3-to-15
returns-in-3-to-15 c =
    let t = c.args.number in
    let h = c.in-3-to-15 in
    let low = h.if-number-lt16-own.true in
    sym (others_refused _ _ t h.in_default-own.rest (⊎_elim (too_low t low 18 (omega arith)) (too_low t low 19 (omega arith))))

pub returns-in-3-to-15-2 : goal.returns-in-3-to-15-2
returns-in-3-to-15-2 c =
    let t = c.args.number in
    let h = c.in-3-to-15 in
    let high = h.if-number-lt20-own.false in
    sym (others_refused _ _ t h.in_default-own.rest (⊎_elim (too_high t high 18 (omega arith)) (too_high t high 19 (omega arith))))
