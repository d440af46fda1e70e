-- `elf_check::targets_differ` meets its contract.
use mathlib.Core.Path.{◌≡◌, refl, sym, ap, ◌∙◌, subst}
use mathlib.Core.Bool.{true, false}
use Prim.Native.Nat.{◌<◌}
use native.Mathlib.Omega.{arith}
use lib.ListN.{get_or, length-set}
use Rattle.elf_read.specs.Headers.{section_count}
use Rattle.elf_read.specs.Sections.{section_at, counting_rela}
use Rattle.elf_check.proofs.Laws.Targets.{MetBelow, met_none, met_skip, met_twice, met_more, met_all, target_there}
use Rattle.elf_check.proofs.targets_differ.Goals as goal
use Rattle.elf_check.proofs.targets_differ.Goals.{After-read_section-target, then-is_counting_rela+else-met-target, else-is_counting_rela}

-- the section counts, and its target is in the table
counts : (c : After-read_section-target) → counting_rela c.args.object.now c.loop-i.i ≡ true
counts c = sym c.is_counting_rela.ensures ∙ c.if-is_counting_rela.true

target : (c : After-read_section-target) → c.read_section-target.result.info ≡ (section_at c.args.object.now c.loop-i.i).info
target c = ap (λ x. x.info) c.read_section-target.ensures

there : (c : After-read_section-target) → c.read_section-target.result.info < section_count c.args.object.now
there c = omega (arith, target c, target_there c.args.object.now c.loop-i.i (counts c))

pub loop-i-init : goal.loop-i-init
loop-i-init c = (met_none _ 128, refl)

pub bounds-met-target : goal.bounds-met-target
bounds-met-target c = omega (arith, there (goal.at.bounds-met-target c).After-read_section-target, c.requires.few)

pub returns-then-met-target : goal.returns-then-met-target
returns-then-met-target c =
    let at = (goal.at.returns-then-met-target c).After-read_section-target in
    sym (met_twice c.args.object.now c.loop-i.met c.loop-i.i c.loop-i.invariant.0 (omega (arith, c.section_count-i-end.ensures)) (counts at) (sym (ap (λ t. get_or c.loop-i.met t false) (target at)) ∙ c.if-met-target.true))

pub bounds-met-target-then-is_counting_rela : goal.bounds-met-target-then-is_counting_rela
bounds-met-target-then-is_counting_rela c = omega (arith, there (goal.at.bounds-met-target-then-is_counting_rela c).After-read_section-target, c.requires.few)

pub loop-i-preserved : goal.loop-i-preserved
loop-i-preserved c =
    let s = c.args.object.now in
    let at = c.loop-i in
    elim c.if-is_counting_rela.branch [
      | then-is_counting_rela+else-met-target w ↦
          (let e : counting_rela s at.i ≡ true = sym c.is_counting_rela.ensures ∙ w.if-is_counting_rela.true in
          let is : w.read_section-target.result.info ≡ (section_at s at.i).info = ap (λ x. x.info) w.read_section-target.ensures in
          rw w.met-is (met_more s at.met at.i _ at.invariant.0 e is (omega (arith, is, target_there s at.i e, c.requires.few, at.invariant.1)) w.if-met-target.false, length-set at.met _ _ ∙ at.invariant.1))
      | else-is_counting_rela w ↦
          rw w.met-is (met_skip s at.met at.i at.invariant.0 (sym c.is_counting_rela.ensures ∙ w.if-is_counting_rela.false), at.invariant.1)
    ]

pub returns : goal.returns
returns c =
    let stop : c.loop-i.i ≡ section_count c.args.object.now = omega (arith, c.section_count-i-end.ensures) in
    sym (met_all c.args.object.now c.loop-i.met (subst (MetBelow c.args.object.now c.loop-i.met) stop c.loop-i.invariant.0))
