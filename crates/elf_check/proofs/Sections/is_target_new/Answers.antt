-- `elf_check::Sections::is_target_new` meets its contract.
use mathlib.Core.Path.{◌≡◌, sym, ap, ◌∙◌}
use mathlib.Core.Bool.{Bool, not, ◌&&◌}
use native.Mathlib.Omega.{arith}
use lib.Dec.{eqb}
use Rattle.numbers_definitions.specs.First.{everywhere}
use Rattle.numbers_definitions.proofs.Laws.First.{everywhere_is, everywhere_not}
use Rattle.elf_read.specs.Sections.{section_at, counting_rela}
use Rattle.elf_check.specs.Requires.{target_new}
use Rattle.elf_check.proofs.Laws.Targets.{differ_new}
use Rattle.elf_check.proofs.Sections.is_target_new.Goals as goal
use Rattle.elf_check.proofs.Sections.is_target_new.Goals.{Start}

-- what a RELA relocates is looked at by its number
by_target : (c : Start) (b : Bool) → let a = c.args in
    b ≡ everywhere (λ k. not (counting_rela a.self.now.object.now k && eqb (section_at a.self.now.object.now k).info a.target)) a.i → b ≡ target_new a.self.now.object.now a.i
unfolding target_new
by_target c b e =
    let a = c.args in
    e ∙ ap (λ t. everywhere (λ k. not (counting_rela a.self.now.object.now k && eqb (section_at a.self.now.object.now k).info t)) a.i) c.requires.2

pub returns-then-self : goal.returns-then-self
returns-then-self c =
    let a = c.args in
    sym (differ_new a.self.now.object.now a.i c.requires.0 c.requires.1 (sym c.args.self.now.differ_is ∙ c.if-self.true))

pub returns-then-relocates : goal.returns-then-relocates
returns-then-relocates c =
    by_target (goal.at.returns-then-relocates c).Start _ (sym (everywhere_not _ c.args.i c.loop-j.j (omega arith) (ap not (sym c.relocates.ensures ∙ c.if-relocates.true))))

pub returns : goal.returns
returns c =
    by_target (goal.at.returns c).Start _ (sym (everywhere_is _ c.args.i (λ k h. c.loop-j.invariant k (omega arith))))
