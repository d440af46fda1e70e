-- `relocations_check_one::Source::step_store` meets its contract.
use mathlib.Core.Path.{refl, sym, ◌∙◌}
use native.Mathlib.Omega.{arith}
use Rattle.placing_symbols.specs.Arrays.{listed}
use Rattle.relocations_types.specs.declared.Decision.TheVariants.{Store}
use Rattle.relocations_rela.proofs.Laws.Trails.{shape_by_inside}
use Rattle.relocations_check_one.proofs.Laws.Outcomes.{shape_read, shape_breaks}
use Rattle.relocations_check_one.proofs.Source.step_store.Goals as goal

pub returns-then-not-is_shape_well : goal.returns-then-not-is_shape_well
returns-then-not-is_shape_well c =
    let a = c.args in
    (shape_breaks a.self.now.object.now a.site a.j a.trail (Store a.rule) a.here c.requires.0 (listed a.self.now.values.now a.self.now.states.now) (sym c.is_shape_well.ensures ∙ c.if-not-is_shape_well.true), (c.requires.1, refl))

pub check_store-requires : goal.check_store-requires
check_store-requires c =
    let a = c.args in
    let f = c.requires.0 in
    let shape = sym (shape_read a.self.now.object.now a.site a.j a.trail (Store a.rule) a.here f) ∙ sym c.is_shape_well.ensures ∙ c.if-not-is_shape_well.false in
    (record { there = f.there; read = f.read; decided = sym f.decided; shape = shape }, c.requires.1)

pub advance-requires : goal.advance-requires
advance-requires c =
    let a = c.args in
    (c.stack_bits-width.ensures, omega (arith, c.requires.0.there.site.bytes, shape_by_inside a.trail (Store a.rule) a.here a.site.target.size (sym c.is_shape_well.ensures ∙ c.if-not-is_shape_well.false)))
