-- `relocations_check_one::step_align` meets its contract.
use mathlib.Core.Path.{sym, ◌∙◌}
use native.Mathlib.Omega.{arith}
use Rattle.relocations_rela.proofs.Laws.Trails.{no_width_shares, padded_by}
use Rattle.relocations_check_one.proofs.step_align.Goals as goal

pub is_shape_well-requires : goal.is_shape_well-requires
is_shape_well-requires c = sym (no_width_shares c.args.trail c.args.here.offset.0)

pub is_on_boundary-requires : goal.is_on_boundary-requires
is_on_boundary-requires c =
    let a = c.args in
    padded_by a.trail a.here a.site.target.size (sym c.is_shape_well.ensures ∙ c.if-not-is_shape_well.false) (omega (arith, c.well_formed.1.1.0))
