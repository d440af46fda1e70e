-- `relocations_check_one::step_marker` meets its contract.
use mathlib.Core.Path.{sym}
use Rattle.relocations_rela.proofs.Laws.Trails.{no_width_shares}
use Rattle.relocations_check_one.proofs.step_marker.Goals as goal

pub is_shape_well-requires : goal.is_shape_well-requires
is_shape_well-requires c = sym (no_width_shares c.args.trail c.args.here.offset.0)
