-- `relocations_rela::shape::shares_place` meets its contract.
use mathlib.Core.Path.{refl}
use Rattle.relocations_rela.specs.Trails.{shares_width}
use Rattle.relocations_rela.proofs.shape.shares_place.Goals as goal

pub returns : goal.returns
unfolding shares_width
returns c = refl
