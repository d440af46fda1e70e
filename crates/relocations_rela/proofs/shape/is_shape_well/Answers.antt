-- `relocations_rela::shape::is_shape_well` meets its contract.
use Rattle.relocations_rela.specs.Trails.{shape_by}
use Rattle.relocations_rela.proofs.shape.is_shape_well.Goals as goal

pub returns : goal.returns
unfolding shape_by
returns c =
    rw (c.is_addend_allowed.ensures, c.is_refused.ensures, c.is_store.ensures, c.requires, c.ends_within-inside.ensures, c.bytes_touched.ensures)
