-- `relocations_patch::both_halves` meets its contract.
use native.Mathlib.Omega.{arith}
use Rattle.relocations_patch.proofs.both_halves.Goals as goal

pub overflow_add-result : goal.overflow_add-result
overflow_add-result c =
    omega (arith, c.low_part.ensures.1, c.high_part.ensures.1)

pub returns : goal.returns
returns c =
    rw (c.high_part.ensures.0, c.low_part.ensures.0 c.args.class)
