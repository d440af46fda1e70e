-- `order_lookup::placed_at` meets its contract.
use native.Mathlib.Omega.{arith}
use Rattle.order_format.proofs.Laws.Read.{order_sound}
use Rattle.order_lookup.specs.Addresses.{placed_at}
use Rattle.order_lookup.proofs.placed_at.Goals as goal

pub find-requires : goal.find-requires
find-requires c =
    let k = order_sound c.args.order.now in
    record { inside = omega arith; ascends = rw c.placements_start-start.ensures k.placed }

pub returns : goal.returns
unfolding placed_at
returns c = let k = order_sound c.args.order.now in cc
