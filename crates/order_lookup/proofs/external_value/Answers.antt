-- `order_lookup::external_value` meets its contract.
use native.Mathlib.Omega.{arith}
use Rattle.order_format.proofs.Laws.Read.{order_sound}
use Rattle.order_lookup.specs.Values.{external_value}
use Rattle.order_lookup.proofs.external_value.Goals as goal

pub externals_start-start-requires : goal.externals_start-start-requires
externals_start-start-requires c = (order_sound c.args.order.now).few

pub find-requires : goal.find-requires
find-requires c =
    let k = order_sound c.args.order.now in
    record { inside = omega arith; ascends = rw c.externals_start-start.ensures k.given }

pub returns : goal.returns
unfolding external_value
returns c = let k = order_sound c.args.order.now in cc
