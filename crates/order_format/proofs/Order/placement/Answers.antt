-- `order_format::Order::placement` meets its contract.
use native.Mathlib.Omega.{arith}
use Rattle.order_format.proofs.Laws.Sizes.{entry_inside}
use Rattle.order_format.proofs.Laws.Read.{order_sound}
use Rattle.order_format.proofs.Order.placement.Goals as goal

pub read_entry-requires : goal.read_entry-requires
read_entry-requires c =
    let o = c.args.self.now in
    omega (arith, (order_sound o).room, entry_inside o.class c.args.i o.counts.placements c.requires)
