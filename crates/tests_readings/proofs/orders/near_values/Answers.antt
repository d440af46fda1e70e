-- `tests_readings::orders::near_values` meets its contract.
use Rattle.std.proofs.Common.{arith}
use Rattle.order_format.proofs.Laws.Sizes.{entry_inside}
use Rattle.tests_readings.proofs.orders.near_values.Goals as goal

pub read_entry-e-requires : goal.read_entry-e-requires
read_entry-e-requires c =
    omega (arith, c.requires, entry_inside c.args.order.now.class c.loop-i.i c.args.n c.loop-i-test.true)
