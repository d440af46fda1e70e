-- `tests_readings::orders::entries` meets its contract.
use Rattle.std.proofs.Common.{arith}
use Rattle.order_format.proofs.Laws.Sizes.{entry_inside}
use Rattle.tests_readings.proofs.orders.entries.Goals as goal

pub read_entry-e-requires : goal.read_entry-e-requires
read_entry-e-requires c =
    omega (arith, entry_inside c.args.order.now.class c.loop-i.i c.args.n c.loop-i-test.true)
