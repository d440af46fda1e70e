-- `tests_readings::orders::digests` is safe and ends: both lists of a well-formed order lie in it.
use Rattle.std.proofs.Common.{◌+◌, ◌*◌, ◌≤◌, length, arith}
use Rattle.order_format.specs.Orders.{entry_size}
use Rattle.order_format.proofs.Laws.Read.{order_sound}
use Rattle.tests_readings.proofs.orders.digests.Given.{Over}
use Rattle.tests_readings.proofs.orders.digests.Goals as goal
use Rattle.tests_readings.proofs.orders.digests.Goals.{After-externals_start-start}

placements_inside : (g : Over) (c : After-externals_start-start g) → let o = c.args.order.now in c.placements_start-first.result + entry_size o.class * o.counts.placements ≤ length o.bytes.now
placements_inside g c = omega (arith, c.placements_start-first.ensures, (order_sound c.args.order.now).room)

externals_inside : (g : Over) (c : After-externals_start-start g) → let o = c.args.order.now in c.externals_start-start.result + entry_size o.class * o.counts.externals ≤ length o.bytes.now
externals_inside g c = omega (arith, c.externals_start-start.ensures, (order_sound c.args.order.now).whole)

pub externals_start-start-requires : goal.externals_start-start-requires
externals_start-start-requires g c = (order_sound c.args.order.now).few

pub entries-requires : goal.entries-requires
entries-requires g c = placements_inside g (goal.at.entries-requires g c).After-externals_start-start

pub entries-requires-2 : goal.entries-requires-2
entries-requires-2 g c = externals_inside g (goal.at.entries-requires-2 g c).After-externals_start-start

pub near_values-requires : goal.near_values-requires
near_values-requires g c = placements_inside g (goal.at.near_values-requires g c).After-externals_start-start

pub near_values-requires-2 : goal.near_values-requires-2
near_values-requires-2 g c = externals_inside g (goal.at.near_values-requires-2 g c).After-externals_start-start
