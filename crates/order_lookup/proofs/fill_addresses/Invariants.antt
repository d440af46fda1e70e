-- `order_lookup::fill_addresses` meets its contract.
use mathlib.Core.Path.{◌≡◌}
use Rattle.order_lookup.proofs.Laws.Array.{filled}
use Rattle.order_lookup.proofs.fill_addresses.Given as goal

abbrev pub invariant-loop-i : goal.invariant-loop-i
invariant-loop-i l =
    l.array ≡ filled l.order.class l.order.bytes.now l.i
