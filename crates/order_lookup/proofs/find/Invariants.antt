-- `order_lookup::find` meets its contract.
use Prim.Native.Nat.{ℕ, ◌-◌, ◌≤◌, ◌<◌}
use Rattle.order_format.specs.Orders.{entry_at}
use Rattle.order_lookup.proofs.find.Given as goal

abbrev pub invariant-loop-low : goal.invariant-loop-low
invariant-loop-low l =
    (l.low ≤ l.high)
    × (l.high ≤ l.n)
    × ((j : ℕ) → j < l.low → (entry_at l.order.class l.order.bytes.now l.at j).index < l.k)
    × ((j : ℕ) → l.high ≤ j → j < l.n → l.k < (entry_at l.order.class l.order.bytes.now l.at j).index)

abbrev pub decreases-loop-low : goal.decreases-loop-low
decreases-loop-low l = l.high - l.low
