-- `order_format::ascends` meets its contract.
use Prim.Native.Nat.{ℕ, suc, ◌<◌}
use Rattle.order_format.specs.Orders.{entry_at}
use Rattle.order_format.proofs.ascends.Given as goal

abbrev pub invariant-loop-i : goal.invariant-loop-i
invariant-loop-i l = (j : ℕ) → suc j < l.i → (entry_at l.class l.order l.at j).index < (entry_at l.class l.order l.at (suc j)).index
