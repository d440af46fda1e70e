-- `placing_match::check_externals` meets its contract.
use mathlib.Core.Path.{◌≡◌}
use Prim.Native.Nat.{ℕ, ◌<◌}
use mathlib.Core.Bool.{false, not}
use Rattle.order_format.specs.Orders.{external}
use Rattle.placing_match.specs.Externals.{is_undefined}
use Rattle.placing_match.proofs.check_externals.Given as goal

abbrev pub invariant-search : goal.invariant-search
invariant-search l = (k : ℕ) → k < l.j → not (is_undefined l.object (external l.order.class l.order.bytes.now k).index) ≡ false
