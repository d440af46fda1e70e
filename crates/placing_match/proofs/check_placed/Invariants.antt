-- `placing_match::check_placed` meets its contract.
use mathlib.Core.Path.{◌≡◌}
use Prim.Native.Nat.{ℕ, ◌<◌}
use mathlib.Core.Bool.{false, not}
use Rattle.elf_read.specs.Sections.{is_allocated}
use Rattle.order_format.specs.Orders.{placement}
use Rattle.placing_match.proofs.check_placed.Given as goal

abbrev pub invariant-search : goal.invariant-search
invariant-search l = (k : ℕ) → k < l.j → not (is_allocated l.object (placement l.order.class l.order.bytes.now k).index) ≡ false
