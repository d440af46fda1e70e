-- `placing_match::check_allocated` meets its contract.
use mathlib.Core.Path.{◌≡◌}
use Prim.Native.Nat.{ℕ, ◌<◌}
use mathlib.Core.Bool.{false, not, ◌&&◌}
use Rattle.elf_read.specs.Sections.{is_allocated}
use Rattle.order_lookup.specs.Addresses.{placed_at}
use Rattle.order_lookup.specs.Values.{is_given}
use Rattle.placing_match.proofs.check_allocated.Given as goal

abbrev pub invariant-search : goal.invariant-search
invariant-search l = (j : ℕ) → j < l.i → (is_allocated l.object j && not (is_given (placed_at l.order.class l.order.bytes.now j))) ≡ false
