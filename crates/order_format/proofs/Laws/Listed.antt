-- The lists of bytes that are an order.
use mathlib.Core.Path.{◌≡◌, ap, ◌∙◌}
use mathlib.Core.List.{List}
use Prim.Native.Nat.{ℕ, ◌-◌}
use native.Mathlib.Omega.{arith}
use Rattle.numbers_definitions.specs.Bytes.{le_at}
use Rattle.numbers_definitions.specs.declared.Class.{Class}
use Rattle.order_format.specs.declared.OrderHeader.{OrderHeader}
use Rattle.order_format.specs.Orders.{placements_start, placement_count, external_count_at, externals_at, max_placements, max_externals}
use Rattle.order_format.specs.Lists.{Listed}
use Rattle.order_format.proofs.Laws.Sound.{Sound}

module _ (c : Class) (s : List ℕ) (at : ℕ) where
  -- the count of the placements is the one that stands before them
  pub placements_counted : at ≡ placements_start c → (n : ℕ) → n ≡ le_at 4 s (at - 4) → n ≡ placement_count c s
  placements_counted a n e = e ∙ ap (le_at 4 s) (omega arith)

  pub externals_counted : (p : ℕ) → at ≡ externals_at c p → (n : ℕ) → n ≡ le_at 4 s (at - 4) → n ≡ le_at 4 s (external_count_at c p)
  externals_counted p a n e = e ∙ ap (le_at 4 s) (omega arith)

  -- both lists of a sound order are lists
  module _ (h : OrderHeader) (k : Sound c s h) where
    pub placements_listed : at ≡ placements_start c → Listed c s at max_placements h.placements
    placements_listed a =
        record {
          counted = record {
            count_is = k.placements_are ∙ ap (le_at 4 s) (omega arith);
            few = k.few;
            inside = omega (arith, k.room);
          };
          ascends = rw a k.placed;
        }

    pub externals_listed : at ≡ externals_at c h.placements → Listed c s at max_externals h.externals
    externals_listed a =
        record {
          counted = record {
            count_is = k.externals_are ∙ ap (le_at 4 s) (omega arith);
            few = k.some;
            inside = omega (arith, k.whole);
          };
          ascends = rw a k.given;
        }
