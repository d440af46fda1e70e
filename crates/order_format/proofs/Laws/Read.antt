-- What is known of an order that was read.
use mathlib.Core.Path.{◌≡◌, ap, ◌∙◌}
use mathlib.Core.Bool.{true}
use Rattle.numbers_definitions.specs.Bytes.{le_at}
use Rattle.order_format.specs.declared.Order.{Order}
use Rattle.order_format.specs.Orders.{external_count_at, externals_at, placement_count, placement, externals_start, external_count, external, ascending}
use Rattle.order_format.proofs.Laws.Sound.{Sound, reading_sound}

module _ (o : Order) where
  pub order_sound : Sound o.class o.bytes.now o.counts
  order_sound = reading_sound _ _ _ o.read_is

  -- the counts, and where the external values start
  pub placements_are : o.counts.placements ≡ placement_count o.class o.bytes.now
  placements_are = order_sound.placements_are

  pub externals_are : o.counts.externals ≡ external_count o.class o.bytes.now
  externals_are = order_sound.externals_are ∙ ap (λ p. le_at 4 o.bytes.now (external_count_at o.class p)) placements_are

  pub start_is : externals_at o.class o.counts.placements ≡ externals_start o.class o.bytes.now
  start_is = ap (externals_at o.class) placements_are

  -- both lists ascend
  pub placements_ascend : ascending (λ i. (placement o.class o.bytes.now i).index) (placement_count o.class o.bytes.now) ≡ true
  placements_ascend = rw (← placements_are) order_sound.placed

  pub externals_ascend : ascending (λ i. (external o.class o.bytes.now i).index) (external_count o.class o.bytes.now) ≡ true
  externals_ascend = rw (← start_is, ← externals_are) order_sound.given
