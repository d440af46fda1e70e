-- `order_lookup::fill_addresses` meets its contract.
use mathlib.Core.Path.{◌≡◌, ap, ◌∙◌}
use lib.ListN.{set}
use Prim.Native.Nat.{◌<◌}
use Rattle.order_format.proofs.Laws.Read.{order_sound, placements_are}
use native.Mathlib.Omega.{arith}
use Rattle.order_lookup.proofs.Laws.Array.{filled_none, filled_in, filled_out, filled_all}
use Rattle.order_lookup.proofs.fill_addresses.Goals as goal
use Rattle.order_lookup.proofs.fill_addresses.Goals.{then-section-lt-MAX_SECTIONS, else-section-lt-MAX_SECTIONS}

pub loop-i-init : goal.loop-i-init
loop-i-init c = c.requires ∙ filled_none _ _

pub loop-i-preserved : goal.loop-i-preserved
loop-i-preserved c =
    let e = c.placement-e.result in
    let inside : c.loop-i.i < c.args.order.now.counts.placements = omega arith in
    elim c.if-section-lt-MAX_SECTIONS.branch [
      | then-section-lt-MAX_SECTIONS w ↦ w.array-is ∙ ap (λ a. set a e.index e.value.0) c.loop-i.invariant ∙ filled_in _ _ _ _ c.placement-e.ensures _ (order_sound c.args.order.now).placed inside
      | else-section-lt-MAX_SECTIONS w ↦ w.array-is ∙ c.loop-i.invariant ∙ filled_out _ _ _ _ c.placement-e.ensures w.if-section-lt-MAX_SECTIONS.false
    ]

pub returns : goal.returns
returns c =
    let end : c.loop-i.i ≡ c.args.order.now.counts.placements = omega arith in
    c.loop-i.invariant ∙ filled_all _ _ _ (end ∙ placements_are c.args.order.now)
