-- `order_format::read_order` meets its contract.
use mathlib.Core.Path.{◌≡◌, refl, sym, ap, ◌∙◌}
use mathlib.Core.Bool.{not}
use native.Mathlib.Omega.{arith}
use Rattle.numbers_definitions.specs.Bytes.{le_at}
use Rattle.numbers_definitions.proofs.Laws.Tests.{not_both}
use Rattle.order_format.specs.Orders.{placements_start, external_count_at, externals_at, placement_count, entry_at, ascending}
use Rattle.order_format.proofs.Laws.Sound.{unsound_reading, unsound_read, sound_reading}
use Rattle.order_format.proofs.Laws.Listed.{placements_counted, externals_counted, placements_listed, externals_listed}
use Rattle.order_format.proofs.read_order.Goals as goal
use Rattle.order_format.proofs.read_order.Goals.{After-ascends, After-ascends-2, After-externals_start-start, After-entry_place}

pub returns-then-order-empty_size : goal.returns-then-order-empty_size
returns-then-order-empty_size c = unsound_reading _ _ (λ k. omega arith)

pub returns-then-read-ne1 : goal.returns-then-read-ne1
returns-then-read-ne1 c = unsound_reading _ _ (λ k. omega arith)

pub returns-in_err-placements : goal.returns-in_err-placements
returns-in_err-placements c =
    c.from_residual.ensures ∙ unsound_reading _ _ (λ k. c.in_err-placements.ensures _ (placements_listed _ _ _ _ k c.placements_start-first.ensures).counted)

placements_are : (c : After-externals_start-start) → c.in_ok-placements.placements ≡ placement_count c.args.class c.args.order.now
placements_are c = placements_counted _ _ _ c.placements_start-first.ensures _ c.in_ok-placements.ensures.count_is

pub returns-then-order-start : goal.returns-then-order-start
returns-then-order-start c =
    unsound_read _ _ _ _ (placements_are (goal.at.returns-then-order-start c).After-externals_start-start) refl (λ k. omega (arith, k.room))

pub returns-in_err-externals : goal.returns-in_err-externals
returns-in_err-externals c =
    c.from_residual-in_err-externals.ensures
    ∙ unsound_read _ _ _ _ (placements_are (goal.at.returns-in_err-externals c).After-externals_start-start) refl
    (λ k. c.in_err-externals.ensures _ (externals_listed _ _ _ _ k c.externals_start-start.ensures).counted)

externals_are : (c : After-entry_place) → c.in_ok-externals.externals ≡ le_at 4 c.args.order.now (external_count_at c.args.class c.in_ok-placements.placements)
externals_are c = externals_counted _ _ _ _ c.externals_start-start.ensures _ c.in_ok-externals.ensures.count_is

pub returns-then-order-entry_place : goal.returns-then-order-entry_place
returns-then-order-entry_place c =
    unsound_read _ _ _ _ (placements_are (goal.at.returns-then-order-entry_place c).After-externals_start-start) (externals_are (goal.at.returns-then-order-entry_place c).After-entry_place)
    (λ k. omega (arith, k.whole))

-- both lists, and whether they ascend
first_ascends : (c : After-ascends) → c.ascends.result ≡ ascending (λ i. (entry_at c.args.class c.args.order.now (placements_start c.args.class) i).index) c.in_ok-placements.placements
first_ascends c = rw (← c.placements_start-first.ensures) c.ascends.ensures

second_ascends : (c : After-ascends-2)
    → c.ascends-2.result ≡ ascending (λ i. (entry_at c.args.class c.args.order.now (externals_at c.args.class c.in_ok-placements.placements) i).index) c.in_ok-externals.externals
second_ascends c = rw (← c.externals_start-start.ensures) c.ascends-2.ensures

pub returns-then-not-ascends : goal.returns-then-not-ascends
returns-then-not-ascends c =
    unsound_read _ _ _ _ (placements_are (goal.at.returns-then-not-ascends c).After-externals_start-start) (externals_are (goal.at.returns-then-not-ascends c).After-entry_place)
    (λ k. not_both _ _ (ap not c.if-not-ascends.true) c.ascends.ensures (placements_listed _ _ _ _ k c.placements_start-first.ensures).ascends)

pub returns-then-not-ascends-2 : goal.returns-then-not-ascends-2
returns-then-not-ascends-2 c =
    unsound_read _ _ _ _ (placements_are (goal.at.returns-then-not-ascends-2 c).After-externals_start-start) (externals_are (goal.at.returns-then-not-ascends-2 c).After-entry_place)
    (λ k. not_both _ _ (ap not c.if-not-ascends-2.true) c.ascends-2.ensures (externals_listed _ _ _ _ k c.externals_start-start.ensures).ascends)

pub returns : goal.returns
returns c =
    sym
    (sound_reading _ _ _
    (record {
      base_is = c.read_address.ensures;
      placements_are = placements_are (goal.at.returns c).After-externals_start-start;
      externals_are = externals_are (goal.at.returns c).After-entry_place;
      long = omega arith;
      one = omega arith;
      few = omega (arith, c.in_ok-placements.ensures.few);
      room = omega arith;
      some = omega (arith, c.in_ok-externals.ensures.few);
      whole = omega arith;
      placed = sym (first_ascends (goal.at.returns c).After-ascends) ∙ c.if-not-ascends.false;
      given = sym (second_ascends (goal.at.returns c).After-ascends-2) ∙ c.if-not-ascends-2.false;
    }))
