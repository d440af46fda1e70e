-- `relocations_values::pairs::first_not_below` meets its contract.
use Prim.Native.Nat.{ℕ, ◌+◌, ◌-◌, ◌/◌, ◌≤◌, ◌<◌}
use native.Mathlib.Omega.{arith}
use Rattle.relocations_values.specs.Sorting.{keys}
use Rattle.relocations_values.proofs.Laws.Lookup.{listed_stands, halves_below, halves_from}
use Rattle.relocations_values.proofs.pairs.first_not_below.Goals as goal

pub loop-more-init : goal.loop-more-init
loop-more-init c = (omega arith, omega arith, (λ i h. absurd (omega arith)), (λ i h l. absurd (omega arith)))

pub offset_at-here-requires : goal.offset_at-here-requires
offset_at-here-requires c =
    listed_stands _ _ _ _ c.requires.1 c.requires.0 _ (omega arith)

pub loop-more-preserved-then-here-offset : goal.loop-more-preserved-then-here-offset
loop-more-preserved-then-here-offset c =
    let at : ℕ = c.loop-more.low + c.loop-more.more / 2 - 1 in
    let below : (i : ℕ) → i < at + 1 → keys c.args.object.now c.args.site c.args.highs.now i < c.args.offset.0 =
    halves_below _ _ _ c.requires.1.ordered _ (omega arith) (omega arith) in
    (omega arith, omega arith, (λ i h. below i (omega arith)), λ i h k. c.loop-more.invariant.3 i (omega arith) k)

pub loop-more-preserved : goal.loop-more-preserved
loop-more-preserved c =
    let at : ℕ = c.loop-more.low + c.loop-more.more / 2 - 1 in
    let from : (i : ℕ) → at ≤ i → i < c.args.m → c.args.offset.0 ≤ keys c.args.object.now c.args.site c.args.highs.now i =
    halves_from _ _ _ c.requires.1.ordered _ (omega arith) in
    (omega arith, omega arith, c.loop-more.invariant.2, λ i h k. from i (omega arith) k)

pub returns : goal.returns
returns c =
    record { fits = omega arith; below = c.loop-more.invariant.2; from = λ i h. c.loop-more.invariant.3 i (omega arith) }
