-- `relocations_values::pairs::first_not_below` meets its contract. The loop's invariant: what is before `low` is below the offset, and what is
-- `more` - 1 places on, or further, is not. The measure is `more`.
use Prim.Native.Nat.{ℕ, ◌+◌, ◌≤◌, ◌<◌}
use Rattle.relocations_values.specs.Sorting.{keys}
use Rattle.relocations_values.proofs.pairs.first_not_below.Given as goal

abbrev pub invariant-loop-more : goal.invariant-loop-more
invariant-loop-more l =
    (0 < l.more)
    × (l.low + l.more ≤ l.m + 1)
    × ((i : ℕ) → i < l.low → keys l.object l.site l.highs i < l.offset.0)
    × ((i : ℕ) → l.low + l.more ≤ i + 1 → i < l.m → l.offset.0 ≤ keys l.object l.site l.highs i)

abbrev pub decreases-loop-more : goal.decreases-loop-more
decreases-loop-more l = l.more
