-- `relocations_values::pairs::pair_at` meets its contract. The loop's invariant: no high half at the offset was met, or one, which is the first that
-- is not below it.
use Rattle.relocations_values.proofs.Laws.Lookup.{Met}
use Rattle.relocations_values.proofs.pairs.pair_at.Given as goal

abbrev pub invariant-search : goal.invariant-search
invariant-search l = Met l.object l.site l.highs l.m l.offset l.first l.pair l.i
