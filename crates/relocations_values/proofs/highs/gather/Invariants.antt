-- `relocations_values::highs::gather` meets its contract. The loop's invariant: the high halves below k are listed.
use mathlib.Core.Path.{◌≡◌}
use lib.ListN.{length}
use Rattle.relocations_values.proofs.Laws.Highs.{Gathering}
use Rattle.relocations_values.proofs.highs.gather.Given as goal

abbrev pub invariant-loop-k : goal.invariant-loop-k
invariant-loop-k l = (length l.highs ≡ length l.initial.highs) × Gathering l.object l.site l.highs l.m l.last l.falls l.k
