-- `placing_symbols::symbol_values` meets its contract.
use Rattle.order_lookup.specs.Requires.{Reached}
use Rattle.placing_symbols.proofs.Laws.Arrays.{ValuedBelow}
use Rattle.placing_symbols.proofs.symbol_values.Given as goal

abbrev pub invariant-loop-k : goal.invariant-loop-k
invariant-loop-k l =
    ValuedBelow l.object l.order.bytes.now l.addresses l.values l.states l.k
    × Reached l.order.class l.order.bytes.now l.next l.k
