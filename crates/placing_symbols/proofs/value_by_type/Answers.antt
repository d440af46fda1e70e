-- `placing_symbols::value_by_type` meets its contract.

use Rattle.placing_symbols.proofs.value_by_type.Goals as goal

pub returns-then-symbol : goal.returns-then-symbol
returns-then-symbol c = rw c.if-symbol.true

pub returns : goal.returns
returns c = rw c.if-symbol.false
