-- `numbers_arithmetic::ceil_power` meets its contract.
use Rattle.std.proofs.Common.{◌-◌, arith}
use Rattle.numbers_definitions.proofs.Laws.Powers.{shift_ceil}
use lib.Count.{leading_le}
use Rattle.numbers_definitions.specs.First.{first}
use Rattle.numbers_definitions.specs.Powers.{ceil_log, ceil_power}
use Rattle.numbers_arithmetic.proofs.ceil_power.Goals as goal

pub returns-then-n-eq0 : goal.returns-then-n-eq0
unfolding ceil_power ceil_log first
returns-then-n-eq0 c = rw c.if-n-eq0.true

pub overflow_sub-result-2 : goal.overflow_sub-result-2
overflow_sub-result-2 c = leading_le 32 (c.args.n - 1)

pub returns : goal.returns
returns c = shift_ceil c.args.n (omega arith) (omega arith)
