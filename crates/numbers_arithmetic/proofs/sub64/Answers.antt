-- `numbers_arithmetic::sub64` meets its contract.
use Rattle.std.proofs.Common.{arith}
use Rattle.numbers_definitions.proofs.Laws.Whole.{minus_unique}
use Rattle.numbers_arithmetic.proofs.sub64.Goals as goal

pub returns : goal.returns
returns c = minus_unique 64 c.args.v c.args.x _ (omega arith) (omega arith)
