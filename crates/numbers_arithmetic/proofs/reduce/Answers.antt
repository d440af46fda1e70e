-- `numbers_arithmetic::reduce` meets its contract.
use Rattle.std.proofs.Common.{ap, ◌∙◌}
use lib.Bits.{bit_and, and_mask}
use Rattle.numbers_definitions.specs.Classes.{bits}
use Rattle.numbers_arithmetic.proofs.reduce.Goals as goal

pub returns : goal.returns
returns c =
    ap (bit_and c.args.x) c.last_address.ensures ∙ and_mask c.args.x (bits c.args.class)
