-- `read_from` of a u32 meets its contract.
use Rattle.std.proofs.Common.{ap, ◌∙◌}
use Rattle.std.specs.Int.{w32, from_le_bytes}
use Rattle.numbers_bytes.proofs.Laws.Numbers.{all_worth}
use Rattle.numbers_bytes.proofs.U32Number.read_from.Goals as goal

pub returns : goal.returns
returns c = c.from_le_bytes.ensures ∙ ap (from_le_bytes w32) c.array_at.ensures ∙ all_worth 3 c.args.s.now c.args.at
