-- `read_from` of a u16 meets its contract.
use Rattle.std.proofs.Common.{ap, ◌∙◌}
use Rattle.std.specs.Int.{w16, from_le_bytes}
use Rattle.numbers_bytes.proofs.Laws.Numbers.{all_worth}
use Rattle.numbers_bytes.proofs.U16Number.read_from.Goals as goal

pub returns : goal.returns
returns c = c.from_le_bytes.ensures ∙ ap (from_le_bytes w16) c.array_at.ensures ∙ all_worth 1 c.args.s.now c.args.at
