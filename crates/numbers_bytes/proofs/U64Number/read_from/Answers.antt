-- `read_from` of a u64 meets its contract.
use Rattle.std.proofs.Common.{ap, ◌∙◌}
use Rattle.std.specs.Int.{w64, from_le_bytes}
use Rattle.numbers_bytes.proofs.Laws.Numbers.{all_worth}
use Rattle.numbers_bytes.proofs.U64Number.read_from.Goals as goal

pub returns : goal.returns
returns c = c.from_le_bytes.ensures ∙ ap (from_le_bytes w64) c.array_at.ensures ∙ all_worth 7 c.args.s.now c.args.at
