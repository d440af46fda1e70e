-- `read_from` of a u8 meets its contract.
use Rattle.std.proofs.Common.{get_or, ap, ◌∙◌}
use Rattle.numbers_bytes.proofs.Laws.Numbers.{all_worth}
use Rattle.numbers_bytes.proofs.U8Number.read_from.Goals as goal

pub returns : goal.returns
returns c = c.from_le_bytes.ensures ∙ ap (λ l. get_or l 0 0) c.array_at.ensures ∙ all_worth 0 c.args.s.now c.args.at
