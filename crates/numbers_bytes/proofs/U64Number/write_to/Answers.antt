-- `write_to` of a u64 meets its contract.
use Rattle.std.proofs.Common.{ap, ◌∙◌}
use Rattle.std.proofs.lemmas.List.Edits.{sets}
use Rattle.numbers_bytes.proofs.Laws.Numbers.{all_bytes}
use Rattle.numbers_bytes.proofs.U64Number.write_to.Goals as goal

pub returns : goal.returns
returns c =
    let a = c.args in
    c.put.ensures ∙ ap (sets a.s.now a.at) (c.to_le_bytes.ensures ∙ all_bytes 8 a.self)
