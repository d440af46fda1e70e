-- `write_to` of a u8 meets its contract.
use Rattle.std.proofs.Common.{◌∷◌, [], sym, ap, ◌∙◌, mod-eq_of_lt, arith}
use Rattle.std.proofs.lemmas.List.Edits.{sets}
use Rattle.numbers_definitions.specs.Bytes.{bytes}
use Rattle.numbers_bytes.proofs.U8Number.write_to.Goals as goal

pub returns : goal.returns
unfolding bytes
returns c =
    let a = c.args in
    c.put.ensures ∙ ap (sets a.s.now a.at) (c.to_le_bytes.ensures ∙ ap (λ n. n ∷ []) (sym (mod-eq_of_lt (omega arith))))
