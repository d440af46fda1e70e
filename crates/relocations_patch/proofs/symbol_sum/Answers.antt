-- `relocations_patch::symbol_sum` meets its contract.
use mathlib.Core.Path.{sym, ap, ◌∙◌}
use native.Mathlib.Omega.{arith}
use lib.IntN.{pos, ◌+ℤ◌}
use Rattle.numbers_definitions.specs.Whole.{residue, signed}
use Rattle.numbers_definitions.proofs.Laws.Whole.{plus_signed}
use Rattle.relocations_values.specs.Values.{S}
use Rattle.relocations_patch.proofs.symbol_sum.Goals as goal

pub returns-in-Ok : goal.returns-in-Ok
returns-in-Ok c =
    let a = c.args in
    c.add64.ensures ∙ plus_signed 0 64 _ a.addend (omega arith) ∙ sym (ap (λ v. residue 64 (pos (S v) +ℤ signed 64 a.addend)) c.in-Ok.is)

pub returns-in-Err : goal.returns-in-Err
returns-in-Err c =
    let a = c.args in
    c.add64-in-Err.ensures ∙ plus_signed 0 64 0 a.addend (omega arith) ∙ sym (ap (λ v. residue 64 (pos (S v) +ℤ signed 64 a.addend)) c.in-Err.is)
