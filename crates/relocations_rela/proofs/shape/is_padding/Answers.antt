-- `relocations_rela::shape::is_padding` meets its contract.
use mathlib.Core.Path.{sym}
use native.Mathlib.Omega.{arith}
use Rattle.relocations_rela.proofs.Laws.Addends.{padding_refused, padding_is}
use Rattle.relocations_rela.proofs.shape.is_padding.Goals as goal

pub returns-then-addend-gt4094 : goal.returns-then-addend-gt4094
returns-then-addend-gt4094 c =
    let a = c.args in
    sym (padding_refused a.at.0 a.size a.addend c.if-addend-gt4094.true (omega arith))

pub returns : goal.returns
returns c =
    let a = c.args in
    rw c.ends_within.ensures (sym (padding_is a.at.0 a.size a.addend c.if-addend-gt4094.false))
