-- `relocations_rela::shape::is_addend_allowed` meets its contract.
use mathlib.Core.Path.{sym, ap, ◌∙◌}
use native.Mathlib.Omega.{arith}
use Rattle.numbers_definitions.specs.Whole.{signed}
use Rattle.relocations_decisions.specs.Decisions.{is_store}
use Rattle.relocations_rela.specs.Shape.{addend_well}
use Rattle.relocations_rela.proofs.Laws.Addends.{zero_is, store_addend}
use Rattle.relocations_rela.proofs.shape.is_addend_allowed.Goals as goal

pub returns-in-Align : goal.returns-in-Align
returns-in-Align c =
    let a = c.args in
    c.is_padding.ensures ∙ sym (ap (λ d. addend_well d a.at.0 a.size (signed 64 a.addend)) c.in-Align.is)

pub returns-in-Store : goal.returns-in-Store
returns-in-Store c =
    let a = c.args in
    rw (c.needs_pair.ensures, store_addend a.decision a.at.0 a.size (signed 64 a.addend) (ap is_store c.in-Store.is), zero_is a.addend (omega arith))
