-- `relocations_patch::operand_value` meets its contract.
use mathlib.Core.Path.{sym, ap, ◌∙◌}
use Rattle.numbers_definitions.specs.Classes.{bits}
use Rattle.numbers_definitions.specs.Whole.{residue, signed}
use Rattle.relocations_patch.specs.Regular.{operand_by}
use Rattle.relocations_patch.proofs.operand_value.Goals as goal

pub returns-in-Of : goal.returns-in-Of
returns-in-Of c =
    let a = c.args in
    c.operand_of.ensures
    ∙ sym (ap (λ c. operand_by (bits a.class) c (residue (bits a.class) (signed 64 a.x)) a.p.0 a.d) c.in-Of.is)
