-- `relocations_patch::upper_opcode` meets its contract.
use mathlib.Core.Path.{sym, ap}
use Rattle.instructions_riscv.specs.Forms.{has_form}
use Rattle.relocations_patch.proofs.upper_opcode.Goals as goal

pub returns-in-Lui : goal.returns-in-Lui
unfolding has_form
returns-in-Lui c = λ k word next. sym (ap (λ f. has_form k f word next) c.in-Lui.is)

pub returns-in-Auipc : goal.returns-in-Auipc
unfolding has_form
returns-in-Auipc c = λ k word next. sym (ap (λ f. has_form k f word next) c.in-Auipc.is)
