-- `instructions_riscv::data::set` meets its contract.
use mathlib.Core.Path.{◌∙◌}
use native.Mathlib.Omega.{arith}
use Rattle.instructions_riscv.proofs.Laws.Data.{set_data}
use Rattle.instructions_riscv.proofs.data.set.Goals as goal

pub returns : goal.returns
returns c =
    let a = c.args in
    c.put_data.ensures ∙ set_data a.width a.v a.x (omega arith)
