-- `instructions_riscv::data::add` meets its contract.
use mathlib.Core.Path.{ap, ◌∙◌}
use native.Mathlib.Omega.{arith}
use Rattle.instructions_fields.specs.Layouts.{put}
use Rattle.instructions_fields.specs.Fields.{data_layout}
use Rattle.instructions_riscv.proofs.Laws.Data.{add_data}
use Rattle.instructions_riscv.proofs.data.add.Goals as goal

pub returns : goal.returns
returns c =
    let a = c.args in
    c.put_data.ensures ∙ ap (put (data_layout a.width) a.v) c.add64.ensures ∙ add_data a.width a.v a.x (omega arith)
