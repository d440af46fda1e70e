-- `relocations_patch::data_word` meets its contract.
use mathlib.Core.Path.{sym, ap, ◌∙◌}
use Rattle.numbers_definitions.specs.Whole.{signed}
use Rattle.instructions_fields.specs.declared.Field.TheVariants.{Data}
use Rattle.instructions_fields.specs.Layouts.{put}
use Rattle.instructions_fields.specs.Fields.{data_layout}
use Rattle.instructions_riscv.specs.Data.{added, subtracted, replaced}
use Rattle.relocations_bytes.specs.Patches.{patched}
use Rattle.relocations_patch.specs.Regular.{fills}
use Rattle.relocations_patch.proofs.Laws.Regular.{part_patched, whole_part}
use Rattle.relocations_patch.proofs.data_word.Goals as goal

pub returns-in-Of : goal.returns-in-Of
returns-in-Of c =
    let a = c.args in
    λ n p d e.
    c.put_data.ensures
    ∙ ap (put (data_layout a.width) a.w) (whole_part c.in-Of.field-0 n a.v (sym (ap fills c.in-Of.is) ∙ c.requires))
    ∙ part_patched a.calculation (Data a.width) c.in-Of.field-0 (record { operand = c.in-Of.field-1; is = c.in-Of.is }) n a.w (signed 64 a.x) p d a.v e

pub returns-in-Add : goal.returns-in-Add
unfolding patched added
returns-in-Add c =
    let a = c.args in
    λ n p d e. c.add.ensures ∙ sym (ap (λ k. patched n k (Data a.width) a.w (signed 64 a.x) p d) c.in-Add.is)

pub returns-in-Sub : goal.returns-in-Sub
unfolding patched subtracted
returns-in-Sub c =
    let a = c.args in
    λ n p d e. c.sub.ensures ∙ sym (ap (λ k. patched n k (Data a.width) a.w (signed 64 a.x) p d) c.in-Sub.is)

pub returns-in-Set : goal.returns-in-Set
unfolding patched replaced
returns-in-Set c =
    let a = c.args in
    λ n p d e. c.set.ensures ∙ sym (ap (λ k. patched n k (Data a.width) a.w (signed 64 a.x) p d) c.in-Set.is)
