-- `instructions_decode::read_field` meets its contract.
use mathlib.Core.Path.{◌≡◌, sym, ap, ◌∙◌}
use Prim.Native.Nat.{◌/◌}
use native.Mathlib.Omega.{arith}
use Rattle.instructions_fields.specs.Layouts.{format_u, format_i, read}
use Rattle.instructions_fields.specs.Fields.{layout}
use Rattle.instructions_fields.proofs.Laws.Layouts.{total, read_append}
use Rattle.instructions_decode.proofs.read_field.Goals as goal

pub overflow_add-result : goal.overflow_add-result
unfolding read
overflow_add-result c = omega arith

pub returns-in-Call : goal.returns-in-Call
unfolding total
returns-in-Call c =
    let a = c.args in
    let first : c.read_u-in-Call.result ≡ read format_u a.word = c.read_u-in-Call.ensures in
    let second : c.read_i-in-Call.result ≡ read format_i (a.word / 0x1_0000_0000) = c.read_i-in-Call.ensures in
    rw (first, second) (sym (read_append format_u format_i a.word)
    ∙ sym (ap (λ f. read (layout f) a.word) c.in-Call.is))
