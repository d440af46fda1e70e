-- `instructions_encode::put_field` meets its contract.
use mathlib.Core.Path.{◌≡◌, sym, ap, ◌∙◌}
use Prim.Native.Nat.{◌+◌, ◌/◌}
use native.Mathlib.Nat.{mul_comm}
use Rattle.instructions_fields.specs.Layouts.{format_u, format_i, put}
use Rattle.instructions_fields.proofs.Laws.Layouts.{total, put_append}
use native.Mathlib.Omega.{arith}
use Rattle.instructions_fields.specs.Fields.{layout}
use Rattle.instructions_encode.proofs.put_field.Goals as goal

pub overflow_mul-result : goal.overflow_mul-result
unfolding put
overflow_mul-result c = omega arith

pub overflow_add-result : goal.overflow_add-result
unfolding put
overflow_add-result c = omega arith

pub returns-in-Call : goal.returns-in-Call
unfolding total
returns-in-Call c =
    let a = c.args in
    let first : c.put_u-in-Call.result ≡ put format_u a.word a.value = c.put_u-in-Call.ensures in
    let second : c.put_i-in-Call.result ≡ put format_i (a.word / 0x1_0000_0000) a.value = c.put_i-in-Call.ensures in
    rw (first, second) (ap (λ n. put format_u a.word a.value + n) (mul_comm (put format_i (a.word / 0x1_0000_0000) a.value) 0x1_0000_0000)
    ∙ sym (put_append format_u format_i a.word a.value)
    ∙ sym (ap (λ f. put (layout f) a.word a.value) c.in-Call.is))
