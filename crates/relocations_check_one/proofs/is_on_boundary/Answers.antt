-- `relocations_check_one::is_on_boundary` meets its contract.
use mathlib.Core.Path.{◌≡◌, ap, ◌∙◌}
use Prim.Native.Nat.{◌+◌, ◌%◌, ◌^◌}
use native.Mathlib.Omega.{arith}
use lib.Pow.{pow_pos}
use Rattle.numbers_definitions.specs.Powers.{ceil_power, ceil_log}
use Rattle.numbers_definitions.specs.Whole.{plus}
use Rattle.numbers_definitions.proofs.Laws.Whole.{plus_narrow}
use Rattle.numbers_definitions.proofs.Laws.Powers.{ceil_log_le}
use Rattle.relocations_rules.proofs.Laws.Rules.{boundary_is}
use Rattle.relocations_check_one.proofs.is_on_boundary.Goals as goal

pub overflow_cast-addend : goal.overflow_cast-addend
overflow_cast-addend c = omega (arith, c.requires)

pub overflow_add-addend : goal.overflow_add-addend
overflow_add-addend c = omega (arith, c.requires)

pub nonzero_rem-result : goal.nonzero_rem-result
unfolding ceil_power
nonzero_rem-result c = rw c.ceil_power.ensures (pow_pos (ceil_log 32 _))

pub returns : goal.returns
unfolding ceil_power
returns c =
    let a = c.args in
    let k = ceil_log 32 (a.addend + 2) in
    let sum : c.add64.result % 2 ^ k ≡ (a.start.0 + a.at.0 + a.addend) % 2 ^ k =
    ap (λ n. n % 2 ^ k) (c.add64.ensures ∙ ap (λ n. plus 64 n a.addend) c.add64-p.ensures) ∙ plus_narrow a.start.0 a.at.0 a.addend 64 k (omega (arith, ceil_log_le 32 (a.addend + 2))) in
    rw (boundary_is (a.start.0 + a.at.0) a.addend c.requires, c.ceil_power.ensures, sum)
