-- `instructions_riscv::ranges::in_reach` meets its contract.
use mathlib.Core.Path.{◌≡◌, sym, ap, ◌∙◌}
use native.Mathlib.Omega.{arith}
use lib.IntN.{pos, neg_ℤ}
use Rattle.numbers_definitions.specs.Classes.{bits}
use Rattle.numbers_definitions.specs.Whole.{within, even, minus}
use Rattle.instructions_riscv.specs.Ranges.{reaches}
use Rattle.instructions_riscv.proofs.Laws.Ranges.{nearer_ahead, nearer_back, reaches_back}
use Rattle.instructions_riscv.proofs.ranges.in_reach.Goals as goal

pub returns-then-d-back : goal.returns-then-d-back
unfolding reaches within even
returns-then-d-back c small =
    let a = c.args in
    sym (ap (reaches a.range) (nearer_ahead (bits a.class) a.d small (rw (← c.difference-back.ensures) c.if-d-back.true)))

pub returns-else-d-back : goal.returns-else-d-back
returns-else-d-back c small =
    let a = c.args in
    let back : c.difference-back.result ≡ minus (bits a.class) 0 a.d = c.difference-back.ensures in
    sym (ap (reaches a.range) (nearer_back (bits a.class) a.d small (omega (arith, c.if-d-back.false)) ∙ ap (λ n. neg_ℤ (pos n)) (sym back))
    ∙ reaches_back a.range c.difference-back.result)
