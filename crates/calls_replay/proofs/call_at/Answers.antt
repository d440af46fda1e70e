-- `calls_replay::call_at` meets its contract.
use mathlib.Core.Path.{◌≡◌, sym, ◌∙◌}
use native.Mathlib.Omega.{arith}
use borrow.Author.Tests.{ne_eqb}
use Rattle.calls_replay.specs.Lists.{FIT, kind_at}
use Rattle.calls_replay.proofs.Laws.Lists.{end_above, end_of_other, none_past, kind_decides}
use Rattle.calls_replay.proofs.Laws.Replays.{call_other}
use Rattle.calls_replay.proofs.call_at.Goals as goal

pub returns-then-calls-at-lt4 : goal.returns-then-calls-at-lt4
returns-then-calls-at-lt4 c = none_past _ _ (omega (arith, end_above c.args.calls.now c.args.at, c.requires))

pub returns-in-2 : goal.returns-in-2
returns-in-2 c =
    let s = c.args.calls.now in
    let at = c.args.at in
    let kind : kind_at s at ≡ 2 = sym c.read-kind.ensures ∙ c.in-2.is in
    let other : kind_at s at ≡ FIT → ⊥ = λ e. omega (arith, kind) in
    record {
      stands = kind_decides s at 2 kind (λ e. omega arith) (omega (arith, c.requires));
      is = sym (call_other s at other);
      ends = sym (end_of_other s at other);
    }

pub returns-in_default : goal.returns-in_default
returns-in_default c = kind_decides _ _ c.read-kind.result (sym c.read-kind.ensures) (λ e. omega arith) (omega (arith, c.requires)) ∙ ne_eqb _ _ (λ e. omega arith)
