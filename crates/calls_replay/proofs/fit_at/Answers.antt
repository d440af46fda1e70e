-- `calls_replay::fit_at` meets its contract.
use mathlib.Core.Path.{◌≡◌, sym, ap, ap₂, ◌∙◌}
use Prim.Native.Nat.{◌+◌}
use native.Mathlib.Omega.{arith}
use borrow.Author.Tests.{le-leb}
use Rattle.numbers_definitions.specs.Bytes.{le_at, part}
use Rattle.journal_history.specs.Calls.{Install}
use Rattle.calls_replay.specs.Lists.{object_length, order_length}
use Rattle.calls_replay.proofs.Laws.Lists.{end_of_fit, none_past, fit_decides}
use Rattle.calls_replay.proofs.Laws.Replays.{call_fit}
use Rattle.calls_replay.proofs.fit_at.Goals as goal
use Rattle.calls_replay.proofs.fit_at.Goals.{After-counted_at-2}

pub returns-in_err-object : goal.returns-in_err-object
returns-in_err-object c =
    rw c.from_residual.ensures (none_past _ _ (omega (arith, end_of_fit _ _ c.requires.is_fit, c.in_err-object.ensures)))

-- the order's length stands behind the object
order_is : (c : After-counted_at-2) → let a = c.args in le_at 4 a.calls.now c.in_ok-object.next ≡ order_length a.calls.now a.at
order_is c = ap (le_at 4 c.args.calls.now) (omega (arith, c.in_ok-object.ensures.1))

pub returns-in_err-order : goal.returns-in_err-order
returns-in_err-order c =
    let order = order_is (goal.at.returns-in_err-order c).After-counted_at-2 in
    rw c.from_residual-in_err-order.ensures
    (none_past _ _ (omega (arith, end_of_fit _ _ c.requires.is_fit, c.in_ok-object.ensures.1, c.in_err-order.ensures, order)))

pub returns : goal.returns
returns c =
    let s = c.args.calls.now in
    let at = c.args.at in
    let fit = end_of_fit s at c.requires.is_fit in
    let object = c.in_ok-object.ensures in
    let order = c.in_ok-order.ensures in
    let size = order_is (goal.at.returns c).After-counted_at-2 in
    let first : at + 4 + 4 ≡ at + 8 = omega arith in
    let second : c.in_ok-object.next + 4 ≡ at + 12 + object_length s at = omega (arith, object.1) in
    record {
      stands = fit_decides s at c.requires.is_fit ∙ le-leb _ _ (omega (arith, fit, object.1, order.1, order.2, size));
      is = ap₂ Install (object.0 ∙ ap (λ k. part s k (object_length s at)) first) (order.0 ∙ ap₂ (part s) second size) ∙ sym (call_fit s at c.requires.is_fit);
      ends = omega (arith, fit, object.1, order.1, size);
    }
