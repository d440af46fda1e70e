-- `calls_replay::read_list` meets its contract.
use Rattle.std.specs.Prelude.{None, Some}
use mathlib.Core.Path.{◌≡◌, refl, sym, ap, ◌∙◌}
use mathlib.Core.Bool.{true, false, cond}
use Prim.Native.Nat.{ℕ, ◌<◌}
use native.Mathlib.Omega.{arith}
use borrow.Author.Count.{below_more}
use Rattle.calls_replay.specs.Lists.{call_count, call_end, is_call, call_start, is_list}
use Rattle.calls_replay.proofs.Laws.Lists.{ends_inside, start_above, start_next, list_is, not_list_call, not_list_end}
use Rattle.calls_replay.proofs.read_list.Goals as goal
use Rattle.calls_replay.proofs.read_list.Goals.{After-loop}

-- a test of a list decides what is read
malformed : (s : _) → is_list s ≡ false → cond (is_list s) (Some (call_count s)) None ≡ None
malformed s e = rw e

listed : (s : _) (n : ℕ) → n ≡ call_count s → is_list s ≡ true → Some n ≡ cond (is_list s) (Some (call_count s)) None
listed s n c e = rw e (ap Some c)

pub returns-then-calls-lt-FIRST_AT : goal.returns-then-calls-lt-FIRST_AT
returns-then-calls-lt-FIRST_AT c =
    let s = c.args.calls.now in
    sym (malformed s (not_list_end s (λ e. omega (arith, start_above s (call_count s), c.if-calls-lt-FIRST_AT.true))))

pub loop-init : goal.loop-init
unfolding call_start
loop-init c = (refl, omega (arith, c.if-calls-lt-FIRST_AT.false), λ j h. absurd (omega arith))

pub returns-in_err-end : goal.returns-in_err-end
returns-in_err-end c =
    let s = c.args.calls.now in
    let none : is_call s c.loop.at ≡ false = c.in_err-end.ensures in
    c.from_residual.ensures
    ∙ sym (malformed s (not_list_call s c.loop.counter (omega (arith, c.loop-test.true, c.read-n.ensures)) (ap (is_call s) (sym c.loop.invariant.0) ∙ none)))

pub loop-preserved : goal.loop-preserved
loop-preserved c =
    let s = c.args.calls.now in
    let here = c.in_ok-end.ensures in (
      here.ends ∙ ap (call_end s) c.loop.invariant.0 ∙ sym (start_next s c.loop.counter),
      omega (arith, ends_inside s c.loop.at here.stands, here.ends),
      below_more _ _ c.loop.invariant.2 (ap (is_call s) (sym c.loop.invariant.0) ∙ here.stands),
    )

-- after the loop every call was looked at
all_calls : (c : After-loop) → let s = c.args.calls.now in
    (j : ℕ) → j < call_count s → is_call s (call_start s j) ≡ true
all_calls c j h = c.loop.invariant.2 j (omega (arith, c.loop-test.false, c.read-n.ensures))

end_at : (c : After-loop) → let s = c.args.calls.now in c.loop.at ≡ call_start s (call_count s)
end_at c =
    let s = c.args.calls.now in
    let last : c.loop.counter ≡ call_count s = omega (arith, c.loop.invariant.0, c.loop-test.false, c.read-n.ensures) in
    c.loop.invariant.0 ∙ ap (call_start s) last

pub returns-then-at-calls : goal.returns-then-at-calls
returns-then-at-calls c =
    let s = c.args.calls.now in
    sym (malformed s (not_list_end s (λ e. c.if-at-calls.true (end_at (goal.at.returns-then-at-calls c).After-loop ∙ e))))

pub returns : goal.returns
returns c =
    let s = c.args.calls.now in
    listed s _ c.read-n.ensures (list_is s (all_calls (goal.at.returns c).After-loop) (sym (end_at (goal.at.returns c).After-loop) ∙ c.if-at-calls.false))
