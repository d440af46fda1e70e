-- `fitter::make_calls` meets its contract.
use Rattle.std.specs.Prelude.{Option, Some, None, MatchOption, is_some}
use Rattle.std.proofs.lemmas.Option.{MatchOption-at_some}
use mathlib.Core.Path.{◌≡◌, refl, sym, ap, ◌∙◌}
use mathlib.Core.Bool.{true, false}
use mathlib.Core.List.{List}
use Prim.Native.Nat.{ℕ}
use native.Mathlib.Omega.{arith}
use lib.ListN.{length}
use lib.Seq.{sets, length-sets}
use Rattle.numbers_definitions.proofs.Laws.Tests.{never}
use Rattle.numbers_definitions.specs.First.{tabulate}
use Rattle.plan_pieces.specs.Answers.{packed}
use Rattle.journal_history.specs.Calls
use Rattle.journal_history.specs.Calls.{Files, calling, run, answers}
use Rattle.calls_replay.specs.declared.Call.{Call}
use Rattle.calls_replay.specs.Lists.{call_end, is_call, call_start}
use Rattle.calls_replay.specs.Replays.{codes}
use Rattle.calls_replay.specs.Requires.{Read, left_by, codes_of}
use Rattle.calls_replay.proofs.Laws.Lists.{end_above, ends_inside, start_next, list_call}
use Rattle.calls_replay.proofs.Laws.Replays.{left_made, codes_made}
use Rattle.calls_demands.specs.Ours.{our_install, our_rollback}
use Rattle.fitter.proofs.make_calls.Goals as goal
use Rattle.fitter.proofs.make_calls.Goals.{At-loop-i, In-loop-i, After-unwrap-end}

pub loop-i-init : goal.loop-i-init
unfolding call_start run answers tabulate codes
loop-i-init c = (refl, refl, refl, refl, refl)

-- in a turn a call stands at `at`, so one is read there
call_here : (c : In-loop-i) → is_call c.args.calls.now c.loop-i.at ≡ true
call_here c =
    let s = c.args.calls.now in
    ap (is_call s) c.loop-i.invariant.0 ∙ list_call s c.requires.0 c.loop-i.i (omega (arith, c.loop-i-test.true, c.requires.1))

pub call_at-requires : goal.call_at-requires
call_at-requires c =
    let s = c.args.calls.now in
    let at = c.loop-i.at in
    omega (arith, end_above s at, ends_inside s at (call_here (goal.at.call_at-requires c).In-loop-i))

one_is : (s : List ℕ) (at : ℕ) (r : Option (Call × ℕ)) → is_call s at ≡ true → MatchOption r (is_call s at ≡ false) (λ p. Read s at p.0 p.1) → is_some r ≡ true
one_is s at None is none = never (sym none ∙ is)
one_is s at (Some p) is read = refl

pub unwrap-end-requires : goal.unwrap-end-requires
unwrap-end-requires c = one_is c.args.calls.now c.loop-i.at c.call_at.result (call_here (goal.at.unwrap-end-requires c).In-loop-i) c.call_at.ensures

read : (c : After-unwrap-end) → Read c.args.calls.now c.loop-i.at c.unwrap-end.result.0 c.unwrap-end.result.1
read c = MatchOption-at_some _ _ c.unwrap-end.result c.unwrap-end.ensures c.call_at.ensures

-- the answers keep their length
room_is : (c : At-loop-i) → length c.loop-i.answers ≡ length c.args.answers.now
room_is c = ap length c.loop-i.invariant.2 ∙ simp length-sets

pub bounds-answers-i : goal.bounds-answers-i
bounds-answers-i c =
    omega (arith, c.loop-i-test.true, room_is (goal.at.bounds-answers-i c).At-loop-i, c.requires.2)

pub loop-i-preserved : goal.loop-i-preserved
loop-i-preserved c =
    let a = c.args in
    let s = a.calls.now in
    let start : Files = record { image = a.image.now; journal = a.ledger.now } in
    let here : Files = record { image = c.loop-i.image; journal = c.loop-i.ledger } in
    let inv = c.loop-i.invariant in
    let i = c.loop-i.i in
    let call = read (goal.at.loop-i-preserved c).After-unwrap-end in
    let left = c.make_call.ensures.left_is ∙ ap (λ (k : Calls.Call). (calling our_install our_rollback here k).after) call.is in
    let code = c.make_call.ensures.code_is ∙ ap (λ (k : Calls.Call). packed (calling our_install our_rollback here k).answer) call.is in (
      call.ends ∙ ap (call_end s) inv.0 ∙ sym (start_next s i),
      left_made our_install our_rollback s start i c.loop-i.at here inv.0 inv.1 _ left,
      codes_made our_install our_rollback s start i c.loop-i.at here inv.0 inv.1 a.answers.now c.loop-i.answers _ inv.2 code,
      c.make_call.auto.image ∙ inv.3,
      c.make_call.auto.ledger ∙ inv.4,
    )

pub shape_of-answers : goal.shape_of-answers
shape_of-answers c = room_is (goal.at.shape_of-answers c).At-loop-i

pub returns : goal.returns
returns c =
    let a = c.args in
    let s = a.calls.now in
    let start : Files = record { image = a.image.now; journal = a.ledger.now } in
    let all : c.loop-i.i ≡ a.n = omega (arith, c.loop-i-test.false) in (
      c.loop-i.invariant.1 ∙ ap (left_by our_install our_rollback s start) all,
      c.loop-i.invariant.2 ∙ ap (λ n. sets a.answers.now 0 (codes_of our_install our_rollback s start n)) all,
    )
