-- For a list that was run, demand 3 holds for its answers and for what it left.
use Rattle.std.specs.Prelude.{None, Some}
use mathlib.Core.Path.{◌≡◌, refl, sym, ap, ◌∙◌, subst}
use mathlib.Core.Bool.{Bool, true, false, cond, ◌&&◌}
use mathlib.Core.List.{List, [], ◌∷◌}
use Prim.Native.Nat.{ℕ, ◌+◌, ◌≤◌}
use native.Mathlib.Omega.{arith}
use lib.ListN.{length, take, drop}
use lib.Dec.{leb}
use lib.Seq.{sets, sets-eq, take_at}
use borrow.Author.Tests.{leb-true}
use Rattle.numbers_definitions.proofs.Laws.Tests.{and_right}
use Rattle.plan_pieces.specs.Answers.{Answer}
use Rattle.journal_history.specs.Calls.{Files, Call, Install, Rollback, calling, answers, run}
use Rattle.journal_history.specs.Histories.{Start, CallsAre}
use Rattle.calls_replay.specs.Lists.{call_count, is_list, calls_of}
use Rattle.calls_replay.specs.Replays.{Replay, codes, replay}
use Rattle.calls_replay.proofs.Laws.Replays.{codes_length}
use Rattle.calls_demands.specs.Demands.{AnyList, AfterCalls}
use Rattle.calls_demands.specs.Ours.{our_install, our_rollback}
use Rattle.calls_demands.proofs.Laws.Promised.{ours_keep}
use Rattle.fitter.specs.Replayed.{Demand3Of}

-- what `read_list` says decides whether the bytes are a list
pub malformed_is : (b : Bool) (n : ℕ) → cond b (Some n) None ≡ None → b ≡ false
malformed_is true n e =
    let z : ◌≡◌ {A = ℕ} 0 1 = cc in
    absurd (omega arith)
malformed_is false n e = refl

pub listed_is : (b : Bool) (n m : ℕ) → cond b (Some n) None ≡ Some m → (b ≡ true) × (m ≡ n)
listed_is true n m e = (refl, (cc))
listed_is false n m e =
    let z : ◌≡◌ {A = ℕ} 0 1 = cc in
    absurd (omega arith)

any_calls : (cs : List Call) → CallsAre AnyList cs
any_calls [] = tt
any_calls (Install object order ∷ cs) = ((tt, tt), any_calls cs)
any_calls (Rollback ∷ cs) = (tt, any_calls cs)

-- the first places after codes were put there
take_front : (room v : List ℕ) (n : ℕ) → length v ≡ n → n ≤ length room → take n (sets room 0 v) ≡ v
take_front room v n e h = ap (take n) (sets-eq v room 0 (omega arith)) ∙ take_at v (drop (0 + length v) room) n e

module _ (s room : List ℕ) (f : Files) (start : Start f) where
  got : List Answer
  got = answers (calling our_install our_rollback) f (calls_of s)

  -- if it was run, by the definition of the replay
  run_holds : (b : Bool) → is_list s && leb (call_count s) (length room) ≡ b → (a : List ℕ) (g : Files) → ◌≡◌ {A = Replay} (record { ran = 1; answers = a; after = g })
      (cond b
      (record { ran = 1; answers = sets room 0 (codes (answers (calling our_install our_rollback) f (calls_of s))); after = run (calling our_install our_rollback) f (calls_of s) })
      (record { ran = 0; answers = room; after = f }))
      → Demand3Of s f a g
  unfolding got calls_of
  run_holds true e a g same =
      record {
        got = got;
        in_order = ap (λ r. take (call_count s) r.answers) same
            ∙ take_front room (codes got) (call_count s) (codes_length our_install our_rollback s f (call_count s)) (leb-true (call_count s) (length room) (and_right (is_list s) _ e));
        after_calls = subst (AfterCalls our_install our_rollback AnyList f (calls_of s) got) (sym (ap (λ r. r.after) same))
            (ours_keep.every_list f (tt, tt) start (calls_of s) (any_calls (calls_of s)));
      }
  run_holds false e a g same =
      let z : ◌≡◌ {A = ℕ} 1 0 = ap (λ r. r.ran) same in
      absurd (omega arith)

  pub replay_holds : (r : ℕ) (a : List ℕ) (g : Files) → record { ran = r; answers = a; after = g } ≡ replay our_install our_rollback s room f → r ≡ 1 → Demand3Of s f a g
  unfolding replay
  replay_holds r a g e one = run_holds (is_list s && leb (call_count s) (length room)) refl a g (ap (λ n. record { ran = n; answers = a; after = g }) (sym one) ∙ e)
