-- Demand 3 follows: calls that meet demands 1 and 2 and the sentences about the ledger meet demand 3 on bytes, whatever their code is.
use mathlib.Core.Path.{◌≡◌, refl, sym, ap, ap₂, ◌∙◌, subst}
use mathlib.Core.List.{List, [], ◌∷◌, ◌++◌}
use Prim.Native.Nat.{ℕ}
use lib.ListN.{length}
use Rattle.plan_pieces.specs.Answers.{Answer}
use Rattle.plan_pieces.specs.Plans.{Verdict, refused, plan, span_of}
use Rattle.journal_format.specs.Journals.{no_room}
use Rattle.journal_history.specs.Calls.{Files, Outcome, Call, Install, Rollback, InstallCall, RollbackCall, calling, answers, run}
use Rattle.journal_history.specs.Histories.{Standing, History, begin, count_of, held_of, stand, fall, told, history_of, AsTold, Alike, alone, standing_alone, FilesAre, CallIs, CallsAre}
use Rattle.journal_history.proofs.Laws.Corollaries.{either}
use Rattle.calls_judgement.specs.Judgement.{judgement}
use Rattle.calls_demands.specs.Demands.{AreBytes, Meets, Demand3}
use Rattle.calls_demands.specs.Ours.{our_install, our_rollback}
use Rattle.calls_demands.proofs.Laws.Demands.{demand_3}
use Rattle.calls_demands.proofs.Laws.Octets.{ours_meets}
use Rattle.calls_demands.proofs.Laws.Only.{one_install, one_rollback}

-- ---- the standing installs were asked for with bytes

abbrev Asked : List Standing → Type 0
Asked [] = Unit {0}
Asked (x ∷ xs) = CallIs AreBytes (Install x.object x.order) × Asked xs

stand_asked : (h : History) (object order : List ℕ) (v : Verdict) → CallIs AreBytes (Install object order) → Asked h.standing → Asked (stand h object order v).after.standing
unfolding stand
stand_asked h object order (refused a) k s = s
stand_asked h object order (plan ps) k s =
    either (λ (o : Outcome History). Asked o.after.standing) (no_room (count_of h) (held_of h) (span_of ps).size h.room) _ _ s (k, s)

fall_asked : (h : History) (xs : List Standing) → Asked h.standing → Asked xs → Asked (fall h xs).after.standing
unfolding fall
fall_asked h [] s k = s
fall_asked h (x ∷ xs) s k = k.1

told_asked : (h : History) (c : Call) → CallIs AreBytes c → Asked h.standing → Asked (told judgement h c).after.standing
unfolding told
told_asked h (Install object order) k s = stand_asked h object order (judgement object order (length h.start)) k s
told_asked h Rollback k s = fall_asked h h.standing s s

run_asked : (calls : List Call) (h : History) → CallsAre AreBytes calls → Asked h.standing → Asked (run (told judgement) h calls).standing
unfolding run
run_asked [] h k s = s
run_asked (c ∷ cs) h k s = run_asked cs (told judgement h c).after k.1 (told_asked h c k.0 s)

calls_append : (a b : List Call) → CallsAre AreBytes a → CallsAre AreBytes b → CallsAre AreBytes (a ++ b)
calls_append [] b p q = q
calls_append (c ∷ a) b p q = (p.0, calls_append a b p.1 q)

alone_asked : (xs : List Standing) → Asked xs → CallsAre AreBytes (alone xs)
unfolding alone
alone_asked [] s = tt
alone_asked (x ∷ xs) s = calls_append (alone xs) (Install x.object x.order ∷ []) (alone_asked xs s.1) (s.0, tt)

-- ---- calls that meet what is said of each are ours, one after the other

module _ (i : InstallCall) (r : RollbackCall) (m : Meets i r) where
  abbrev their : Files → Call → Outcome Files
  their = calling i r

  abbrev our : Files → Call → Outcome Files
  our = calling our_install our_rollback

  same_step : (f : Files) (c : Call) → FilesAre AreBytes f → CallIs AreBytes c → their f c ≡ our f c
  unfolding calling
  same_step f (Install object order) b k = one_install i our_install r our_rollback m ours_meets object order f k.0 b
  same_step f Rollback b k = one_rollback i our_install r our_rollback m ours_meets f b

  bytes_left : (f : Files) (c : Call) → FilesAre AreBytes f → CallIs AreBytes c → FilesAre AreBytes (our f c).after
  unfolding calling
  bytes_left f (Install object order) b k = ours_meets.install_bytes object order f k.0 b
  bytes_left f Rollback b k = ours_meets.rollback_bytes f b

  same_answers : (calls : List Call) (f : Files) → FilesAre AreBytes f → CallsAre AreBytes calls → answers their f calls ≡ answers our f calls
  unfolding answers
  same_answers [] f b k = refl
  same_answers (c ∷ cs) f b k =
      let same = same_step f c b k.0 in
      ap₂ (λ (x : Answer) (l : List Answer). x ∷ l) (ap (λ o. o.answer) same)
      (ap (λ o. answers their o.after cs) same ∙ same_answers cs (our f c).after (bytes_left f c b k.0) k.1)

  same_left : (calls : List Call) (f : Files) → FilesAre AreBytes f → CallsAre AreBytes calls → run their f calls ≡ run our f calls
  unfolding run
  same_left [] f b k = refl
  same_left (c ∷ cs) f b k =
      ap (λ o. run their o.after cs) (same_step f c b k.0) ∙ same_left cs (our f c).after (bytes_left f c b k.0) k.1

  bytes_after : (calls : List Call) (f : Files) → FilesAre AreBytes f → CallsAre AreBytes calls → FilesAre AreBytes (run our f calls)
  unfolding run
  bytes_after [] f b k = b
  bytes_after (c ∷ cs) f b k = bytes_after cs (our f c).after (bytes_left f c b k.0) k.1

  -- the answer of one more call, and those of a further list
  one_more : (calls : List Call) (f : Files) → FilesAre AreBytes f → CallsAre AreBytes calls → (c : Call) → CallIs AreBytes c
      → (their (run their f calls) c).answer ≡ (our (run our f calls) c).answer
  one_more calls f b k c kc =
      ap (λ g. (their g c).answer) (same_left calls f b k) ∙ ap (λ o. o.answer) (same_step (run our f calls) c (bytes_after calls f b k) kc)

  some_more : (calls : List Call) (f : Files) → FilesAre AreBytes f → CallsAre AreBytes calls → (more : List Call) → CallsAre AreBytes more
      → answers their (run their f calls) more ≡ answers our (run our f calls) more
  some_more calls f b k more km = ap (λ g. answers their g more) (same_left calls f b k) ∙ same_answers more (run our f calls) (bytes_after calls f b k) km

  -- so they meet demand 3 too
  pub follows : Demand3 AreBytes i r
  follows start b s calls k =
      let ours = demand_3 AreBytes start b s calls k in
      let h = ours.holds in
      let only : List Call = standing_alone judgement start calls in
      let ko : CallsAre AreBytes (standing_alone judgement start calls) =
      alone_asked (history_of judgement start calls).standing (run_asked calls (begin start) k tt) in
      record {
        holds = record {
          answered = same_answers calls start b k ∙ h.answered;
          as_told = subst (AsTold (history_of judgement start calls)) (sym (same_left calls start b k)) h.as_told;
          refused_if_none = λ none. one_more calls start b k Rollback tt ∙ h.refused_if_none none;
          done_if_some = λ some. one_more calls start b k Rollback tt ∙ h.done_if_some some;
          alone_done = same_answers only start b ko ∙ h.alone_done;
          alone_alike = subst (λ f. Alike f (run their start calls)) (sym (same_left only start b ko))
              (subst (Alike (run our start only)) (sym (same_left calls start b k)) h.alone_alike);
          next = λ c kc. one_more calls start b k c kc ∙ h.next c kc ∙ sym (one_more only start b ko c kc);
          further = λ more km. some_more calls start b k more km ∙ h.further more km ∙ sym (some_more only start b ko more km);
        };
        stand_as_laid = ours.stand_as_laid;
      }
