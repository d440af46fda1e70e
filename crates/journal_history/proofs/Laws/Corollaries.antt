-- What follows: a refusal changes nothing; a done install that is rolled back is as if it had never been asked for. The only assumption is
-- that plans lie inside the image.
use mathlib.Core.Path.{◌≡◌, refl, sym, ap, ◌∙◌}
use Prim.Native.Nat.{ℕ}
use native.Mathlib.Omega.{arith}
use mathlib.Core.Bool.{Bool, true, false, cond, not}
use mathlib.Core.List.{List, [], ◌∷◌, ◌++◌}
use lib.ListN.{length}
use lib.Dec.{eqb}
use Rattle.order_format.specs.Windows.{length_allowed}
use Rattle.plan_pieces.specs.Plans.{Piece, Verdict, refused, plan, Judge, LaysInside, span_of}
use Rattle.journal_format.specs.Journals.{count, held, sound, no_room}
use Rattle.plan_pieces.specs.Answers.{Answer, done}
use Rattle.journal_history.specs.Calls.{Files, Outcome, settle, install, rollback, Call, Install, Rollback, calling, call, answers, run}
use Rattle.journal_history.specs.Histories.{History, begin, count_of, held_of, stand, fall, told, Start, files_after, history_of, Alike}
use Rattle.journal_history.proofs.Laws.Agree.{Agrees, agrees}
use Rattle.journal_history.proofs.Laws.History.{run_append, kept, same_answers, alike, run_over, agrees_after}

pub either : {A : Type 0} (P : A → Type 0) (b : Bool) (x y : A) → P x → P y → P (cond b x y)
either P true x y p q = p
either P false x y p q = q

-- ---- "Every number but 0 keeps image and ledger byte for byte."

Keeps : Files → Outcome Files → Type 0
Keeps f o = (o.answer.number ≡ 0 → ⊥) → o.after ≡ f

module _ (judge : Judge) (f : Files) where
  settle_keeps : (v : Verdict) → Keeps f (settle f v)
  unfolding settle Keeps
  settle_keeps (refused a) = λ r. refl
  settle_keeps (plan ps) =
      either (Keeps f) (no_room (count f.journal) (held f.journal) (span_of ps).size (length f.journal)) _ _ (λ r. refl) (λ r. absurd (r refl))

  pub refusal_keeps : (c : Call) → ((call judge f c).answer.number ≡ 0 → ⊥) → (call judge f c).after ≡ f
  unfolding calling install rollback Keeps
  refusal_keeps (Install object order) =
      either (Keeps f) (not (sound f.journal (length f.image))) _ _ (λ r. refl) (settle_keeps (judge object order (length f.image)))
  refusal_keeps Rollback =
      either (Keeps f) (not (sound f.journal (length f.image))) _ _ (λ r. refl)
      (either (Keeps f) (not (length_allowed (length f.image))) _ _ (λ r. refl)
      (either (Keeps f) (eqb (count f.journal) 0) _ _ (λ r. refl) (λ r. absurd (r refl))))

-- ---- a done install that is rolled back

-- the history is as it was
dropped : Outcome History → History
dropped o = (fall o.after o.after.standing).after

stand_dropped : (h : History) (object order : List ℕ) (ps : List Piece) → (stand h object order (plan ps)).answer ≡ done
    → dropped (stand h object order (plan ps)) ≡ h
unfolding stand fall dropped
stand_dropped h object order ps =
    either (λ (o : Outcome History). o.answer ≡ done → dropped o ≡ h) (no_room (count_of h) (held_of h) (span_of ps).size h.room) _ _
    (λ e. let z : ◌≡◌ {A = ℕ} 15 0 = ap (λ (a : Answer). a.number) e in absurd (omega arith)) (λ e. refl)

module _ (judge : Judge) (lays : LaysInside judge) (start : Files) (s : Start start) (calls : List Call) (object order : List ℕ) (ps : List Piece)
    (planned : judge object order (length start.image) ≡ plan ps)
    (is_done : (call judge (files_after (call judge) start calls) (Install object order)).answer ≡ done) where
  both : List Call
  both = Install object order ∷ Rollback ∷ []

  same_history : run (told judge) (history_of judge start calls) both ≡ history_of judge start calls
  unfolding told run both dropped
  same_history =
      let h : History = history_of judge start calls in
      let there : judge object order (length (history_of judge start calls).start) ≡ plan ps =
      ap (λ (l : List ℕ). judge object order (length l)) (run_over judge calls (begin start)).0 ∙ planned in
      let told-done : (told judge (history_of judge start calls) (Install object order)).answer ≡ done =
      sym (agrees judge lays _ _ (agrees_after judge lays start s calls) (Install object order)).0 ∙ is_done in
      ap (λ (v : Verdict). dropped (stand (history_of judge start calls) object order v)) there
      ∙ stand_dropped (history_of judge start calls) object order ps
      (ap (λ (v : Verdict). (stand (history_of judge start calls) object order v).answer) (sym there) ∙ told-done)

  agrees_again : Agrees judge (history_of judge start calls) (files_after (call judge) start (calls ++ both))
  agrees_again =
      rw (run_append (call judge) start calls both)
      (rw same_history at (kept judge lays both (history_of judge start calls) (files_after (call judge) start calls) (agrees_after judge lays start s calls)))

  -- the image, n, k and the first n entries are those from before the install
  pub rollback_undoes_install : Alike (files_after (call judge) start (calls ++ Install object order ∷ Rollback ∷ [])) (files_after (call judge) start calls)
  unfolding both
  rollback_undoes_install = alike judge lays _ _ _ agrees_again (agrees_after judge lays start s calls)

  -- "so the room of a fit taken back serves again": any further calls get the answers that they would have had before the install
  pub room_serves_again : (more : List Call) → answers (call judge) (files_after (call judge) start (calls ++ Install object order ∷ Rollback ∷ [])) more
      ≡ answers (call judge) (files_after (call judge) start calls) more
  unfolding both
  room_serves_again more = same_answers judge lays more _ _ agrees_again ∙ sym (same_answers judge lays more _ _ (agrees_after judge lays start s calls))

  -- and so the same install is done again
  pub install_done_again : (call judge (files_after (call judge) start (calls ++ Install object order ∷ Rollback ∷ [])) (Install object order)).answer ≡ done
  unfolding both
  install_done_again =
      (agrees judge lays _ _ agrees_again (Install object order)).0
      ∙ sym (agrees judge lays _ _ (agrees_after judge lays start s calls) (Install object order)).0
      ∙ is_done
