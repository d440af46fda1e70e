-- Demand 3 over any judgement, for every list of calls from every start. The only assumption is that plans lie inside the image.
use mathlib.Core.Path.{◌≡◌, refl, sym, ap, ap₂, ◌∙◌}
use Prim.Native.Nat.{ℕ}
use native.Mathlib.Omega.{arith}
use native.Mathlib.Numerals.{add-one}
use mathlib.Core.Bool.{Bool, true, false, cond}
use mathlib.Core.List.{List, [], ◌∷◌, ◌++◌}
use lib.ListN.{length, drop, length-drop, replicate, replicate-append-replicate}
use Rattle.numbers_definitions.specs.Bytes.{part}
use Rattle.plan_pieces.specs.Plans.{Verdict, refused, plan, Judge, LaysInside, span_of}
use Rattle.journal_format.specs.Journals.{max_entries, old_at, total, no_room}
use Rattle.plan_pieces.specs.Answers.{Answer, done}
use Rattle.journal_history.specs.Calls.{journal_full, none_stands, Files, Outcome, refuse, succeed, Call, Install, Rollback, calling, call, answers, run}
use Rattle.journal_history.specs.Histories.{Standing, History, begin, count_of, held_of, spans, laid, olds, stand, fall, told, Start, files_after, history_of, Alike, alone, standing_alone, Kind, Holds}
use Rattle.journal_history.proofs.Laws.Stack.{empty}
use Rattle.journal_history.proofs.Laws.Agree.{Stands, Agrees, agrees, agrees_told}

-- ---- lists of calls

module _ {S : Type 0} (step : S → Call → Outcome S) where
  pub run_append : (s : S) (a b : List Call) → run step s (a ++ b) ≡ run step (run step s a) b
  unfolding run
  run_append s [] b = refl
  run_append s (c ∷ a) b = run_append (step s c).after a b

  pub answers_append : (s : S) (a b : List Call) → answers step s (a ++ b) ≡ answers step s a ++ answers step (run step s a) b
  unfolding run answers
  answers_append s [] b = refl
  answers_append s (c ∷ a) b = ap (λ (l : List Answer). (step s c).answer ∷ l) (answers_append (step s c).after a b)

-- ---- the agreement is kept by every list, and two files that agree with one history cannot be told apart

module _ (judge : Judge) (lays : LaysInside judge) where
  pub kept : (calls : List Call) (h : History) (f : Files) → Agrees judge h f → Agrees judge (run (told judge) h calls) (run (call judge) f calls)
  unfolding run
  kept [] h f a = a
  kept (c ∷ cs) h f a = kept cs (told judge h c).after (call judge f c).after (agrees judge lays h f a c).1

  pub same_answers : (calls : List Call) (h : History) (f : Files) → Agrees judge h f → answers (call judge) f calls ≡ answers (told judge) h calls
  unfolding answers
  same_answers [] h f a = refl
  same_answers (c ∷ cs) h f a =
      let now = agrees judge lays h f a c in
      ap₂ (λ (x : Answer) (l : List Answer). x ∷ l) now.0 (same_answers cs (told judge h c).after (call judge f c).after now.1)

  pub alike : (h : History) (f g : Files) → Agrees judge h f → Agrees judge h g → Alike f g
  alike h f g a b =
      let s = agrees_told judge lays h f a in
      let t = agrees_told judge lays h g b in
      record {
        image_same = s.image_is ∙ sym t.image_is;
        count_same = s.count_is ∙ sym t.count_is;
        held_same = s.held_is ∙ sym t.held_is;
        entries_same = s.entries_are ∙ sym t.entries_are;
        old_same = ap (part f.journal old_at) s.held_is ∙ s.old_are ∙ sym (ap (part g.journal old_at) t.held_is ∙ t.old_are);
        room_same = s.room_is ∙ sym t.room_is;
      }

  -- ---- the standing installs alone

  module _ (base : List ℕ) (room : ℕ) where
    abbrev at : List Standing → History
    at xs = record { start = base; room = room; standing = xs }

    -- an install that stands, asked for again where only the older ones stand, is done again
    again : (x : Standing) (xs : List Standing) → Stands judge base room (x ∷ xs)
        → told judge (at xs) (Install x.object x.order) ≡ succeed (at (x ∷ xs))
    unfolding told stand
    again x xs t = rw (t.0, t.1)

    -- the standing installs alone lead to themselves, and are all done
    alone_run : (xs : List Standing) → Stands judge base room xs → run (told judge) (at []) (alone xs) ≡ at xs
    unfolding alone run
    alone_run [] t = refl
    alone_run (x ∷ xs) t =
        run_append (told judge) (at []) (alone xs) (Install x.object x.order ∷ [])
        ∙ rw (alone_run xs t.2) (ap (λ (o : Outcome History). o.after) (again x xs t))

    alone_answers : (xs : List Standing) → Stands judge base room xs → answers (told judge) (at []) (alone xs) ≡ replicate (length xs) done
    unfolding alone answers
    alone_answers [] t = refl
    alone_answers (x ∷ xs) t =
        answers_append (told judge) (at []) (alone xs) (Install x.object x.order ∷ [])
        ∙ rw (alone_answers xs t.2, alone_run xs t.2)
        (ap (λ (o : Outcome History). replicate (length xs) done ++ o.answer ∷ []) (again x xs t)
        ∙ replicate-append-replicate (length xs) 1 done
        ∙ ap (λ (n : ℕ). replicate n done) (add-one (length xs)))

-- ---- a history keeps the copy of the starting image, and the journal's length

abbrev pub Over : History → History → Type 0
Over h h' = (h'.start ≡ h.start) × (h'.room ≡ h.room)

module _ (judge : Judge) where
  stand_over : (h : History) (object order : List ℕ) (v : Verdict) → Over h (stand h object order v).after
  unfolding stand
  stand_over h object order (refused a) = (refl, refl)
  stand_over h object order (plan ps) = go (no_room (count_of h) (held_of h) (span_of ps).size h.room)
    where
      go : (b : Bool)
          → Over h (cond b (refuse journal_full h) (succeed (record { start = h.start; room = h.room; standing = record { object = object; order = order; pieces = ps } ∷ h.standing }))).after
      go true = (refl, refl)
      go false = (refl, refl)

  fall_over : (h : History) (xs : List Standing) → Over h (fall h xs).after
  unfolding fall
  fall_over h [] = (refl, refl)
  fall_over h (x ∷ xs) = (refl, refl)

  told_over : (h : History) (c : Call) → Over h (told judge h c).after
  unfolding told
  told_over h (Install object order) = stand_over h object order (judge object order (length h.start))
  told_over h Rollback = fall_over h h.standing

  pub run_over : (calls : List Call) (h : History) → Over h (run (told judge) h calls)
  unfolding run
  run_over [] h = (refl, refl)
  run_over (c ∷ cs) h =
      let now = told_over h c in
      let later = run_over cs (told judge h c).after in
      (later.0 ∙ now.0, later.1 ∙ now.1)

-- ---- the start

started : (judge : Judge) (start : Files) → Start start → Agrees judge (begin start) start
unfolding spans laid olds total
started judge start s =
    let j = start.journal in
    let e = empty j (length start.image) s.sound s.none in
    record {
      free = max_entries;
      rest = drop old_at j;
      shape = record {
        short = s.allowed;
        slots = refl;
        space = simp length-drop (omega (arith, e.0));
        stands = tt;
      };
      files = ap (λ (l : List ℕ). record { image = start.image; journal = l }) e.1;
    }

-- what a list of calls leaves agrees with the history of the list
pub agrees_after : (judge : Judge) → LaysInside judge → (start : Files) → Start start → (calls : List Call)
    → Agrees judge (history_of judge start calls) (files_after (call judge) start calls)
agrees_after judge lays start s calls = kept judge lays calls (begin start) start (started judge start s)

-- ---- the theorem

fall_none : (h : History) (xs : List Standing) → xs ≡ [] → (fall h xs).answer ≡ none_stands
unfolding fall
fall_none h [] e = refl
fall_none h (x ∷ xs) e = absurd (omega (arith, ap length e))

fall_some : (h : History) (xs : List Standing) → (xs ≡ [] → ⊥) → (fall h xs).answer ≡ done
unfolding fall
fall_some h [] some = absurd (some refl)
fall_some h (x ∷ xs) some = refl

pub history_holds : (judge : Judge) → LaysInside judge → (K : Kind) (start : Files) → Start start → (calls : List Call)
    → Holds (call judge) judge K start calls (answers (call judge) start calls) (files_after (call judge) start calls)
unfolding told calling
history_holds judge lays K start s calls =
    let first : Agrees judge (begin start) start = started judge start s in
    let xs : List Standing = (history_of judge start calls).standing in
    let last : Agrees judge (history_of judge start calls) (files_after (call judge) start calls) = agrees_after judge lays start s calls in
    let kept-start : Over (begin start) (history_of judge start calls) = run_over judge calls (begin start) in
    let stands : Stands judge start.image (length start.journal) (history_of judge start calls).standing =
    rw (kept-start.0, kept-start.1) at last.shape.stands in
    let back : run (told judge) (begin start) (standing_alone judge start calls) ≡ history_of judge start calls =
    alone_run judge lays start.image (length start.journal) xs stands
    ∙ (λ i. record { start = sym kept-start.0 i; room = sym kept-start.1 i; standing = xs }) in
    let only : Agrees judge (history_of judge start calls) (files_after (call judge) start (standing_alone judge start calls)) =
    rw back at (agrees_after judge lays start s (standing_alone judge start calls)) in
    record {
      answered = same_answers judge lays calls (begin start) start first;
      as_told = agrees_told judge lays _ _ last;
      refused_if_none = λ none. (agrees judge lays _ _ last Rollback).0 ∙ fall_none _ _ none;
      done_if_some = λ some. (agrees judge lays _ _ last Rollback).0 ∙ fall_some _ _ some;
      alone_done = same_answers judge lays (standing_alone judge start calls) (begin start) start first
          ∙ alone_answers judge lays start.image (length start.journal) xs stands;
      alone_alike = alike judge lays _ _ _ only last;
      next = λ c k. (agrees judge lays _ _ last c).0 ∙ sym (agrees judge lays _ _ only c).0;
      further = λ more k. same_answers judge lays more _ _ last ∙ sym (same_answers judge lays more _ _ only);
    }
