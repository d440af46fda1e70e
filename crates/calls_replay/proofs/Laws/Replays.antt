-- Laws of a replay: call by call.
use mathlib.Core.Path.{◌≡◌, refl, sym, ap, ◌∙◌}
use mathlib.Core.Bool.{true, false}
use mathlib.Core.List.{List, [], ◌∷◌, ◌++◌}
use Prim.Native.Nat.{ℕ, suc, ◌+◌, ◌≤◌, ◌<◌}
use native.Mathlib.Numerals.{add-one}
use native.Mathlib.Omega.{arith}
use lib.ListN.{length, set}
use lib.Seq.{sets}
use borrow.Author.Tests.{le-leb, lt-leb, eq-eqb, ne_eqb}
use Rattle.numbers_definitions.specs.Bytes.{part}
use Rattle.numbers_definitions.proofs.Laws.First.{length_tabulate, tabulate_snoc}
use Rattle.numbers_definitions.proofs.Laws.Lists.{sets_snoc}
use Rattle.numbers_definitions.proofs.Laws.Tests.{and_false}
use Rattle.plan_pieces.specs.Answers.{Answer, packed}
use Rattle.journal_history.specs.Calls.{Files, Outcome, Call, Install, Rollback, InstallCall, RollbackCall, calling, answers, run}
use Rattle.journal_history.proofs.Laws.History.{run_append, answers_append}
use Rattle.calls_replay.specs.Lists.{FIT, call_count, kind_at, object_length, order_length, call_at, call_start, is_list, calls_of}
use Rattle.calls_replay.specs.Replays.{codes, replay}
use Rattle.calls_replay.specs.Requires.{first_calls, left_by, codes_of}

-- ---- a call, by its kind

module _ (s : List ℕ) (at : ℕ) where
  pub call_fit : kind_at s at ≡ FIT → call_at s at ≡ Install (part s (at + 8) (object_length s at)) (part s (at + 12 + object_length s at) (order_length s at))
  unfolding call_at
  call_fit e = rw (eq-eqb (kind_at s at) FIT e)

  pub call_other : (kind_at s at ≡ FIT → ⊥) → call_at s at ≡ Rollback
  unfolding call_at
  call_other n = rw (ne_eqb (kind_at s at) FIT n)

-- ---- the first i calls of a list, one after the other

codes_append : (a b : List Answer) → codes (a ++ b) ≡ codes a ++ codes b
unfolding codes
codes_append [] b = refl
codes_append (x ∷ a) b = ap (λ l. packed x ∷ l) (codes_append a b)

module _ (installs : InstallCall) (rollsBack : RollbackCall) (s : List ℕ) (f : Files) where
  abbrev step : Files → Call → Outcome Files
  step = calling installs rollsBack

  -- the outcome of the next call
  abbrev pub next_outcome : ℕ → Outcome Files
  next_outcome i = step (left_by installs rollsBack s f i) (call_at s (call_start s i))

  one_more : (i : ℕ) → first_calls s (i + 1) ≡ first_calls s i ++ call_at s (call_start s i) ∷ []
  one_more i = ap (first_calls s) (add-one i) ∙ tabulate_snoc (λ j. call_at s (call_start s j)) i

  pub left_next : (i : ℕ) → left_by installs rollsBack s f (i + 1) ≡ (next_outcome i).after
  unfolding run
  left_next i = ap (run step f) (one_more i) ∙ run_append step f (first_calls s i) (call_at s (call_start s i) ∷ [])

  pub codes_next : (i : ℕ) → codes_of installs rollsBack s f (i + 1) ≡ codes_of installs rollsBack s f i ++ packed (next_outcome i).answer ∷ []
  unfolding answers codes
  codes_next i =
      ap (λ l. codes (answers step f l)) (one_more i)
      ∙ ap codes (answers_append step f (first_calls s i) (call_at s (call_start s i) ∷ []))
      ∙ codes_append (answers step f (first_calls s i)) ((next_outcome i).answer ∷ [])

length_codes : (a : List Answer) → length (codes a) ≡ length a
unfolding codes
length_codes [] = refl
length_codes (x ∷ a) = ap suc (length_codes a)

length_answers : (step : Files → Call → Outcome Files) (f : Files) (cs : List Call) → length (answers step f cs) ≡ length cs
unfolding answers
length_answers step f [] = refl
length_answers step f (c ∷ cs) = ap suc (length_answers step (step f c).after cs)

pub codes_length : (installs : InstallCall) (rollsBack : RollbackCall) (s : List ℕ) (f : Files) (i : ℕ) → length (codes_of installs rollsBack s f i) ≡ i
codes_length installs rollsBack s f i =
    length_codes (answers (calling installs rollsBack) f (first_calls s i))
    ∙ length_answers (calling installs rollsBack) f (first_calls s i)
    ∙ length_tabulate (λ j. call_at s (call_start s j)) i

-- ---- call i made: what is left, and the code in its place

module _ (installs : InstallCall) (rollsBack : RollbackCall) (s : List ℕ) (f : Files) (i at : ℕ) (g : Files)
    (at-is : at ≡ call_start s i) (g-is : g ≡ left_by installs rollsBack s f i) where
  made : calling installs rollsBack g (call_at s at) ≡ next_outcome installs rollsBack s f i
  made = ap (λ h. calling installs rollsBack h (call_at s at)) g-is ∙ ap (λ k. calling installs rollsBack (left_by installs rollsBack s f i) (call_at s k)) at-is

  pub left_made : (h : Files) → h ≡ (calling installs rollsBack g (call_at s at)).after → h ≡ left_by installs rollsBack s f (i + 1)
  left_made h e = e ∙ ap (λ o. o.after) made ∙ sym (left_next installs rollsBack s f i)

  pub codes_made : (room a : List ℕ) (code : ℕ) → a ≡ sets room 0 (codes_of installs rollsBack s f i)
      → code ≡ packed (calling installs rollsBack g (call_at s at)).answer → set a i code ≡ sets room 0 (codes_of installs rollsBack s f (i + 1))
  codes_made room a code p q =
      let from-0 : i ≡ 0 + i = omega arith in
      ap (λ l. set l i code) p
      ∙ ap (λ k. set (sets room 0 (codes_of installs rollsBack s f i)) k code) from-0
      ∙ sets_snoc room 0 (codes_of installs rollsBack s f i) code i (codes_length installs rollsBack s f i)
      ∙ ap (λ x. sets room 0 (codes_of installs rollsBack s f i ++ x ∷ [])) (q ∙ ap (λ o. packed o.answer) made)
      ∙ ap (sets room 0) (sym (codes_next installs rollsBack s f i))

-- ---- the replay: run, or not

module _ (installs : InstallCall) (rollsBack : RollbackCall) (s room : List ℕ) (f : Files) where
  pub not_run : is_list s ≡ false → record { ran = 0; answers = room; after = f } ≡ replay installs rollsBack s room f
  unfolding replay
  not_run e = rw e

  pub no_places : length room < call_count s → record { ran = 0; answers = room; after = f } ≡ replay installs rollsBack s room f
  unfolding replay
  no_places h = rw (lt-leb (call_count s) (length room) h, and_false)

  pub ran : is_list s ≡ true → call_count s ≤ length room → (a : List ℕ) (g : Files)
      → a ≡ sets room 0 (codes_of installs rollsBack s f (call_count s)) → g ≡ left_by installs rollsBack s f (call_count s)
      → record { ran = 1; answers = a; after = g } ≡ replay installs rollsBack s room f
  unfolding replay calls_of
  ran e h a g p q = rw (e, le-leb (call_count s) (length room) h) (λ i. record { ran = 1; answers = p i; after = q i })
