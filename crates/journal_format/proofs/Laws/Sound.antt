-- Check 1: the test and the proposition agree, and what is known of a sound journal.
use mathlib.Core.Path.{◌≡◌, refl, ap, ◌∙◌}
use mathlib.Core.Bool.{Bool, true, false, ◌&&◌, ◌||◌}
use mathlib.Core.List.{List, [], ◌∷◌, ◌++◌}
use Prim.Native.Nat.{ℕ, zero, suc, ◌+◌, ◌*◌, ◌≤◌, ◌<◌}
use native.Mathlib.Omega.{arith}
use lib.ListN.{length, get_or}
use lib.Dec.{ltb, eqb}
use borrow.Author.Tests.{le-leb, leb-true, le-ltb, ltb-false, eqb-true, eq-eqb}
use Rattle.numbers_definitions.specs.First.{everywhere, tabulate}
use Rattle.numbers_definitions.proofs.Laws.Tests.{and_left, and_right, and_true, or_right}
use Rattle.numbers_definitions.proofs.Laws.First.{everywhere_at, everywhere_is, tabulate_snoc, length_tabulate, get_d_tabulate}
use Rattle.plan_pieces.specs.declared.Span.{Span}
use Rattle.journal_format.specs.Journals.{max_entries, old_at, count, entry, entries, held, blank, total, Sound, is_blank, ends_within, sound}

-- ---- sums of lengths

pub total_append : (a b : List Span) → total (a ++ b) ≡ total a + total b
unfolding total
total_append [] b = omega arith
total_append (s ∷ a) b = omega (arith, total_append a b)

pub total_snoc : (f : ℕ → Span) (n : ℕ) → total (tabulate f (suc n)) ≡ total (tabulate f n) + (f n).size
unfolding total
total_snoc f n = rw (tabulate_snoc f n, total_append) (omega arith)

pub size_le_total : (ss : List Span) (i : ℕ) → i < length ss → (get_or ss i blank).size ≤ total ss
unfolding total
size_le_total [] i h = absurd (omega arith)
size_le_total (s ∷ ss) zero h = omega arith
size_le_total (s ∷ ss) (suc i) h = omega (arith, size_le_total ss i (omega arith))

pub total_le : (m : ℕ) (ss : List Span) → ((i : ℕ) → i < length ss → (get_or ss i blank).size ≤ m) → total ss ≤ m * length ss
unfolding total
total_le m [] h = omega arith
total_le m (s ∷ ss) h = omega (arith, h 0 (omega arith), total_le m ss (λ i l. h (suc i) (omega arith)))

-- ---- the test and the proposition

pub blank_is : (s : Span) → is_blank s ≡ true → s ≡ blank
unfolding is_blank
blank_is s e =
    let start : s.start ≡ 0 = eqb-true _ _ (search (and_left, and_right)) in
    let size : s.size ≡ 0 = eqb-true _ _ (search (and_left, and_right)) in
    let fields : ◌≡◌ {A = Span} (record { start = s.start; size = s.size }) blank = cc in
    fields

-- what the code tests at entry i
abbrev pub allowed : List ℕ → ℕ → ℕ → Bool
allowed j len i = (ltb i (count j) || is_blank (entry j i)) && ends_within len (entry j i)

pub allowed_is : (j : List ℕ) (len i n : ℕ) (s : Span) (r : Bool) → n ≡ count j → s ≡ entry j i → r ≡ (ltb i n || is_blank s) && ends_within len s
    → r ≡ allowed j len i
allowed_is j len i n s r en es e = e ∙ rw (en, es)

module _ (j : List ℕ) (len : ℕ) where
  pub test_sound : sound j len ≡ true → Sound j len
  unfolding sound ends_within
  test_sound e =
      let zeros : everywhere (λ i. ltb i (count j) || is_blank (entry j i)) max_entries ≡ true = search (and_left, and_right) in
      let ends : everywhere (λ i. ends_within len (entry j i)) max_entries ≡ true = search (and_left, and_right) in
      record {
        few = leb-true _ _ (search (and_left, and_right));
        others_zero = λ i out h. blank_is (entry j i) (or_right _ _ (le-ltb i (count j) out) (everywhere_at _ max_entries zeros i h));
        held_is = eqb-true _ _ (search (and_left, and_right));
        fits = leb-true _ _ (search (and_left, and_right));
        inside = λ i h. leb-true _ _ (everywhere_at _ max_entries ends i h);
      }

  module _ (k : Sound j len) where
    zero_at : (i : ℕ) → i < max_entries → ltb i (count j) || is_blank (entry j i) ≡ true
    unfolding is_blank
    zero_at i h = go (ltb i (count j)) refl
      where
        go : (b : Bool) → ltb i (count j) ≡ b → b || is_blank (entry j i) ≡ true
        go true e = refl
        go false e = ap is_blank (k.others_zero i (ltb-false i (count j) e) h)

    ends_at : (i : ℕ) → i < max_entries → ends_within len (entry j i) ≡ true
    unfolding ends_within
    ends_at i h = le-leb _ _ (k.inside i h)

    pub sound_test : sound j len ≡ true
    unfolding sound
    sound_test =
        rw (le-leb _ _ k.few, everywhere_is (λ i. ltb i (count j) || is_blank (entry j i)) max_entries zero_at, eq-eqb _ _ k.held_is, le-leb _ _ k.fits)
        (everywhere_is (λ i. ends_within len (entry j i)) max_entries ends_at)

    pub sound_entry : (i : ℕ) → i < max_entries → allowed j len i ≡ true
    sound_entry i h = rw (zero_at i h, ends_at i h)

  pub unsound_test : (Sound j len → ⊥) → false ≡ sound j len
  unsound_test unsound = go (sound j len) refl
    where
      go : (b : Bool) → sound j len ≡ b → false ≡ b
      go true e = absurd (unsound (test_sound e))
      go false e = refl

  -- if everything else holds, the last test decides: whether k is the sum of the lengths
  pub sound_by_held : (s : ℕ) → s ≡ total (entries j) → count j ≤ max_entries → old_at + held j ≤ length j
      → ((i : ℕ) → i < max_entries → allowed j len i ≡ true)
      → eqb (held j) s ≡ sound j len
  unfolding sound
  sound_by_held s e few fits each =
      rw (
        e,
        le-leb _ _ few,
        everywhere_is (λ i. ltb i (count j) || is_blank (entry j i)) max_entries (λ i h. and_left (ltb i (count j) || is_blank (entry j i)) (ends_within len (entry j i)) (each i h)),
        le-leb _ _ fits,
        everywhere_is (λ i. ends_within len (entry j i)) max_entries (λ i h. and_right (ltb i (count j) || is_blank (entry j i)) (ends_within len (entry j i)) (each i h)),
        and_true,
        and_true,
      )

-- ---- what a sound journal tells

pub entries_length : (j : List ℕ) → length (entries j) ≡ max_entries
unfolding entries
entries_length j = length_tabulate (entry j) max_entries

pub entries_at : (j : List ℕ) (i : ℕ) → i < max_entries → get_or (entries j) i blank ≡ entry j i
unfolding entries
entries_at j i h = get_d_tabulate (entry j) max_entries i blank h
