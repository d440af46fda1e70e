-- A sound journal as a stack of spans: what is read from it, that it is sound, and what a save and a release make of it.
use mathlib.Core.Path.{◌≡◌, refl, sym, ap, ◌∙◌}
use Prim.Native.Nat.{ℕ, zero, suc, ◌+◌, ◌*◌, ◌≤◌, ◌<◌}
use native.Mathlib.Nat.{add-zero}
use native.Mathlib.Omega.{arith}
use mathlib.Core.List.{List, [], ◌∷◌, ◌++◌, append_assoc}
use lib.ListN.{length, drop, get_or, length-append, replicate, length-replicate, length-drop}
use lib.Seq.{get_or_at, drop-drop}
use Rattle.numbers_definitions.specs.Bytes.{le_at, bytes}
use Rattle.numbers_definitions.specs.First.{tabulate}
use Rattle.numbers_definitions.proofs.Laws.Bytes.{le_zero}
use Rattle.numbers_definitions.proofs.Laws.First.{tabulate_same}
use Rattle.order_format.specs.Windows.{max_image}
use Rattle.plan_pieces.specs.declared.Span.{Span}
use Rattle.plan_pieces.specs.Plans.{piece, overwritten}
use Rattle.journal_format.specs.Journals.{max_entries, entry_size, count_at, entry_at, held_at, old_at, count, held, entry, entries, blank, entry_bytes, total, Sound}
use Rattle.journal_format.proofs.Laws.Sound.{total_append, entries_at}
use Rattle.journal_format.proofs.Laws.Format.{table, spelt, Small, entry_from, entry_from_drop, entry_from_shift, length_spelt, count_spelt, held_spelt, entries_spelt, spelt_saving, spelt_releasing}

-- ---- spans inside an image

-- each span lies inside an image of the length
abbrev pub AllIn : ℕ → List Span → Type 0
AllIn len [] = Unit {0}
AllIn len (s ∷ ss) = (s.start + s.size ≤ len) × AllIn len ss

pub all_in_append : (len : ℕ) (a b : List Span) → AllIn len a → AllIn len b → AllIn len (a ++ b)
all_in_append len [] b h k = k
all_in_append len (s ∷ a) b h k = (h.0, all_in_append len a b h.1 k)

all_in_at : (len : ℕ) (ss : List Span) → AllIn len ss → (i : ℕ) → (get_or ss i blank).start + (get_or ss i blank).size ≤ len
all_in_at len [] h i = omega arith
all_in_at len (s ∷ ss) h zero = h.0
all_in_at len (s ∷ ss) h (suc i) = all_in_at len ss h.1 i

small : (len : ℕ) (ss : List Span) → len ≤ max_image → AllIn len ss → Small ss
small len [] h k = tt
small len (s ∷ ss) h k = (omega arith, omega arith, small len ss h k.1)

total_le_all : (len : ℕ) (ss : List Span) → len ≤ max_image → AllIn len ss → total ss ≤ max_image * length ss
unfolding total
total_le_all len [] h k = omega arith
total_le_all len (s ∷ ss) h k = omega (arith, total_le_all len ss h k.1)

-- ---- blank entries

all_in_blank : (len m : ℕ) → AllIn len (replicate m blank)
all_in_blank len zero = tt
all_in_blank len (suc m) = (omega arith, all_in_blank len m)

total_blank : (m : ℕ) → total (replicate m blank) ≡ 0
unfolding total
total_blank zero = refl
total_blank (suc m) = omega (arith, total_blank m)

get_d_blank : (m i : ℕ) → get_or (replicate m blank) i blank ≡ blank
get_d_blank zero i = refl
get_d_blank (suc m) zero = refl
get_d_blank (suc m) (suc i) = get_d_blank m i

blank_past : (ss : List Span) (m i : ℕ) → length ss ≤ i → get_or (ss ++ replicate m blank) i blank ≡ blank
blank_past [] m i h = get_d_blank m i
blank_past (s ∷ ss) m zero h = absurd (omega arith)
blank_past (s ∷ ss) m (suc i) h = blank_past ss m i (omega arith)

-- ---- the journal of a stack

-- it has the spans, the oldest first, then the number of free entries, and what follows k
unfoldable pub journal_of : List Span → ℕ → List ℕ → List ℕ
journal_of ss free tail = spelt (length ss) (ss ++ replicate free blank) (total ss) tail

module _ (ss : List Span) (free : ℕ) (tail : List ℕ) (slots : length ss + free ≡ max_entries) where
  full : length (ss ++ replicate free blank) ≡ max_entries
  full = simp (length-append, length-replicate) slots

  pub length_journal : length (journal_of ss free tail) ≡ old_at + length tail
  unfolding journal_of
  length_journal = length_spelt (length ss) (ss ++ replicate free blank) (total ss) tail full

  pub count_journal : count (journal_of ss free tail) ≡ length ss
  unfolding journal_of
  count_journal = count_spelt (length ss) (ss ++ replicate free blank) (total ss) tail full (omega arith)

  module _ (len : ℕ) (short : len ≤ max_image) (ins : AllIn len ss) where
    pub held_journal : held (journal_of ss free tail) ≡ total ss
    unfolding journal_of
    held_journal = held_spelt (length ss) (ss ++ replicate free blank) (total ss) tail full (omega (arith, total_le_all len ss short ins))

    all_in : AllIn len (ss ++ replicate free blank)
    all_in = all_in_append len ss (replicate free blank) ins (all_in_blank len free)

    pub entries_journal : entries (journal_of ss free tail) ≡ ss ++ replicate free blank
    unfolding journal_of
    entries_journal = entries_spelt (length ss) (ss ++ replicate free blank) (total ss) tail full (small len (ss ++ replicate free blank) short all_in)

    pub entry_journal : (i : ℕ) → i < max_entries → entry (journal_of ss free tail) i ≡ get_or (ss ++ replicate free blank) i blank
    entry_journal i h = sym (entries_at (journal_of ss free tail) i h) ∙ ap (λ l. get_or l i blank) entries_journal

    pub sound_journal : total ss ≤ length tail → Sound (journal_of ss free tail) len
    sound_journal h =
        let sum : total (ss ++ replicate free blank) ≡ total ss = total_append ss (replicate free blank) ∙ omega (arith, total_blank free) in
        record {
          few = rw count_journal (omega arith);
          others_zero = λ i out l. entry_journal i l ∙ blank_past ss free i (rw count_journal at out);
          held_is = rw (held_journal, entries_journal, sum) refl;
          fits = rw (held_journal, length_journal) (omega arith);
          inside = λ i l. rw (entry_journal i l) (all_in_at len (ss ++ replicate free blank) all_in i);
        }

-- the newest span of a stack
pub newest_at : (ss : List Span) (s : Span) (free : ℕ) → get_or (ss ++ s ∷ [] ++ replicate free blank) (length ss) blank ≡ s
newest_at ss s free = rw append_assoc (get_or_at ss s (replicate free blank) blank (length ss) refl)

-- ---- a save and a release

module _ (ss : List Span) (free : ℕ) (s : Span) (o p p' r : List ℕ) (slots : length ss + suc free ≡ max_entries) (holds : length o ≡ total ss)
    (same : length p ≡ length p') where
  -- p' replaces as many bytes after o, which are the bytes held so far
  pub save_journal : overwritten (journal_of ss (suc free) (o ++ (p ++ r)))
      (piece (old_at + total ss) p'
      ∷ piece (entry_at (length ss)) (entry_bytes s)
      ∷ piece held_at (bytes 4 (total ss + s.size))
      ∷ piece count_at (bytes 4 (length ss + 1))
      ∷ [])
      ≡ journal_of (ss ++ s ∷ []) free (o ++ p' ++ r)
  unfolding journal_of total
  save_journal =
      let full : length (ss ++ blank ∷ replicate free blank) ≡ max_entries = simp (length-append, length-replicate) slots in
      simp (append_assoc, length-append, total_append, add-zero)
      (rw holds at (spelt_saving (length ss) (length ss + 1) ss blank s (replicate free blank) (total ss) (total ss + s.size) o p p' r full same))

  -- p' replaces p, the old bytes of the newest span
  pub release_journal : overwritten (journal_of (ss ++ s ∷ []) free (o ++ p ++ r))
      (piece count_at (bytes 4 (length ss))
      ∷ piece held_at (bytes 4 (total ss))
      ∷ piece (entry_at (length ss)) (entry_bytes blank)
      ∷ piece (old_at + total ss) p'
      ∷ [])
      ≡ journal_of ss (suc free) (o ++ (p' ++ r))
  unfolding journal_of total
  release_journal =
      let full : length (ss ++ s ∷ replicate free blank) ≡ max_entries = simp (length-append, length-replicate) slots in
      simp (append_assoc, length-append, total_append, add-zero)
      (rw holds at (spelt_releasing (length ss + 1) (length ss) ss s blank (replicate free blank) (total ss + s.size) (total ss) o p p' r full same))

-- ---- a sound journal in which nothing stands is the empty stack

-- entries that are all blank are zeros
zero_table : (m : ℕ) (s : List ℕ) → entry_size * m ≤ length s → ((i : ℕ) → i < m → entry_from s 0 i ≡ blank)
    → s ≡ table (replicate m blank) ++ drop (entry_size * m) s
unfolding table le_at
zero_table zero s h z = refl
zero_table (suc m) s h z =
    let first = z 0 (omega arith) in
    let p : s ≡ bytes 4 0 ++ drop 4 s = le_zero 4 s (omega arith) (ap (λ (e : Span). e.start) first) in
    let q : drop 4 s ≡ bytes 4 0 ++ drop entry_size s =
    simp drop-drop at (le_zero 4 (drop 4 s) (simp length-drop (omega arith)) (ap (λ (e : Span). e.size) first)) in
    let r : drop entry_size s ≡ table (replicate m blank) ++ drop (entry_size * m) (drop entry_size s) =
    zero_table m (drop entry_size s) (simp length-drop (omega arith)) (λ i l. entry_from_drop s entry_size 0 i ∙ sym (entry_from_shift s 0 i) ∙ z (suc i) (omega arith)) in
    let n : entry_size * suc m ≡ entry_size + entry_size * m = omega arith in
    rw n (p ∙ ap (λ (l : List ℕ). bytes 4 0 ++ l) (q ∙ ap (λ (l : List ℕ). bytes 4 0 ++ l) (simp drop-drop at r)) ∙ simp append_assoc)

total_zero : (f : ℕ → Span) → ((i : ℕ) → i < max_entries → f i ≡ blank) → total (tabulate f max_entries) ≡ 0
unfolding tabulate total
total_zero f z = ap total (tabulate_same f (λ i. blank) max_entries z)

pub empty : (j : List ℕ) (len : ℕ) → Sound j len → count j ≡ 0 → (old_at ≤ length j) × (j ≡ journal_of [] max_entries (drop old_at j))
unfolding journal_of spelt entries entry total le_at
empty j len k e =
    let fits : old_at + held j ≤ length j = k.fits in
    let blanks : (i : ℕ) → i < max_entries → entry j i ≡ blank = λ i l. k.others_zero i (omega arith) l in
    let none : held j ≡ 0 = k.held_is ∙ total_zero (entry j) blanks in
    let a : j ≡ bytes 4 0 ++ drop 4 j = le_zero 4 j (omega arith) e in
    let b : drop 4 j ≡ table (replicate max_entries blank) ++ drop held_at j =
    simp drop-drop at (zero_table max_entries (drop 4 j) (simp length-drop (omega arith)) (λ i l. entry_from_drop j 4 0 i ∙ blanks i l)) in
    let c : drop held_at j ≡ bytes 4 0 ++ drop old_at j = simp drop-drop at (le_zero 4 (drop held_at j) (simp length-drop (omega arith)) none) in
    (omega arith, a ∙ ap (λ (l : List ℕ). bytes 4 0 ++ l) (b ∙ ap (λ (l : List ℕ). table (replicate max_entries blank) ++ l) c))
