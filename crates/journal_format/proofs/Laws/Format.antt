-- A journal as its parts: n, the entries, k, and what follows. What is read from it, and what is written into it.
use mathlib.Core.Path.{◌≡◌, refl, sym, ap, ap₂, ◌∙◌}
use Prim.Native.Nat.{ℕ, suc, ◌+◌, ◌*◌, ◌^◌, ◌<◌}
use native.Mathlib.Omega.{arith}
use mathlib.Core.List.{List, [], ◌∷◌, ◌++◌, append_assoc}
use lib.ListN.{length, drop, length-append}
use lib.Seq.{sets}
use Rattle.numbers_definitions.specs.Bytes.{le_at, bytes}
use Rattle.numbers_definitions.specs.First.{tabulate}
use Rattle.numbers_definitions.proofs.Laws.Lists.{splice}
use Rattle.numbers_definitions.proofs.Laws.Bytes.{length_bytes, le_at_bytes, le_at_drop}
use Rattle.numbers_definitions.proofs.Laws.First.{tabulate_same}
use Rattle.plan_pieces.specs.declared.Span.{Span}
use Rattle.plan_pieces.specs.Plans.{piece, overwritten}
use Rattle.journal_format.specs.Journals.{max_entries, number_size, entry_size, count_at, entry_at, held_at, old_at, count, held, entry, entries, entry_bytes}

-- ---- the entries as bytes

unfoldable pub table : List Span → List ℕ
table [] = []
table (s ∷ ss) = entry_bytes s ++ table ss

pub length_entry : (s : Span) → length (entry_bytes s) ≡ entry_size
length_entry s = simp (length-append, length_bytes) refl

length_table : (ss : List Span) → length (table ss) ≡ entry_size * length ss
unfolding table
length_table [] = refl
length_table (s ∷ ss) = simp (length-append, length_bytes) (omega (arith, length_table ss))

table_append : (a b : List Span) → table (a ++ b) ≡ table a ++ table b
unfolding table
table_append [] b = refl
table_append (s ∷ a) b = rw (table_append a b) (sym (append_assoc (entry_bytes s) (table a) (table b)))

-- each span's numbers fit four bytes
abbrev pub Small : List Span → Type 0
Small [] = Unit {0}
Small (s ∷ ss) = (s.start < 2 ^ 32) × (s.size < 2 ^ 32) × Small ss

-- entry i of a table that starts at a place
abbrev pub entry_from : List ℕ → ℕ → ℕ → Span
entry_from s at i = record { start = le_at number_size s (at + entry_size * i); size = le_at number_size s (at + entry_size * i + number_size) }

-- the entries after the first are those of a table that starts one entry on
pub entry_from_shift : (s : List ℕ) (at i : ℕ) → entry_from s at (suc i) ≡ entry_from s (at + entry_size) i
entry_from_shift s at i =
    let on : at + entry_size * suc i ≡ at + entry_size + entry_size * i = omega arith in
    rw on

-- a table in the rest of a list
pub entry_from_drop : (s : List ℕ) (a at i : ℕ) → entry_from (drop a s) at i ≡ entry_from s (a + at) i
entry_from_drop s a at i =
    let start : a + (at + entry_size * i) ≡ a + at + entry_size * i = omega arith in
    let size : a + (at + entry_size * i + number_size) ≡ a + at + entry_size * i + number_size = omega arith in
    rw (le_at_drop number_size a s (at + entry_size * i), le_at_drop number_size a s (at + entry_size * i + number_size), start, size)

-- an entry that stands after a stretch of bytes
entry_from_bytes : (x : Span) (s a t : List ℕ) (at : ℕ) → s ≡ a ++ (entry_bytes x ++ t) → length a ≡ at → x.start < 2 ^ 32 → x.size < 2 ^ 32
    → entry_from s at 0 ≡ x
entry_from_bytes x s a t at e l hs hz =
    let p : List ℕ = bytes number_size x.start in
    let q : List ℕ = bytes number_size x.size in
    let here : s ≡ a ++ (p ++ (q ++ t)) = e ∙ simp append_assoc in
    let on : s ≡ (a ++ p) ++ (q ++ t) = e ∙ simp append_assoc in
    let start : le_at number_size s (at + entry_size * 0) ≡ x.start = le_at_bytes number_size x.start s a (q ++ t) (at + entry_size * 0) here (omega arith) hs in
    let size : le_at number_size s (at + entry_size * 0 + number_size) ≡ x.size =
    le_at_bytes number_size x.size s (a ++ p) t (at + entry_size * 0 + number_size) on (simp (length-append, length_bytes) (omega arith)) hz in
    let fields : ◌≡◌ {A = Span} (entry_from s at 0) (record { start = x.start; size = x.size }) = rw (start, size) in
    fields

tabulate_table : (ss : List Span) (s a t : List ℕ) (at : ℕ) → s ≡ a ++ (table ss ++ t) → length a ≡ at → Small ss
    → tabulate (entry_from s at) (length ss) ≡ ss
unfolding tabulate table
tabulate_table [] s a t at e l small = refl
tabulate_table (x ∷ ss) s a t at e l small =
    let here : s ≡ a ++ (entry_bytes x ++ (table ss ++ t)) = e ∙ simp append_assoc in
    let on : s ≡ (a ++ entry_bytes x) ++ (table ss ++ t) = e ∙ simp append_assoc in
    let shift : tabulate (λ i. entry_from s at (suc i)) (length ss) ≡ tabulate (entry_from s (at + entry_size)) (length ss) =
    tabulate_same _ _ (length ss) (λ i h. entry_from_shift s at i) in
    let rest : tabulate (entry_from s (at + entry_size)) (length ss) ≡ ss =
    tabulate_table ss s (a ++ entry_bytes x) t (at + entry_size) on (simp (length-append, length_bytes) (omega arith)) small.2 in
    ap₂ ◌∷◌ (entry_from_bytes x s a (table ss ++ t) at here l small.0 small.1) (shift ∙ rest)

-- ---- the journal of n, entries, k, and what follows

unfoldable pub spelt : ℕ → List Span → ℕ → List ℕ → List ℕ
spelt n slots k tail = bytes number_size n ++ (table slots ++ (bytes number_size k ++ tail))

module _ (n : ℕ) (slots : List Span) (k : ℕ) (tail : List ℕ) (full : length slots ≡ max_entries) where
  length_front : length (bytes number_size n ++ table slots) ≡ held_at
  length_front = simp (length-append, length_bytes, length_table, full) refl

  pub length_spelt : length (spelt n slots k tail) ≡ old_at + length tail
  unfolding spelt
  length_spelt = simp (length-append, length_bytes, length_table, full) (omega arith)

  pub count_spelt : n < 2 ^ 32 → count (spelt n slots k tail) ≡ n
  unfolding spelt
  count_spelt h = le_at_bytes number_size n _ [] (table slots ++ (bytes number_size k ++ tail)) count_at refl refl h

  pub held_spelt : k < 2 ^ 32 → held (spelt n slots k tail) ≡ k
  unfolding spelt
  held_spelt h =
      le_at_bytes number_size k _ (bytes number_size n ++ table slots) tail held_at (sym (append_assoc (bytes number_size n) (table slots) (bytes number_size k ++ tail))) length_front h

  pub entries_spelt : Small slots → entries (spelt n slots k tail) ≡ slots
  unfolding spelt entries entry
  entries_spelt h =
      ap (tabulate (entry_from (spelt n slots k tail) (entry_at 0))) (sym full)
      ∙ tabulate_table slots _ (bytes number_size n) (bytes number_size k ++ tail) (entry_at 0) refl (length_bytes number_size n) h

-- ---- one part set anew

set_count : (n n' : ℕ) (slots : List Span) (k : ℕ) (tail : List ℕ) → sets (spelt n slots k tail) count_at (bytes number_size n') ≡ spelt n' slots k tail
unfolding spelt
set_count n n' slots k tail =
    splice [] (bytes number_size n) (bytes number_size n') (table slots ++ (bytes number_size k ++ tail)) count_at refl (length_bytes number_size n ∙ sym (length_bytes number_size n'))

set_entry : (n : ℕ) (a : List Span) (s s' : Span) (b : List Span) (k : ℕ) (tail : List ℕ)
    → sets (spelt n (a ++ s ∷ b) k tail) (entry_at (length a)) (entry_bytes s') ≡ spelt n (a ++ s' ∷ b) k tail
unfolding spelt table
set_entry n a s s' b k tail =
    let at : length (bytes number_size n ++ table a) ≡ entry_at (length a) = simp (length-append, length_bytes, length_table) refl in
    simp (table_append, append_assoc)
    (simp append_assoc at
    (splice (bytes number_size n ++ table a) (entry_bytes s) (entry_bytes s') (table b ++ (bytes number_size k ++ tail)) (entry_at (length a)) at
    (length_entry s ∙ sym (length_entry s'))))

set_held : (n : ℕ) (slots : List Span) (k k' : ℕ) (tail : List ℕ) → length slots ≡ max_entries
    → sets (spelt n slots k tail) held_at (bytes number_size k') ≡ spelt n slots k' tail
unfolding spelt
set_held n slots k k' tail full =
    simp append_assoc at
    (splice (bytes number_size n ++ table slots) (bytes number_size k) (bytes number_size k') tail held_at (length_front n slots k tail full) (length_bytes number_size k ∙ sym (length_bytes number_size k')))

set_old : (n : ℕ) (slots : List Span) (k : ℕ) (o p p' r : List ℕ) → length slots ≡ max_entries → length p ≡ length p'
    → sets (spelt n slots k (o ++ (p ++ r))) (old_at + length o) p' ≡ spelt n slots k (o ++ (p' ++ r))
unfolding spelt
set_old n slots k o p p' r full e =
    let at : length (spelt n slots k o) ≡ old_at + length o = length_spelt n slots k o full in
    simp append_assoc at (splice (spelt n slots k o) p p' r (old_at + length o) at e)

-- ---- the four parts that a call writes, in the order of either call

module _ (n n' : ℕ) (a : List Span) (s s' : Span) (b : List Span) (k k' : ℕ) (o p p' r : List ℕ) (full : length (a ++ s ∷ b) ≡ max_entries)
    (same : length p ≡ length p') where
  full' : length (a ++ s' ∷ b) ≡ max_entries
  full' = simp length-append (simp length-append at full)

  pub spelt_saving : overwritten (spelt n (a ++ s ∷ b) k (o ++ (p ++ r)))
      (piece (old_at + length o) p' ∷ piece (entry_at (length a)) (entry_bytes s') ∷ piece held_at (bytes number_size k') ∷ piece count_at (bytes number_size n') ∷ [])
      ≡ spelt n' (a ++ s' ∷ b) k' (o ++ (p' ++ r))
  unfolding overwritten
  spelt_saving =
      let tail = o ++ (p' ++ r) in
      rw (set_old n (a ++ s ∷ b) k o p p' r full same, set_entry n a s s' b k tail, set_held n (a ++ s' ∷ b) k k' tail full')
      (set_count n n' (a ++ s' ∷ b) k' tail)

  pub spelt_releasing : overwritten (spelt n (a ++ s ∷ b) k (o ++ (p ++ r)))
      (piece count_at (bytes number_size n') ∷ piece held_at (bytes number_size k') ∷ piece (entry_at (length a)) (entry_bytes s') ∷ piece (old_at + length o) p' ∷ [])
      ≡ spelt n' (a ++ s' ∷ b) k' (o ++ (p' ++ r))
  unfolding overwritten
  spelt_releasing =
      let tail = o ++ (p ++ r) in
      rw (set_count n n' (a ++ s ∷ b) k tail, set_held n' (a ++ s ∷ b) k k' tail full, set_entry n' a s s' b k' tail)
      (set_old n' (a ++ s' ∷ b) k' o p p' r full' same)
