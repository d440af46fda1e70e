-- What is read of a list after pieces are written over it.
use mathlib.Core.Logic.{◌⊎◌, inl}
use mathlib.Core.Path.{◌≡◌, refl, ap, ◌∙◌}
use Prim.Native.Nat.{ℕ, ◌+◌, ◌^◌, ◌≤◌, ◌<◌}
use native.Mathlib.Nat.{mod-eq_of_lt}
use native.Mathlib.Omega.{arith}
use mathlib.Core.List.{List, [], ◌∷◌, ◌++◌}
use lib.ListN.{length}
use lib.Seq.{sets, length-sets}
use Rattle.numbers_definitions.specs.Bytes.{le_at, bytes, part}
use Rattle.numbers_definitions.proofs.Laws.Bytes.{length_bytes, le_at_sets, le_at_sets_other}
use Rattle.numbers_definitions.proofs.Laws.Lists.{sets_append, part_other}
use Rattle.plan_pieces.specs.declared.Span.{Span}
use Rattle.plan_pieces.specs.Plans.{Piece, piece, Inside, overwritten}
use Rattle.journal_format.specs.Journals.{number_size, entry_size, entry_at, entry, entry_bytes}

-- ---- places that no piece touches

-- no piece touches the n places from i on
abbrev pub Clear : ℕ → ℕ → List Piece → Type 0
Clear i n [] = Unit {0}
Clear i n (piece at b ∷ ps) = ((i + n ≤ at) ⊎ (at + length b ≤ i)) × Clear i n ps

pub le_at_clear : (n : ℕ) (s : List ℕ) (i : ℕ) (ps : List Piece) → Clear i n ps → le_at n (overwritten s ps) i ≡ le_at n s i
unfolding overwritten
le_at_clear n s i [] c = refl
le_at_clear n s i (piece at b ∷ ps) c = le_at_clear n (sets s at b) i ps c.1 ∙ le_at_sets_other n s i at b c.0

pub part_clear : (s : List ℕ) (i n : ℕ) (ps : List Piece) → Inside (length s) ps → Clear i n ps → part (overwritten s ps) i n ≡ part s i n
unfolding overwritten
part_clear s i n [] inside c = refl
part_clear s i n (piece at b ∷ ps) inside c =
    part_clear (sets s at b) i n ps (rw (length-sets s at b) inside.1) c.1 ∙ part_other s at b i n (omega (arith, inside.0)) c.0

-- ---- a number, and an entry, that a piece holds

module _ (s : List ℕ) (ps : List Piece) where
  pub number_stored : (n at x : ℕ) → at + n ≤ length s → x < 256 ^ n → Clear at n ps → le_at n (overwritten s (piece at (bytes n x) ∷ ps)) at ≡ x
  unfolding overwritten
  number_stored n at x h l c = le_at_clear n (sets s at (bytes n x)) at ps c ∙ le_at_sets n s at x h ∙ mod-eq_of_lt l

  pub entry_stored : (i : ℕ) (e : Span) → entry_at i + entry_size ≤ length s → e.start < 2 ^ 32 → e.size < 2 ^ 32
      → Clear (entry_at i) number_size ps → Clear (entry_at i + number_size) number_size ps → entry (overwritten s (piece (entry_at i) (entry_bytes e) ∷ ps)) i ≡ e
  unfolding overwritten entry
  entry_stored i e h hs hz c d =
      let a : List ℕ = bytes number_size e.start in
      let b : List ℕ = bytes number_size e.size in
      let two : sets s (entry_at i) (a ++ b) ≡ sets (sets s (entry_at i) a) (entry_at i + number_size) b =
      sets_append s (entry_at i) a b (entry_at i + number_size) (rw length_bytes refl) in
      let long : length (sets s (entry_at i) a) ≡ length s = length-sets s (entry_at i) a in
      let start : le_at number_size (overwritten (sets s (entry_at i) (a ++ b)) ps) (entry_at i) ≡ e.start =
      le_at_clear number_size (sets s (entry_at i) (a ++ b)) (entry_at i) ps c
      ∙ ap (λ l. le_at number_size l (entry_at i)) two
      ∙ le_at_sets_other number_size (sets s (entry_at i) a) (entry_at i) (entry_at i + number_size) b (inl (omega arith))
      ∙ le_at_sets number_size s (entry_at i) e.start (omega arith)
      ∙ mod-eq_of_lt hs in
      let size : le_at number_size (overwritten (sets s (entry_at i) (a ++ b)) ps) (entry_at i + number_size) ≡ e.size =
      le_at_clear number_size (sets s (entry_at i) (a ++ b)) (entry_at i + number_size) ps d
      ∙ ap (λ l. le_at number_size l (entry_at i + number_size)) two
      ∙ le_at_sets number_size (sets s (entry_at i) a) (entry_at i + number_size) e.size (omega arith)
      ∙ mod-eq_of_lt hz in
      let fields : ◌≡◌ {A = Span} (entry (overwritten s (piece (entry_at i) (entry_bytes e) ∷ ps)) i) (record { start = e.start; size = e.size }) = rw (start, size) in
      fields

pub entry_clear : (s : List ℕ) (i : ℕ) (ps : List Piece) → Clear (entry_at i) number_size ps → Clear (entry_at i + number_size) number_size ps → entry (overwritten s ps) i ≡ entry s i
unfolding entry
entry_clear s i ps c d = rw (le_at_clear number_size s (entry_at i) ps c, le_at_clear number_size s (entry_at i + number_size) ps d)
