-- An install by any judgement, case by case: what an installer's code has to show for each of its answers.
use mathlib.Core.Path.{◌≡◌}
use Prim.Native.Nat.{ℕ, ◌+◌, ◌*◌, ◌≤◌, ◌<◌}
use mathlib.Core.Bool.{true, false}
use mathlib.Core.List.{List}
use native.Mathlib.Omega.{arith}
use lib.ListN.{length, get_or}
use lib.Dec.{eqb, ltb}
use borrow.Author.Tests.{leb-true, ltb-false, eqb-false}
use Rattle.numbers_definitions.proofs.Laws.Tests.{neither_left, neither_right}
use Rattle.order_format.specs.Windows.{max_image, length_allowed}
use Rattle.plan_pieces.specs.declared.Span.{Span}
use Rattle.plan_pieces.specs.Answers.{Answer}
use Rattle.plan_pieces.specs.Plans.{Piece, refused, plan, Judge, Inside, overwritten, span_of}
use Rattle.journal_format.specs.Journals.{max_entries, old_at, count, held, entries, blank, Sound, sound, no_room}
use Rattle.journal_history.specs.Writes.{saved}
use Rattle.journal_history.specs.Requires.{Savable}
use Rattle.journal_history.specs.Calls.{journal_unsound, journal_full, Files, refuse, succeed, installed, settle, install}
use Rattle.journal_format.proofs.Laws.Sound.{test_sound, entries_length, entries_at, total_le}
use Rattle.plan_pieces.proofs.Laws.Span.{span_inside}

-- if check 15 is not broken, there is a free entry, and room for the span
pub room_left : (n k size len : ℕ) → no_room n k size len ≡ false → (n ≡ max_entries → ⊥) × (old_at + k + size ≤ len)
unfolding no_room
room_left n k size len e = (
  eqb-false n max_entries (neither_left (eqb n max_entries) (ltb len (old_at + k + size)) e),
  ltb-false len (old_at + k + size) (neither_right (eqb n max_entries) (ltb len (old_at + k + size)) e),
)

-- the k of a sound journal is small if the image is short
pub held_small : (j : List ℕ) (len : ℕ) → Sound j len → len ≤ max_image → held j ≤ max_image * max_entries
held_small j len s short =
    let size : (i : ℕ) → i < length (entries j) → (get_or (entries j) i blank).size ≤ max_image =
    λ i l. let some : i < max_entries = omega (arith, entries_length j) in rw (entries_at j i some) (omega (arith, s.inside i some)) in
    omega (arith, s.held_is, entries_length j, total_le max_image (entries j) size)

module _ (judge : Judge) (object order : List ℕ) (f : Files) where
  pub unsound : sound f.journal (length f.image) ≡ false → refuse journal_unsound f ≡ install judge object order f
  unfolding install
  unsound e = rw e

  module _ (ok : sound f.journal (length f.image) ≡ true) where
    pub refused_by : (a : Answer) → judge object order (length f.image) ≡ refused a → refuse a f ≡ install judge object order f
    unfolding install settle
    refused_by a e = rw (ok, e)

    module _ (ps : List Piece) (e : judge object order (length f.image) ≡ plan ps) where
      pub full : no_room (count f.journal) (held f.journal) (span_of ps).size (length f.journal) ≡ true
          → refuse journal_full f ≡ install judge object order f
      unfolding install settle
      full r = rw (ok, e, r)

      pub done_with : no_room (count f.journal) (held f.journal) (span_of ps).size (length f.journal) ≡ false
          → (g : Files) → g.image ≡ overwritten f.image ps → g.journal ≡ saved f.image f.journal (span_of ps)
          → succeed g ≡ install judge object order f
      unfolding install settle installed
      done_with r g a b = rw (ok, e, r) (λ i. succeed (record { image = a i; journal = b i }))

-- what `save` asks for follows from the checks: 1, the image's length, 15, and that the span lies inside the image
pub savable : (image j : List ℕ) (s : Span) → sound j (length image) ≡ true → length_allowed (length image) ≡ true
    → no_room (count j) (held j) s.size (length j) ≡ false → s.start + s.size ≤ length image → Savable image j s
unfolding length_allowed
savable image j s ok allowed room inside =
    let k : Sound j (length image) = test_sound j (length image) ok in
    let short : length image ≤ max_image = leb-true (length image) max_image allowed in
    let left = room_left (count j) (held j) s.size (length j) room in
    let few : count j ≤ max_entries = k.few in
    record {
      few = omega (arith, left.0);
      room = left.1;
      inside = inside;
      small = omega (arith, held_small j (length image) k short);
    }

-- the same for the span of a plan
pub plan_savable : (image j : List ℕ) (ps : List Piece) → sound j (length image) ≡ true → length_allowed (length image) ≡ true
    → no_room (count j) (held j) (span_of ps).size (length j) ≡ false → Inside (length image) ps → Savable image j (span_of ps)
plan_savable image j ps ok allowed room inside = savable image j (span_of ps) ok allowed room (span_inside (length image) ps inside)
