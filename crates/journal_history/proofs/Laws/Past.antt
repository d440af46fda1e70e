-- "Bytes past 136 + k are not read, and not written otherwise."
use mathlib.Core.Path.{◌≡◌, refl, sym, ap, ◌∙◌}
use Prim.Native.Nat.{ℕ, ◌+◌, ◌-◌, ◌≤◌, ◌<◌}
use native.Mathlib.Omega.{arith}
use mathlib.Core.Bool.{Bool, true, false, cond, not}
use mathlib.Core.List.{List}
use lib.ListN.{length, take, drop, length-append, length-replicate}
use lib.Seq.{sets}
use lib.Dec.{eqb}
use borrow.Author.Tests.{eqb-false}
use Rattle.numbers_definitions.specs.Bytes.{le_at, part}
use Rattle.numbers_definitions.proofs.Laws.Bytes.{length_bytes, le_at_take}
use Rattle.numbers_definitions.proofs.Laws.First.{tabulate_same}
use Rattle.numbers_definitions.proofs.Laws.Lists.{length_part, part_take}
use Rattle.order_format.specs.Windows.{length_allowed}
use Rattle.plan_pieces.specs.declared.Span.{Span}
use Rattle.plan_pieces.specs.Plans.{Piece, Inside, Verdict, refused, plan, Judge, overwritten, span_of}
use Rattle.journal_format.specs.Journals.{max_entries, count_at, entry_at, held_at, old_at, count, held, entry, entries, total, Sound, sound, no_room}
use Rattle.journal_history.specs.Writes.{newest, held_below, saving, saved, restoring, releasing}
use Rattle.journal_history.specs.Requires.{Savable, Undoable}
use Rattle.journal_history.specs.Calls.{journal_unsound, window_broken, journal_full, none_stands, Files, Outcome, refuse, succeed, rolled_back, rollback, installed, settle, install, Call, Install, Rollback, calling, call}
use Rattle.journal_format.proofs.Laws.Sound.{test_sound, sound_test, unsound_test}
use Rattle.journal_history.proofs.Laws.Rollback.{undoable}
use Rattle.plan_pieces.proofs.Laws.Span.{end_le, drop_overwritten}

-- ---- not written

-- what stands past the pieces is as it was
drop_past : (n : ℕ) (s : List ℕ) (ps : List Piece) → Inside n ps → drop n (overwritten s ps) ≡ drop n s
drop_past n s ps inside = drop_overwritten n s ps (end_le n ps inside)

-- a save writes up to the new 136 + k, and a release up to the old one
pub past_saved : (image j : List ℕ) (s : Span) → Savable image j s → drop (old_at + held j + s.size) (saved image j s) ≡ drop (old_at + held j + s.size) j
unfolding saved saving
past_saved image j s v =
    drop_past (old_at + held j + s.size) j (saving image j s) (
      rw (length_part image s.start s.size v.inside) (omega arith),
      (simp (length-append, length_bytes) (omega (arith, v.few)), (rw length_bytes (omega arith), (rw length_bytes (omega arith), tt))),
    )

pub past_released : (image j : List ℕ) → Undoable image j → drop (old_at + held j) (overwritten j (releasing j)) ≡ drop (old_at + held j) j
unfolding releasing
past_released image j u =
    drop_past (old_at + held j) j (releasing j) (
      rw length_bytes (omega arith),
      (
        rw length_bytes (omega arith),
        (simp (length-append, length_bytes) (omega (arith, u.few)), (rw length-replicate (omega (arith, u.within)), tt)),
      ),
    )

-- ---- not read

-- two journals with the same n, entries, k and length
record Seen (j j' : List ℕ) : Type 0 where
  count_same : count j ≡ count j'
  entry_same : (i : ℕ) → i < max_entries → entry j i ≡ entry j' i
  held_same : held j ≡ held j'
  length_same : length j ≡ length j'

seen_sym : (j j' : List ℕ) → Seen j j' → Seen j' j
seen_sym j j' s =
    record {
      count_same = sym s.count_same;
      entry_same = λ i h. sym (s.entry_same i h);
      held_same = sym s.held_same;
      length_same = sym s.length_same;
    }

seen_sound : (j j' : List ℕ) (len : ℕ) → Seen j j' → Sound j len → Sound j' len
unfolding entries
seen_sound j j' len s k =
    let n = s.count_same in
    let sizes : total (entries j) ≡ total (entries j') = ap total (tabulate_same (entry j) (entry j') max_entries s.entry_same) in
    record {
      few = omega (arith, k.few);
      others_zero = λ i out h. sym (s.entry_same i h) ∙ k.others_zero i (omega arith) h;
      held_is = sym s.held_same ∙ k.held_is ∙ sizes;
      fits = omega (arith, k.fits, s.held_same, s.length_same);
      inside = λ i h. rw (← (s.entry_same i h)) (k.inside i h);
    }

seen_test : (j j' : List ℕ) (len : ℕ) → Seen j j' → sound j len ≡ sound j' len
seen_test j j' len s = go (sound j len) refl
  where
    go : (b : Bool) → sound j len ≡ b → b ≡ sound j' len
    go true e = sym (sound_test j' len (seen_sound j j' len s (test_sound j len e)))
    go false e = unsound_test j' len (λ k. let z : ◌≡◌ {A = Bool} true false = sym (sound_test j len (seen_sound j' j len (seen_sym j j' s) k)) ∙ e in let y : ◌≡◌ {A = ℕ} 0 1 = cc in omega arith)

-- the first 136 + k bytes, and the length, are all that is read
module _ (image j j' : List ℕ) (length_same : length j ≡ length j') (first-same : take (old_at + held j) j ≡ take (old_at + held j) j') where
  number_same : (i : ℕ) → i + 4 ≤ old_at → le_at 4 j i ≡ le_at 4 j' i
  number_same i h =
      sym (le_at_take 4 (old_at + held j) j i (omega arith))
      ∙ ap (λ (l : List ℕ). le_at 4 l i) first-same
      ∙ le_at_take 4 (old_at + held j) j' i (omega arith)

  seen : Seen j j'
  unfolding entry
  seen =
      record {
        count_same = number_same count_at (omega arith);
        entry_same = λ i h. cc (number_same (entry_at i) (omega arith), number_same (entry_at i + 4) (omega arith));
        held_same = number_same held_at (omega arith);
        length_same = length_same;
      }

  old_same : Undoable image j → part j (old_at + held_below j) (newest j).size ≡ part j' (old_at + held_below j) (newest j).size
  old_same u =
      let inside : old_at + held_below j + (newest j).size ≤ old_at + held j = omega (arith, u.within) in
      sym (part_take (old_at + held j) j (old_at + held_below j) (newest j).size inside u.room)
      ∙ ap (λ (l : List ℕ). part l (old_at + held_below j) (newest j).size) first-same
      ∙ part_take (old_at + held j) j' (old_at + held_below j) (newest j).size inside (omega (arith, u.room))

  abbrev here : Files
  here = record { image = image; journal = j }

  abbrev there : Files
  there = record { image = image; journal = j' }

  -- the answer and the image are the same
  abbrev Same : Outcome Files → Outcome Files → Type 0
  Same o o' = (o.answer ≡ o'.answer) × (o.after.image ≡ o'.after.image)

  image_same : Undoable image j → (rolled_back here).image ≡ (rolled_back there).image
  unfolding rolled_back restoring overwritten
  image_same u =
      let some : 0 < count j = u.some in
      let new : newest j ≡ newest j' = seen.entry_same (count j - 1) (omega (arith, u.few)) ∙ ap (λ n. entry j' (n - 1)) seen.count_same in
      rw (← new, ← seen.held_same) (ap (sets image (newest j).start) (old_same u))

  rollback_same : Same (rollback here) (rollback there)
  unfolding rollback
  rollback_same =
      rw (← (seen_test j j' (length image) seen), ← seen.count_same) (go (sound j (length image)) (length_allowed (length image)) (eqb (count j) 0) refl refl)
    where
      go : (a b z : Bool) → sound j (length image) ≡ a → eqb (count j) 0 ≡ z
          → Same
          (cond (not a) (refuse journal_unsound here) (cond (not b) (refuse window_broken here) (cond z (refuse none_stands here) (succeed (rolled_back here)))))
          (cond (not a) (refuse journal_unsound there) (cond (not b) (refuse window_broken there) (cond z (refuse none_stands there) (succeed (rolled_back there)))))
      go false b z s e = (refl, refl)
      go true false z s e = (refl, refl)
      go true true true s e = (refl, refl)
      go true true false s e =
          let some : 0 < count j = omega (arith, eqb-false (count j) 0 e) in
          (refl, image_same (undoable image j (test_sound j (length image) s) some))

  settle_same : (v : Verdict) → Same (settle here v) (settle there v)
  unfolding settle installed
  settle_same (refused a) = (refl, refl)
  settle_same (plan ps) =
      rw (← seen.count_same, ← seen.held_same, ← length_same) (go (no_room (count j) (held j) (span_of ps).size (length j)))
    where
      go : (b : Bool) → Same (cond b (refuse journal_full here) (succeed (installed ps here))) (cond b (refuse journal_full there) (succeed (installed ps there)))
      go true = (refl, refl)
      go false = (refl, refl)

  install_same : (judge : Judge) (object order : List ℕ) → Same (install judge object order here) (install judge object order there)
  unfolding install
  install_same judge object order = rw (← (seen_test j j' (length image) seen)) (go (sound j (length image)))
    where
      go : (a : Bool)
          → Same
          (cond (not a) (refuse journal_unsound here) (settle here (judge object order (length image))))
          (cond (not a) (refuse journal_unsound there) (settle there (judge object order (length image))))
      go true = settle_same (judge object order (length image))
      go false = (refl, refl)

  pub unread : (judge : Judge) (c : Call) → ((call judge here c).answer ≡ (call judge there c).answer)
      × ((call judge here c).after.image ≡ (call judge there c).after.image)
  unfolding calling
  unread judge (Install object order) = install_same judge object order
  unread judge Rollback = rollback_same
