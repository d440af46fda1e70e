-- A rollback, case by case: what the code has to show for each of its answers.
use mathlib.Core.Path.{◌≡◌}
use mathlib.Core.Bool.{true, false}
use mathlib.Core.List.{List}
use Prim.Native.Nat.{ℕ, ◌+◌, ◌-◌, ◌≤◌, ◌<◌}
use native.Mathlib.Omega.{arith}
use lib.ListN.{length, get_or, replicate}
use lib.Seq.{sets}
use borrow.Author.Tests.{eq-eqb, ne_eqb}
use Rattle.order_format.specs.Windows.{length_allowed}
use Rattle.numbers_definitions.specs.Bytes.{bytes, part}
use Rattle.plan_pieces.specs.declared.Span.{Span}
use Rattle.plan_pieces.specs.Plans.{overwritten}
use Rattle.journal_format.specs.Journals.{max_entries, count_at, entry_at, held_at, old_at, count, held, entry, entries, blank, entry_bytes, total, Sound, sound}
use Rattle.journal_format.proofs.Laws.Sound.{size_le_total, entries_length, entries_at}
use Rattle.journal_history.specs.Writes.{restoring, releasing}
use Rattle.journal_history.specs.Requires.{Undoable}
use Rattle.journal_history.specs.Calls.{journal_unsound, window_broken, none_stands, Files, refuse, succeed, rolled_back, rollback}

-- ---- what is read of the newest install, and what is written

-- if a journal is sound and an install stands in it, the newest install can be undone
pub undoable : (image j : List ℕ) → Sound j (length image) → 0 < count j → Undoable image j
undoable image j k some =
    let few : count j ≤ max_entries = k.few in
    let i : ℕ = count j - 1 in
    let size : (get_or (entries j) (count j - 1) blank).size ≤ total (entries j) = size_le_total (entries j) (count j - 1) (rw entries_length (omega arith)) in
    record {
      some = some;
      few = few;
      room = k.fits;
      within = omega (arith, k.held_is, rw (entries_at j (count j - 1) (omega arith)) at size);
      inside = k.inside (count j - 1) (omega arith);
    }

module _ (image j : List ℕ) (n : ℕ) (s : Span) (k : ℕ) (en : n ≡ count j) (es : s ≡ entry j (n - 1)) (ek : k ≡ held j) where
  pub newest_safe : Undoable image j → (s.size ≤ k) × (s.start + s.size ≤ length image) × (old_at + k ≤ length j)
  newest_safe u = rw (es, en, ek) (u.within, u.inside, u.room)

  pub newest_undone : (image₁ j₁ j₂ j₃ j₄ : List ℕ) → image₁ ≡ sets image s.start (part j (old_at + (k - s.size)) s.size)
      → j₁ ≡ sets j count_at (bytes 4 (n - 1))
      → j₂ ≡ sets j₁ held_at (bytes 4 (k - s.size))
      → j₃ ≡ sets j₂ (entry_at (n - 1)) (entry_bytes blank)
      → j₄ ≡ sets j₃ (old_at + (k - s.size)) (replicate s.size 0)
      → record { image = image₁; journal = j₄ } ≡ rolled_back (record { image = image; journal = j })
  unfolding rolled_back restoring releasing overwritten
  newest_undone image₁ j₁ j₂ j₃ j₄ e₀ e₁ e₂ e₃ e₄ = rw (e₄, e₃, e₂, e₁, e₀, es, ek, en)

-- ---- the answers

module _ (f : Files) where
  pub unsound : sound f.journal (length f.image) ≡ false → refuse journal_unsound f ≡ rollback f
  unfolding rollback
  unsound e = rw e

  module _ (s : sound f.journal (length f.image) ≡ true) where
    pub too_long : length_allowed (length f.image) ≡ false → refuse window_broken f ≡ rollback f
    unfolding rollback
    too_long l = rw (s, l)

    module _ (l : length_allowed (length f.image) ≡ true) where
      pub none_stands_lem : count f.journal ≡ 0 → refuse none_stands f ≡ rollback f
      unfolding rollback
      none_stands_lem z = rw (s, l, eq-eqb (count f.journal) 0 z)

      pub done_with : (g : Files) → (count f.journal ≡ 0 → ⊥) → g ≡ rolled_back f → succeed g ≡ rollback f
      unfolding rollback
      done_with g some e = rw (s, l, ne_eqb (count f.journal) 0 some, e)
