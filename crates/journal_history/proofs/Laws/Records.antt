-- What the two calls leave where they are done, byte for byte: `Appended` and `Released`, over any judgement.
use mathlib.Core.Logic.{◌⊎◌, inl, inr}
use mathlib.Core.Path.{◌≡◌, ◌∙◌}
use Prim.Native.Nat.{ℕ, ◌+◌, ◌-◌, ◌^◌, ◌≤◌, ◌<◌}
use native.Mathlib.Omega.{arith}
use native.Mathlib.Decide.{dec_lt}
use mathlib.Core.List.{List, [], ◌∷◌}
use lib.ListN.{length, replicate, length-replicate}
use lib.Seq.{sets, length-sets}
use Rattle.numbers_definitions.specs.Bytes.{bytes, part}
use Rattle.numbers_definitions.proofs.Laws.Bytes.{length_bytes}
use Rattle.numbers_definitions.proofs.Laws.Lists.{length_part, part_stored, get_d_sets_other}
use Rattle.order_format.specs.Windows.{max_image}
use Rattle.plan_pieces.specs.declared.Span.{Span}
use Rattle.plan_pieces.specs.Plans.{Piece, piece, overwritten, span_of}
use Rattle.journal_format.specs.Journals.{max_entries, entry_size, count_at, entry_at, held_at, old_at, count, held, entry, blank, entry_bytes}
use Rattle.plan_pieces.proofs.Laws.Span.{length_overwritten}
use Rattle.journal_format.proofs.Laws.Format.{length_entry}
use Rattle.journal_format.proofs.Laws.Pieces.{part_clear, number_stored, entry_stored, entry_clear}
use Rattle.journal_history.specs.Writes.{newest, held_below, saving, saved, restoring, releasing}
use Rattle.journal_history.specs.Calls.{Files, installed, rolled_back}
use Rattle.journal_history.specs.Requires.{Savable, Undoable}
use Rattle.journal_history.specs.Records.{Appended, Released}
use Rattle.journal_history.proofs.Laws.Past.{past_saved, past_released}

-- another entry lies before or after this one
other_entry : (i n : ℕ) → (i ≡ n → ⊥) → (entry_at i + entry_size ≤ entry_at n) ⊎ (entry_at n + entry_size ≤ entry_at i)
other_entry i n out = go (dec_lt i n)
  where
    go : Dec (i < n) → (entry_at i + entry_size ≤ entry_at n) ⊎ (entry_at n + entry_size ≤ entry_at i)
    go (yes h) = inl (omega arith)
    go (no h) = inr (omega arith)

-- ---- a save: old bytes, entry, k, n

module _ (image j : List ℕ) (s : Span) (v : Savable image j s) (short : length image ≤ max_image) where
  abbrev old : List ℕ
  old = part image s.start s.size

  length_old : length old ≡ s.size
  length_old = length_part image s.start s.size v.inside

  -- the journal after the first store, the first two, the first three
  abbrev j₁ : List ℕ
  j₁ = sets j (old_at + held j) old

  abbrev j₂ : List ℕ
  j₂ = sets j₁ (entry_at (count j)) (entry_bytes s)

  abbrev j₃ : List ℕ
  j₃ = sets j₂ held_at (bytes 4 (held j + s.size))

  length₁ : length j₁ ≡ length j
  length₁ = length-sets j (old_at + held j) old

  length₂ : length j₂ ≡ length j
  length₂ = length-sets j₁ (entry_at (count j)) (entry_bytes s) ∙ length₁

  length₃ : length j₃ ≡ length j
  length₃ = length-sets j₂ held_at (bytes 4 (held j + s.size)) ∙ length₂

  saved_count : count (saved image j s) ≡ count j + 1
  unfolding saved saving overwritten
  saved_count = number_stored j₃ [] 4 count_at (count j + 1) (omega (arith, length₃, v.room)) (omega (arith, v.few)) tt

  saved_held : held (saved image j s) ≡ held j + s.size
  unfolding saved saving overwritten
  saved_held = number_stored j₂ (piece count_at (bytes 4 (count j + 1)) ∷ []) 4 held_at (held j + s.size) (omega (arith, length₂, v.room)) v.small (inr (rw length_bytes (omega arith)), tt)

  saved_entry : entry (saved image j s) (count j) ≡ s
  unfolding saved saving overwritten
  saved_entry =
      let few : count j < max_entries = v.few in
      let rest : List Piece = piece held_at (bytes 4 (held j + s.size)) ∷ piece count_at (bytes 4 (count j + 1)) ∷ [] in
      entry_stored j₁ rest (count j) s (omega (arith, length₁, v.room)) (omega (arith, v.inside)) (omega (arith, v.inside))
      (inl (omega arith), (inr (rw length_bytes (omega arith)), tt)) (inl (omega arith), (inr (rw length_bytes (omega arith)), tt))

  saved_others : (i : ℕ) → i < max_entries → (i ≡ count j → ⊥) → entry (saved image j s) i ≡ entry j i
  unfolding saved saving
  saved_others i h out = go (other_entry i (count j) out)
    where
      go : (entry_at i + entry_size ≤ entry_at (count j)) ⊎ (entry_at (count j) + entry_size ≤ entry_at i) → entry (overwritten j (saving image j s)) i ≡ entry j i
      go (inl b) =
          entry_clear j i (saving image j s)
          (inl (omega arith), (inl (omega arith), (inl (omega arith), (inr (rw length_bytes (omega arith)), tt))))
          (inl (omega arith), (inl (omega arith), (inl (omega arith), (inr (rw length_bytes (omega arith)), tt))))
      go (inr b) =
          entry_clear j i (saving image j s)
          (inl (omega arith), (inr (rw (length_entry s) (omega arith)), (inl (omega arith), (inr (rw length_bytes (omega arith)), tt))))
          (inl (omega arith), (inr (rw (length_entry s) (omega arith)), (inl (omega arith), (inr (rw length_bytes (omega arith)), tt))))

  saved_old : part (saved image j s) (old_at + held j) s.size ≡ old
  unfolding saved saving overwritten
  saved_old =
      let few : count j < max_entries = v.few in
      part_clear j₁ (old_at + held j) s.size
      (piece (entry_at (count j)) (entry_bytes s) ∷ piece held_at (bytes 4 (held j + s.size)) ∷ piece count_at (bytes 4 (count j + 1)) ∷ []) (
        rw (length_entry s) (omega (arith, length₁, v.room)),
        (rw length_bytes (omega (arith, length₁, v.room)), (rw length_bytes (omega (arith, length₁, v.room)), tt)),
      )
      (inr (rw (length_entry s) (omega arith)), (inr (rw length_bytes (omega arith)), (inr (rw length_bytes (omega arith)), tt)))
      ∙ part_stored j (old_at + held j) old s.size length_old v.room

  saved_older : part (saved image j s) old_at (held j) ≡ part j old_at (held j)
  unfolding saved saving
  saved_older =
      let few : count j < max_entries = v.few in
      part_clear j old_at (held j) (saving image j s) (
        rw length_old v.room,
        (rw (length_entry s) (omega (arith, v.room)), (rw length_bytes (omega (arith, v.room)), (rw length_bytes (omega (arith, v.room)), tt))),
      )
      (inl (omega arith), (inr (rw (length_entry s) (omega arith)), (inr (rw length_bytes (omega arith)), (inr (rw length_bytes (omega arith)), tt))))

-- an install's plan is laid, and its span recorded
pub installed_appends : (ps : List Piece) (f : Files) → Savable f.image f.journal (span_of ps) → length f.image ≤ max_image → Appended f (installed ps f) (span_of ps)
unfolding installed
installed_appends ps f v short =
    let image = f.image in
    let j = f.journal in
    record {
      same_length = unfold saved in length_overwritten j (saving image j (span_of ps));
      count_raised = saved_count image j (span_of ps) v short;
      held_raised = saved_held image j (span_of ps) v short;
      entry_is = saved_entry image j (span_of ps) v short;
      entries_same = saved_others image j (span_of ps) v short;
      old_are = saved_old image j (span_of ps) v short;
      old_same = saved_older image j (span_of ps) v short;
      past_same = past_saved image j (span_of ps) v;
    }

-- ---- a release: n, k, the entry, the old bytes

module _ (image j : List ℕ) (u : Undoable image j) (small : held j < 2 ^ 32) where
  abbrev size : ℕ
  size = (newest j).size

  abbrev zeros : List ℕ
  zeros = replicate size 0

  -- the journal after the first store, the first two, the first three
  abbrev k₁ : List ℕ
  k₁ = sets j count_at (bytes 4 (count j - 1))

  abbrev k₂ : List ℕ
  k₂ = sets k₁ held_at (bytes 4 (held_below j))

  abbrev k₃ : List ℕ
  k₃ = sets k₂ (entry_at (count j - 1)) (entry_bytes blank)

  long₁ : length k₁ ≡ length j
  long₁ = length-sets j count_at (bytes 4 (count j - 1))

  long₂ : length k₂ ≡ length j
  long₂ = length-sets k₁ held_at (bytes 4 (held_below j)) ∙ long₁

  long₃ : length k₃ ≡ length j
  long₃ = length-sets k₂ (entry_at (count j - 1)) (entry_bytes blank) ∙ long₂

  abbrev after : List ℕ
  after = overwritten j (releasing j)

  released_count : count after ≡ count j - 1
  unfolding releasing overwritten
  released_count =
      let few : count j ≤ max_entries = u.few in
      number_stored j
      (piece held_at (bytes 4 (held_below j)) ∷ piece (entry_at (count j - 1)) (entry_bytes blank) ∷ piece (old_at + held_below j) zeros ∷ [])
      4 count_at (count j - 1) (omega (arith, u.room)) (omega arith) (inl (omega arith), (inl (omega arith), (inl (omega arith), tt)))

  released_held : held after ≡ held_below j
  unfolding releasing overwritten
  released_held =
      let few : count j ≤ max_entries = u.few in
      let some : 0 < count j = u.some in
      number_stored k₁
      (piece (entry_at (count j - 1)) (entry_bytes blank) ∷ piece (old_at + held_below j) zeros ∷ [])
      4 held_at (held_below j) (omega (arith, long₁, u.room)) (omega (arith, small)) (inr (rw (length_entry blank) (omega arith)), (inl (omega arith), tt))

  released_entry : entry after (count j - 1) ≡ blank
  unfolding releasing overwritten
  released_entry =
      let few : count j ≤ max_entries = u.few in
      let some : 0 < count j = u.some in
      entry_stored k₂ (piece (old_at + held_below j) zeros ∷ []) (count j - 1) blank (omega (arith, long₂, u.room)) (omega arith) (omega arith)
      (inl (omega arith), tt) (inl (omega arith), tt)

  released_others : (i : ℕ) → i < max_entries → (i ≡ count j - 1 → ⊥) → entry after i ≡ entry j i
  unfolding releasing
  released_others i h out = go (other_entry i (count j - 1) out)
    where
      go : (entry_at i + entry_size ≤ entry_at (count j - 1)) ⊎ (entry_at (count j - 1) + entry_size ≤ entry_at i) → entry after i ≡ entry j i
      go (inl b) =
          entry_clear j i (releasing j)
          (inr (rw length_bytes (omega arith)), (inl (omega arith), (inl (omega arith), (inl (omega arith), tt))))
          (inr (rw length_bytes (omega arith)), (inl (omega arith), (inl (omega arith), (inl (omega arith), tt))))
      go (inr b) =
          entry_clear j i (releasing j)
          (inr (rw length_bytes (omega arith)), (inl (omega arith), (inr (rw (length_entry blank) (omega arith)), (inl (omega arith), tt))))
          (inr (rw length_bytes (omega arith)), (inl (omega arith), (inr (rw (length_entry blank) (omega arith)), (inl (omega arith), tt))))

  released_old : part after (old_at + held_below j) size ≡ zeros
  unfolding releasing overwritten
  released_old = part_stored k₃ (old_at + held_below j) zeros size (length-replicate size 0) (omega (arith, long₃, u.room, u.within))

  released_older : part after old_at (held_below j) ≡ part j old_at (held_below j)
  unfolding releasing
  released_older =
      let few : count j ≤ max_entries = u.few in
      let some : 0 < count j = u.some in
      part_clear j old_at (held_below j) (releasing j) (
        rw length_bytes (omega (arith, u.room)),
        (rw length_bytes (omega (arith, u.room)), (rw (length_entry blank) (omega (arith, u.room)), (rw length-replicate (omega (arith, u.room, u.within)), tt))),
      )
      (inr (rw length_bytes (omega arith)), (inr (rw length_bytes (omega arith)), (inr (rw (length_entry blank) (omega arith)), (inl (omega arith), tt))))

  -- there are as many old bytes as the span has
  length_held : length (part j (old_at + held_below j) size) ≡ size
  length_held = length_part j (old_at + held_below j) size (omega (arith, u.room, u.within))

  pub releases : Released (record { image = image; journal = j }) (rolled_back (record { image = image; journal = j }))
  unfolding rolled_back restoring overwritten
  releases =
      record {
        same_length = length_overwritten j (releasing j);
        image_length = length-sets image (newest j).start (part j (old_at + held_below j) size);
        written_back = part_stored image (newest j).start (part j (old_at + held_below j) size) size length_held u.inside;
        others_same = λ b out. get_d_sets_other image (newest j).start (part j (old_at + held_below j) size) b (λ from to. out from (omega (arith, length_held, to)));
        entry_zero = released_entry;
        released_zero = released_old;
        count_lowered = released_count;
        held_lowered = released_held;
        entries_same = released_others;
        old_same = released_older;
        past_same = past_released image j u;
      }
