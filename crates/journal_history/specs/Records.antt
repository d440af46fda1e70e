-- What a call that is done leaves in the journal, and a rollback that is done in the image, byte for byte: document 01, "Ledger", as a
-- relation between the files before and after the call.
use Rattle.std.specs.Prelude.{◌≡◌, ℕ, ◌+◌, ◌-◌, ◌≤◌, ◌<◌, length, get_or, drop, replicate}
use Rattle.numbers_definitions.specs.Bytes.{part}
use Rattle.plan_pieces.specs.declared.Span.{Span}
use Rattle.journal_format.specs.Journals.{max_entries, old_at, count, held, entry, blank}
use Rattle.journal_history.specs.Writes.{newest, held_below}
use Rattle.journal_history.specs.Calls.{Files}

-- "A fit appends the span's old bytes."
pub record Appended (before after : Files) (s : Span) : Type 0 where
  pub same_length : length after.journal ≡ length before.journal
  -- n and k rise
  pub count_raised : count after.journal ≡ count before.journal + 1
  pub held_raised : held after.journal ≡ held before.journal + s.size
  -- the next entry is the span; the others are as they were
  pub entry_is : entry after.journal (count before.journal) ≡ s
  pub entries_same : (i : ℕ) → i < max_entries → (i ≡ count before.journal → ⊥) → entry after.journal i ≡ entry before.journal i
  -- the span's old bytes come after those that were there
  pub old_are : part after.journal (old_at + held before.journal) s.size ≡ part before.image s.start s.size
  pub old_same : part after.journal old_at (held before.journal) ≡ part before.journal old_at (held before.journal)
  -- "Bytes past 136 + k are .. not written otherwise."
  pub past_same : drop (old_at + held before.journal + s.size) after.journal ≡ drop (old_at + held before.journal + s.size) before.journal

-- "A taking-back writes them back, zeroes the entry and the released bytes, and lowers n and k."
pub record Released (before after : Files) : Type 0 where
  pub same_length : length after.journal ≡ length before.journal
  pub image_length : length after.image ≡ length before.image
  -- "writes them back": the newest span's old bytes, and nothing else
  pub written_back : part after.image (newest before.journal).start (newest before.journal).size
      ≡ part before.journal (old_at + held_below before.journal) (newest before.journal).size
  pub others_same : (b : ℕ) → ((newest before.journal).start ≤ b → b < (newest before.journal).start + (newest before.journal).size → ⊥)
      → get_or after.image b 0 ≡ get_or before.image b 0
  -- "zeroes the entry and the released bytes"
  pub entry_zero : entry after.journal (count before.journal - 1) ≡ blank
  pub released_zero : part after.journal (old_at + held_below before.journal) (newest before.journal).size ≡ replicate (newest before.journal).size 0
  -- "and lowers n and k"
  pub count_lowered : count after.journal ≡ count before.journal - 1
  pub held_lowered : held after.journal ≡ held_below before.journal
  -- the other entries and old bytes are as they were
  pub entries_same : (i : ℕ) → i < max_entries → (i ≡ count before.journal - 1 → ⊥) → entry after.journal i ≡ entry before.journal i
  pub old_same : part after.journal old_at (held_below before.journal) ≡ part before.journal old_at (held_below before.journal)
  -- "Bytes past 136 + k are .. not written otherwise."
  pub past_same : drop (old_at + held before.journal) after.journal ≡ drop (old_at + held before.journal) before.journal
