-- What inner functions require of their callers.
use Rattle.std.specs.Prelude.{ℕ, ◌+◌, ◌^◌, ◌≤◌, ◌<◌, List, length}
use Rattle.plan_pieces.specs.declared.Span.{Span}
use Rattle.journal_format.specs.Journals.{max_entries, old_at, count, held}
use Rattle.journal_history.specs.Writes.{newest}

-- a span of an image can be recorded: there is a free entry and room for its old bytes, it lies in the image, and the new k fits a u32
pub record Savable (image j : List ℕ) (s : Span) : Type 0 where
  pub few : count j < max_entries
  pub room : old_at + held j + s.size ≤ length j
  pub inside : s.start + s.size ≤ length image
  pub small : held j + s.size < 2 ^ 32

-- the newest span can be undone: an install stands, its old bytes lie in the journal, and its span lies in the image
pub record Undoable (image j : List ℕ) : Type 0 where
  pub some : 0 < count j
  pub few : count j ≤ max_entries
  pub room : old_at + held j ≤ length j
  pub within : (newest j).size ≤ held j
  pub inside : (newest j).start + (newest j).size ≤ length image
