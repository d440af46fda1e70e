-- What is written into image and journal, in this order, each piece from its first byte up; "Bytes past 136 + k are not read, and not
-- written otherwise."
use Rattle.std.specs.Prelude.{ℕ, ◌+◌, ◌-◌, List, [], ◌∷◌, replicate}
use Rattle.numbers_definitions.specs.Bytes.{bytes, part}
use Rattle.plan_pieces.specs.declared.Span.{Span}
use Rattle.plan_pieces.specs.Plans.{Piece, piece, overwritten}
use Rattle.journal_format.specs.Journals.{count_at, entry_at, held_at, old_at, count, entry, held, blank, entry_bytes}

-- "A fit appends the span's old bytes": first these, then the entry, then k, then n
unfoldable pub saving : List ℕ → List ℕ → Span → List Piece
saving image j s =
    piece (old_at + held j) (part image s.start s.size)
    ∷ piece (entry_at (count j)) (entry_bytes s)
    ∷ piece held_at (bytes 4 (held j + s.size))
    ∷ piece count_at (bytes 4 (count j + 1))
    ∷ []

-- the journal with a span of the image recorded
unfoldable pub saved : List ℕ → List ℕ → Span → List ℕ
saved image j s = overwritten j (saving image j s)

-- the newest entry, and the k that is left without it
abbrev pub newest : List ℕ → Span
newest j = entry j (count j - 1)

abbrev pub held_below : List ℕ → ℕ
held_below j = held j - (newest j).size

-- "A taking-back writes them back": the newest span's old bytes, into the image
unfoldable pub restoring : List ℕ → List Piece
restoring j = piece (newest j).start (part j (old_at + held_below j) (newest j).size) ∷ []

-- ", zeroes the entry and the released bytes, and lowers n and k": first n, then k, then the zeros
unfoldable pub releasing : List ℕ → List Piece
releasing j =
    piece count_at (bytes 4 (count j - 1))
    ∷ piece held_at (bytes 4 (held_below j))
    ∷ piece (entry_at (count j - 1)) (entry_bytes blank)
    ∷ piece (old_at + held_below j) (replicate (newest j).size 0)
    ∷ []
