-- Document 01, "The history behind demand 3": "worked out from the start and the calls alone; after the start it reads nothing from the
-- program's image or ledger". A list of standing installs (document 01: standing fits) has the newest first.
use Rattle.std.specs.Prelude.{◌≡◌, ℕ, ◌≤◌, cond, List, [], ◌∷◌, ◌++◌, length, take, replicate}
use Rattle.numbers_definitions.specs.Bytes.{part}
use Rattle.order_format.specs.Windows.{max_image}
use Rattle.plan_pieces.specs.declared.Span.{Span}
use Rattle.plan_pieces.specs.Plans.{Piece, Verdict, refused, plan, Judge, overwritten, span_of}
use Rattle.journal_format.specs.Journals.{old_at, count, entries, held, total, Sound, no_room}
use Rattle.plan_pieces.specs.Answers.{Answer, done}
use Rattle.journal_history.specs.Calls.{journal_full, none_stands, Files, Outcome, refuse, succeed, Call, Install, Rollback, answers, run}

-- ---- the history

-- an install that stands: what was asked for, and "its laid bytes"; "its span" is the span of these bytes
pub record Standing : Type 0 where
  pub object : List ℕ
  pub order : List ℕ
  pub pieces : List Piece

-- "a copy of the starting image, the ledger's length" and the standing installs
pub record History : Type 0 where
  pub start : List ℕ
  pub room : ℕ
  pub standing : List Standing

-- "At the start it holds a copy of the starting image, the ledger's length and no standing fit."
abbrev pub begin : Files → History
begin f = record { start = f.image; room = length f.journal; standing = [] }

-- the spans, the oldest first
unfoldable pub spans : List Standing → List Span
spans [] = []
spans (x ∷ older) = spans older ++ span_of x.pieces ∷ []

-- "Its n is always the number of its standing fits, its k the sum of their spans' lengths."
abbrev pub count_of : History → ℕ
count_of h = length h.standing

abbrev pub held_of : History → ℕ
held_of h = total (spans h.standing)

-- "Its image is the copy with the laid bytes of the standing fits written over it, oldest first."
unfoldable pub laid : List ℕ → List Standing → List ℕ
laid start [] = start
laid start (x ∷ older) = overwritten (laid start older) x.pieces

abbrev pub image_of : History → List ℕ
image_of h = laid h.start h.standing

-- the old bytes of the standing installs, the oldest first: for each one, what the image held in its span before it
unfoldable pub olds : List ℕ → List Standing → List ℕ
olds start [] = []
olds start (x ∷ older) = olds start older ++ part (laid start older) (span_of x.pieces).start (span_of x.pieces).size

-- "A fit: the checks are judged in their order from object, order and image length; 15 uses the history's n, k and ledger length; 1 is never
-- broken. If one is broken, the answer is its number and place and nothing changes. Otherwise the answer is 0, place 0, and the fit stands
-- as the newest"
unfoldable pub stand : History → List ℕ → List ℕ → Verdict → Outcome History
stand h object order (refused a) = refuse a h
stand h object order (plan ps) =
    cond (no_room (count_of h) (held_of h) (span_of ps).size h.room)
    (refuse journal_full h)
    (succeed (record { start = h.start; room = h.room; standing = record { object = object; order = order; pieces = ps } ∷ h.standing }))

-- "A taking-back: if no fit stands, the answer is 16, place 0, and nothing changes. Otherwise the answer is 0, place 0, and the newest fit is
-- dropped."
unfoldable pub fall : History → List Standing → Outcome History
fall h [] = refuse none_stands h
fall h (x ∷ older) = succeed (record { start = h.start; room = h.room; standing = older })

unfoldable pub told : Judge → History → Call → Outcome History
told judge h (Install object order) = stand h object order (judge object order (length h.start))
told judge h Rollback = fall h h.standing

-- ---- demand 3

-- "Start with any image of allowed length and any sound ledger in which no fit stands." Nothing else is assumed about the two lists, their
-- elements or the journal's length, so any two slices of bytes for which this holds will do.
pub record Start (f : Files) : Type 0 where
  -- "An image length is allowed if it passes check 3 of a taking-back."
  pub allowed : length f.image ≤ max_image
  pub sound : Sound f.journal (length f.image)
  pub none : count f.journal ≡ 0

-- what a list of calls leaves, and the history of that list
abbrev pub files_after : (Files → Call → Outcome Files) → Files → List Call → Files
files_after step start calls = run step start calls

abbrev pub history_of : Judge → Files → List Call → History
history_of judge start calls = run (told judge) (begin start) calls

-- "Equal to the history's are": image, n, k, the first n entries, and the old bytes; and "the ledger is then still sound"
pub record AsTold (h : History) (f : Files) : Type 0 where
  -- "The image is, byte for byte, the starting image with the laid bytes of the fits still standing written over it, oldest first"
  pub image_is : f.image ≡ image_of h
  -- "The ledger counts the standing fits and the bytes of their spans and no others"
  pub count_is : count f.journal ≡ count_of h
  pub held_is : held f.journal ≡ held_of h
  -- "its first n entries, which are the spans of the standing fits, oldest first"
  pub entries_are : take (count f.journal) (entries f.journal) ≡ spans h.standing
  -- also the k old bytes and the journal's length, so that the history gives every byte of the journal that is ever read
  pub old_are : part f.journal old_at (held_of h) ≡ olds h.start h.standing
  pub room_is : length f.journal ≡ h.room
  pub still_sound : Sound f.journal (length f.image)

-- two pairs of image and journal with "the same image, n, k and first n entries"; the old bytes and the journal's length are the same too
pub record Alike (f g : Files) : Type 0 where
  pub image_same : f.image ≡ g.image
  pub count_same : count f.journal ≡ count g.journal
  pub held_same : held f.journal ≡ held g.journal
  pub entries_same : take (count f.journal) (entries f.journal) ≡ take (count g.journal) (entries g.journal)
  pub old_same : part f.journal old_at (held f.journal) ≡ part g.journal old_at (held g.journal)
  pub room_same : length f.journal ≡ length g.journal

-- "The standing fits alone, asked for in their order"
unfoldable pub alone : List Standing → List Call
alone [] = []
alone (x ∷ older) = alone older ++ Install x.object x.order ∷ []

abbrev pub standing_alone : Judge → Files → List Call → List Call
standing_alone judge start calls = alone (history_of judge start calls).standing

-- a kind of lists of numbers, for example all lists, or all lists of bytes
abbrev pub Kind : Type 1
Kind = List ℕ → Type 0

-- an image and a journal of a kind, a call whose object and order are of a kind, and a list of such calls
abbrev pub FilesAre : Kind → Files → Type 0
FilesAre K f = K f.image × K f.journal

abbrev pub CallIs : Kind → Call → Type 0
CallIs K (Install object order) = K object × K order
CallIs K Rollback = Unit {0}

abbrev pub CallsAre : Kind → List Call → Type 0
CallsAre K [] = Unit {0}
CallsAre K (c ∷ cs) = CallIs K c × CallsAre K cs

-- Demand 3, for a list of calls that are made by `step`: `got` are their answers, and `left` is what they leave. The calls that may come
-- next are of the kind K.
pub record Holds (step : Files → Call → Outcome Files) (judge : Judge) (K : Kind) (start : Files) (calls : List Call) (got : List Answer) (left : Files) : Type 0 where
  -- "Every call in the list had the answer that document 01's history gives it."
  pub answered : got ≡ answers (told judge) (begin start) calls
  -- image, n, k and entries are the history's, and the journal is sound
  pub as_told : AsTold (history_of judge start calls) left
  -- "A taking-back is refused exactly when no fit stands."
  pub refused_if_none : (history_of judge start calls).standing ≡ [] → (step left Rollback).answer ≡ none_stands
  pub done_if_some : ((history_of judge start calls).standing ≡ [] → ⊥) → (step left Rollback).answer ≡ done
  -- "The standing fits alone, asked for in their order from the same start, are all done"
  pub alone_done : answers step start (standing_alone judge start calls) ≡ replicate (count_of (history_of judge start calls)) done
  -- "and lead to the same image, n, k and first n entries,"
  pub alone_alike : Alike (files_after step start (standing_alone judge start calls)) left
  -- "and any next call gets the same answer after either list"; any further list of calls gets the same answers
  pub next : (c : Call) → CallIs K c → (step left c).answer ≡ (step (files_after step start (standing_alone judge start calls)) c).answer
  pub further : (more : List Call) → CallsAre K more → answers step left more ≡ answers step (files_after step start (standing_alone judge start calls)) more
