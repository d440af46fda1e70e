-- Document 01, "Ledger", which is the journal: "count n (0 to 16); 16 entries of start u32 and length u32, those from n on zero; count k; k
-- old bytes."
--
--     n            u32                              at 0
--     entries      16 times start u32, length u32   at 4
--     k            u32                              at 132
--     old bytes    k bytes                          at 136
--
-- "A start counts from the image's first byte." A span's length is its `size`.
use Rattle.std.specs.Prelude.{◌≡◌, ℕ, ◌+◌, ◌*◌, ◌≤◌, ◌<◌, Bool, ◌&&◌, ◌||◌, List, [], ◌∷◌, ◌++◌, length, leb, ltb, eqb}
use Rattle.numbers_definitions.specs.Bytes.{le_at, bytes}
use Rattle.numbers_definitions.specs.First.{everywhere, tabulate}
use Rattle.plan_pieces.specs.declared.Span.{Span}

-- ---- the format

abbrev pub max_entries : ℕ
max_entries = 16

-- the sizes in bytes of a number, and of an entry, which is two numbers
abbrev pub number_size : ℕ
number_size = 4

abbrev pub entry_size : ℕ
entry_size = 2 * number_size

-- where n, entry i, k and the old bytes stand
abbrev pub count_at : ℕ
count_at = 0

abbrev pub entry_at : ℕ → ℕ
entry_at i = count_at + number_size + entry_size * i

abbrev pub held_at : ℕ
held_at = entry_at max_entries

abbrev pub old_at : ℕ
old_at = held_at + number_size

-- n, the number of standing installs
abbrev pub count : List ℕ → ℕ
count j = le_at number_size j count_at

-- entry i: the span of an install
unfoldable pub entry : List ℕ → ℕ → Span
entry j i = record { start = le_at number_size j (entry_at i); size = le_at number_size j (entry_at i + number_size) }

-- the 16 entries
unfoldable pub entries : List ℕ → List Span
entries j = tabulate (entry j) max_entries

-- k, the number of old bytes
abbrev pub held : List ℕ → ℕ
held j = le_at number_size j held_at

-- an entry of zeros, and the bytes of an entry
abbrev pub blank : Span
blank = record { start = 0; size = 0 }

abbrev pub entry_bytes : Span → List ℕ
entry_bytes s = bytes number_size s.start ++ bytes number_size s.size

-- the sum of the spans' lengths
unfoldable pub total : List Span → ℕ
total [] = 0
total (s ∷ ss) = s.size + total ss

-- ---- check 1

-- "A ledger of which all this holds is sound": a journal j, for an image of `len` bytes
pub record Sound (j : List ℕ) (len : ℕ) : Type 0 where
  -- "count n (0 to 16)"
  pub few : count j ≤ max_entries
  -- "16 entries .., those from n on zero"
  pub others_zero : (i : ℕ) → count j ≤ i → i < max_entries → entry j i ≡ blank
  -- "k is the sum of the lengths"
  pub held_is : held j ≡ total (entries j)
  -- "136 + k fits in the ledger"
  pub fits : old_at + held j ≤ length j
  -- "each span lies inside the image"
  pub inside : (i : ℕ) → i < max_entries → (entry j i).start + (entry j i).size ≤ len

-- the same clauses as a test, which the code computes
unfoldable pub is_blank : Span → Bool
is_blank s = eqb s.start 0 && eqb s.size 0

unfoldable pub ends_within : ℕ → Span → Bool
ends_within len s = leb (s.start + s.size) len

unfoldable pub sound : List ℕ → ℕ → Bool
sound j len =
    leb (count j) max_entries
    && everywhere (λ i. ltb i (count j) || is_blank (entry j i)) max_entries
    && eqb (held j) (total (entries j))
    && leb (old_at + held j) (length j)
    && everywhere (λ i. ends_within len (entry j i)) max_entries

-- ---- check 15

-- "n is 16, or 136 + k + span above ledger length": `size` is the length of the span, `len` the length of the journal
unfoldable pub no_room : ℕ → ℕ → ℕ → ℕ → Bool
no_room n k size len = eqb n max_entries || ltb len (old_at + k + size)
