-- A list of calls as bytes: "u32 count; each call a u32 kind, 1 or 2, and for a fit the object and the order, each after its u32 length; no
-- byte left over".
--
--     count         u32
--     each call     kind u32: 1 is a fit, 2 a taking-back
--                   for a fit: length u32, and the object; length u32, and the order
use Rattle.std.specs.Prelude.{ℕ, zero, suc, ◌+◌, Bool, cond, ◌&&◌, ◌||◌, List, [], ◌∷◌, ◌++◌, length, leb, eqb}
use Rattle.numbers_definitions.specs.Bytes.{le_at, bytes, part}
use Rattle.numbers_definitions.specs.First.{everywhere, tabulate}
use Rattle.journal_history.specs.Calls.{Call, Install, Rollback}

-- ---- the format

abbrev pub FIT : ℕ
FIT = 1

abbrev pub TAKE_BACK : ℕ
TAKE_BACK = 2

-- bytes, with their length in front of them
abbrev pub counted : List ℕ → List ℕ
counted s = bytes 4 (length s) ++ s

unfoldable pub encode_call : Call → List ℕ
encode_call (Install object order) = bytes 4 FIT ++ (counted object ++ counted order)
encode_call Rollback = bytes 4 TAKE_BACK

unfoldable pub encode_calls : List Call → List ℕ
encode_calls [] = []
encode_calls (c ∷ cs) = encode_call c ++ encode_calls cs

-- the bytes of a list of calls
abbrev pub encode : List Call → List ℕ
encode cs = bytes 4 (length cs) ++ encode_calls cs

-- ---- reading one

-- how many calls there are
abbrev pub call_count : List ℕ → ℕ
call_count s = le_at 4 s 0

-- the call that starts at a place: its kind and, for a fit, the lengths of the object and the order
abbrev pub kind_at : List ℕ → ℕ → ℕ
kind_at s at = le_at 4 s at

abbrev pub object_length : List ℕ → ℕ → ℕ
object_length s at = le_at 4 s (at + 4)

abbrev pub order_length : List ℕ → ℕ → ℕ
order_length s at = le_at 4 s (at + 8 + object_length s at)

-- where it ends
unfoldable pub call_end : List ℕ → ℕ → ℕ
call_end s at = cond (eqb (kind_at s at) FIT) (at + 12 + object_length s at + order_length s at) (at + 4)

-- a call starts there, and lies wholly inside the bytes
unfoldable pub is_call : List ℕ → ℕ → Bool
is_call s at = (eqb (kind_at s at) FIT || eqb (kind_at s at) TAKE_BACK) && leb (call_end s at) (length s)

-- the call
unfoldable pub call_at : List ℕ → ℕ → Call
call_at s at =
    cond (eqb (kind_at s at) FIT)
    (Install (part s (at + 8) (object_length s at)) (part s (at + 12 + object_length s at) (order_length s at)))
    Rollback

-- where call i starts: the first after the count, every other after the one before it
unfoldable pub call_start : List ℕ → ℕ → ℕ
call_start s zero = 4
call_start s (suc i) = call_end s (call_start s i)

-- the bytes are a list: a call stands at every start, and no byte is left over
unfoldable pub is_list : List ℕ → Bool
is_list s = everywhere (λ i. is_call s (call_start s i)) (call_count s) && eqb (call_start s (call_count s)) (length s)

-- the calls
unfoldable pub calls_of : List ℕ → List Call
calls_of s = tabulate (λ i. call_at s (call_start s i)) (call_count s)
