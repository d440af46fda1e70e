-- Numbers in byte lists, the lowest byte first (little-endian).
-- `sets s i b`, of `lib.Seq`, is s with the bytes b stored from place i on.
use Rattle.std.specs.Prelude.{ℕ, zero, suc, ◌+◌, ◌*◌, ◌/◌, ◌%◌, List, [], ◌∷◌, get_or, take, drop}

-- the number that the first n bytes spell
unfoldable pub le : ℕ → List ℕ → ℕ
le zero s = 0
le (suc n) s = get_or s 0 0 + 256 * le n (drop 1 s)

-- the number that the n bytes from place i on spell
unfoldable pub le_at : ℕ → List ℕ → ℕ → ℕ
le_at n s i = le n (drop i s)

-- a number as n bytes; the part that does not fit is dropped
unfoldable pub bytes : ℕ → ℕ → List ℕ
bytes zero x = []
bytes (suc n) x = x % 256 ∷ bytes n (x / 256)

-- the n bytes from place i on
unfoldable pub part : List ℕ → ℕ → ℕ → List ℕ
part s i n = take n (drop i s)
