-- Whole numbers, and their residues modulo 2^w.
-- From `lib.IntN`: `pos n` is n, `negsuc n` is -(n + 1), `+ℤ` is the sum and `-ℤ` the difference.
use Rattle.std.specs.Prelude.{ℕ, suc, ◌+◌, ◌-◌, ◌*◌, ◌%◌, ◌^◌, Bool, cond, leb, ltb, eqb, ℤ, pos, negsuc, ◌-ℤ◌, nat_abs}

-- a whole number modulo 2^w: the number from 0 to 2^w - 1 that differs from it by a multiple of 2^w
unfoldable pub residue : ℕ → ℤ → ℕ
residue w (pos n) = n % 2 ^ w
residue w (negsuc n) = 2 ^ w - suc (n % 2 ^ w)

-- the whole number that the w bits of u spell in two's complement: u if it is below half of 2^w, else u - 2^w
unfoldable pub signed : ℕ → ℕ → ℤ
signed w u = cond (ltb (2 * u) (2 ^ w)) (pos u) (pos u -ℤ pos (2 ^ w))

-- -back ≤ z ≤ ahead
unfoldable pub within : ℕ → ℕ → ℤ → Bool
within back ahead (pos n) = leb n ahead
within back ahead (negsuc n) = leb (suc n) back

-- a whole number is even
unfoldable pub even : ℤ → Bool
even z = eqb (nat_abs z % 2) 0

-- the sum and the difference of two addresses of w bits, modulo 2^w
unfoldable pub plus : ℕ → ℕ → ℕ → ℕ
plus w a b = (a + b) % 2 ^ w

unfoldable pub minus : ℕ → ℕ → ℕ → ℕ
minus w a b = residue w (pos a -ℤ pos b)
