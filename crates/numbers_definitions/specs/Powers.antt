-- Powers of two.
use Rattle.std.specs.Prelude.{ℕ, ◌^◌, Bool, leb, ltb, eqb}
use Rattle.numbers_definitions.specs.First.{first}

-- a number of w bits with exactly one bit set: it is 2^k for some k below w
unfoldable pub one_bit : ℕ → ℕ → Bool
one_bit w x = ltb (first (λ k. eqb x (2 ^ k)) w) w

-- the least k below w with n at most 2^k, or w where there is none
unfoldable pub ceil_log : ℕ → ℕ → ℕ
ceil_log w n = first (λ k. leb n (2 ^ k)) w

-- the smallest power of two that is at least n, for an n up to 2^w
unfoldable pub ceil_power : ℕ → ℕ → ℕ
ceil_power w n = 2 ^ ceil_log w n
