-- The line of an answer, in ASCII.
use Rattle.std.specs.Prelude.{ℕ, zero, suc, ◌/◌, ◌%◌, cond, List, [], ◌∷◌, ◌++◌, ltb}
use Rattle.io.specs.Digits.{hex_digit_ascii}
use Rattle.plan_pieces.specs.Answers.{Answer}

-- n in decimal without leading zeros, if it has at most `most` digits
unfoldable pub decimal_in : ℕ → ℕ → List ℕ
decimal_in zero n = []
decimal_in (suc most) n = cond (ltb n 10) (hex_digit_ascii n ∷ []) (decimal_in most (n / 10) ++ hex_digit_ascii (n % 10) ∷ [])

-- every number below 2^64 has at most 20 digits
unfoldable pub decimal : ℕ → List ℕ
decimal = decimal_in 20

-- "number and place in decimal, a space between, then a line end". The reason is written third
unfoldable pub line : Answer → List ℕ
line a = decimal a.number ++ 32 ∷ [] ++ decimal a.place ++ 32 ∷ [] ++ decimal a.reason ++ 10 ∷ []
