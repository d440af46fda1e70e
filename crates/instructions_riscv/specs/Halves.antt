-- The high and the low half of a number, for addresses of w bits: 32 in class 1, which is document 01's, and 64 in class 2.
use Rattle.std.specs.Prelude.{ℕ, ◌+◌, ◌-◌, ◌*◌, ◌/◌, ◌%◌, ◌^◌, ℤ, pos, ◌-ℤ◌}
use Rattle.numbers_definitions.specs.Whole.{residue, signed}

-- "High half of x: (x + 2,048) / 4,096 rounded down, modulo 2^20": twenty bits for w = 32, and w - 12 bits for any w
unfoldable pub high : ℕ → ℕ → ℕ
high w x = (x + 2048) / 4096 % 2 ^ (w - 12)

-- "Low half: x minus 4,096 times that, as a number from -2,048 to 2,047 modulo 2^32"
unfoldable pub low : ℕ → ℕ → ℤ
low w x = signed w (residue w (pos x -ℤ pos (4096 * high w x)))
