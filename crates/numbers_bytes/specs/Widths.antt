-- How many bytes are read or written at once.
use Rattle.std.specs.Prelude.{Bool, ◌||◌, ℕ, eqb}

abbrev pub is_width : ℕ → Bool
is_width n = eqb n 1 || eqb n 2 || eqb n 4 || eqb n 8
