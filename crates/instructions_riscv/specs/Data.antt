-- What ADD, SUB and SET leave in the bytes of a data field that were v before. x is S + A as a whole number, not reduced first.
-- Bits outside the field stay.
use Rattle.std.specs.Prelude.{ℕ, ℤ, pos, ◌+ℤ◌, ◌-ℤ◌}
use Rattle.numbers_definitions.specs.Whole.{residue}
use Rattle.instructions_fields.specs.declared.Width.{Width}
use Rattle.instructions_fields.specs.Layouts.{read, put}
use Rattle.instructions_fields.specs.Fields.{bits, data_layout}

-- "V + S + A", wrapping at the width of the field
unfoldable pub added : Width → ℕ → ℤ → ℕ
added n v x = put (data_layout n) v (residue (bits n) (pos (read (data_layout n) v) +ℤ x))

-- "V - S - A"
unfoldable pub subtracted : Width → ℕ → ℤ → ℕ
subtracted n v x = put (data_layout n) v (residue (bits n) (pos (read (data_layout n) v) -ℤ x))

-- "S + A cut to the width"
unfoldable pub replaced : Width → ℕ → ℤ → ℕ
replaced n v x = put (data_layout n) v (residue (bits n) x)
