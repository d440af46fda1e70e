-- What stands at each place of the table of compressed jumps, by the manual's format CJ.
use Rattle.std.specs.Prelude.{ℕ, ◌*◌, cond, ltb, ℤ, pos, ◌-ℤ◌}
use Rattle.numbers_definitions.specs.Whole.{residue}
use Rattle.instructions_fields.specs.Layouts.{format_cj, put}

-- place h is that of the even distance 2h, and from 1,024 on of 2h - 4,096
abbrev pub distance_at : ℕ → ℤ
distance_at h = cond (ltb h 1024) (pos (2 * h)) (pos (2 * h) -ℤ pos 4096)

-- what stands there: the field of that distance, with zeros in the bits of the instruction that are kept
abbrev pub field_at : ℕ → ℕ
field_at h = put format_cj 0 (residue 12 (distance_at h))
