-- The bytes that a relocation touches, as it leaves them: document 01's table, with a line for each operand and each part.
use Rattle.std.specs.Prelude.{ℕ, ◌+◌, ◌*◌, ℤ, pos, ◌+ℤ◌, ◌-ℤ◌}
use Rattle.numbers_definitions.specs.Whole.{residue, minus}
use Rattle.instructions_fields.specs.declared.Field.{Field}
use Rattle.relocations_types.specs.declared.Calculation.{Calculation}
use Rattle.relocations_types.specs.declared.Calculation.TheVariants.{Of, Add, Sub, Set}
use Rattle.relocations_types.specs.declared.Operand.{Operand}
use Rattle.relocations_types.specs.declared.Operand.TheVariants.{Absolute, PcRelative, Paired}
use Rattle.relocations_types.specs.declared.Part.{Part}
use Rattle.relocations_types.specs.declared.Part.TheVariants.{Whole, Distance, High, Low, BothHalves}
use Rattle.instructions_fields.specs.Layouts.{read, put}
use Rattle.instructions_fields.specs.Fields.{layout, value_bits}
use Rattle.instructions_riscv.specs.Halves.{high, low}

-- the two halves of an address of w bits, or of a distance modulo 2^w, each at the bits where its instruction holds it
abbrev pub high_part : ℕ → ℕ → ℕ
high_part w x = 4096 * high w x

abbrev pub low_part : ℕ → ℕ → ℕ
low_part w x = residue 12 (low w x)

-- The operand, for addresses of w bits: T, T - P modulo 2^w, or the partner's T - P. t is T, p is P, and d is the partner's T - P modulo 2^w.
abbrev pub operand_of : ℕ → Operand → ℕ → ℕ → ℕ → ℕ
operand_of w Absolute t p d = t
operand_of w PcRelative t p d = minus w t p
operand_of w Paired t p d = d

-- a part of an operand v, as its field takes it. The field takes as many low bits as it has.
abbrev pub part_of : ℕ → Part → ℕ → ℕ
-- 1, 2: "T"; 57: "T - P modulo 2^32", and 2^64 in class 2, where "types 1 and 57 still write the low 32 bits"
part_of w Whole v = v
-- 16, 17, 44, 45: the distance, which the field holds in two's complement
part_of w Distance v = v
-- 23, 26: "high half of T - P; of T"
part_of w High v = high_part w v
-- 27, 28: "low half of T"; 24, 25: "low half of the partner's T - P"
part_of w Low v = low_part w v
-- 18, 19: "both halves of T - P modulo 2^32", and 2^64 in class 2
part_of w BothHalves v = high_part w v + low_part w v

-- The value that goes into a field of `bits` bits, where addresses have w bits. v is V, "the field's present value"; x is S + A, a whole
-- number, and T is x modulo 2^w.
abbrev pub calculated : ℕ → Calculation → ℕ → ℕ → ℤ → ℕ → ℕ → ℕ
calculated w (Of part operand) bits v x p d = part_of w part (operand_of w operand (residue w x) p d)
-- 33..40, 52: "V + S + A, V - S - A; wraps at the width of the field, S + A not reduced first"
calculated w Add bits v x p d = residue bits (pos v +ℤ x)
calculated w Sub bits v x p d = residue bits (pos v -ℤ x)
-- 53..56: "S + A cut to the width"
calculated w Set bits v x p d = residue bits x

-- The touched bytes after the relocation, as one number. b is that number before it. "Bits outside the field stay."
unfoldable pub patched : ℕ → Calculation → Field → ℕ → ℤ → ℕ → ℕ → ℕ
patched w c f b x p d = put (layout f) b (calculated w c (value_bits f) (read (layout f) b) x p d)
