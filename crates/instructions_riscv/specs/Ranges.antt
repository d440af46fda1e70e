-- How far jumps and branches reach.
use Rattle.std.specs.Prelude.{ℕ, ◌%◌, Bool, true, ◌&&◌, ◌||◌, eqb, ℤ, nat_abs}
use Rattle.numbers_definitions.specs.declared.Class.{Class}
use Rattle.numbers_definitions.specs.declared.Class.TheVariants.{Elf32, Elf64}
use Rattle.instructions_fields.specs.declared.Field.{Field}
use Rattle.instructions_fields.specs.declared.Field.TheVariants.{U, I, S, B, J, Cb, Cj, Call, Data}
use Rattle.instructions_riscv.specs.declared.ranges.Range.{Range}
use Rattle.numbers_definitions.specs.Whole.{signed, minus, within, even}

-- Document 02: "Distances for 16, 17, 44 and 45 become T - P reduced to the signed range of the address width": from -2^(w - 1) to
-- 2^(w - 1) - 1, where addresses have w bits. Half of 2^w, which could be read either way, is out of every range by far.
abbrev pub distance : ℕ → ℕ → ℕ → ℤ
distance w t p = signed w (minus w t p)

-- "16 BRANCH, 17 JAL: even, -4,096..4,094; even, -1,048,576..1,048,574"
abbrev pub branch : Range
branch = record { back = 4096; ahead = 4094 }

abbrev pub jal : Range
jal = record { back = 1048576; ahead = 1048574 }

-- "44 RVC_BRANCH, 45 RVC_JUMP: even, -256..254; even, -2,048..2,046"
abbrev pub rvc_branch : Range
rvc_branch = record { back = 256; ahead = 254 }

abbrev pub rvc_jump : Range
rvc_jump = record { back = 2048; ahead = 2046 }

-- No rule asks for the range of any other field. Here it has every distance.
abbrev pub anywhere : Range
anywhere = record { back = 0xFFFFFFFFFFFFFFFF; ahead = 0xFFFFFFFFFFFFFFFF }

-- the range of a field
abbrev pub range_of : Field → Range
range_of B = branch
range_of J = jal
range_of Cb = rvc_branch
range_of Cj = rvc_jump
range_of U = anywhere
range_of I = anywhere
range_of S = anywhere
range_of Call = anywhere
range_of (Data width) = anywhere

-- a distance is even and within a range
unfoldable pub reaches : Range → ℤ → Bool
reaches r z = even z && within r.back r.ahead z

-- "If e_flags bit 0 is clear, .. a distance for 16 to 19 that isn't a multiple of 4": without short instructions the manual wants every
-- instruction at a multiple of four bytes (IALIGN). rvc says that the bit is set; then two bytes are enough, and a distance is even already.
unfoldable pub keeps_alignment : Bool → ℤ → Bool
keeps_alignment rvc z = rvc || eqb (nat_abs z % 4) 0

-- "-2,147,485,696..2,147,481,599": what two halves make up. LUI and AUIPC give the multiples of 4,096 from -2^31 to 2^31 - 4,096, and the low
-- half adds a number from -2,048 to 2,047.
abbrev pub both_halves : Range
both_halves = record { back = 2147485696; ahead = 2147481599 }

-- In class 2, "the distance or address, read as a signed 64-bit number, lies in -2,147,485,696..2,147,481,599". In class 1 two halves make up
-- every address.
abbrev pub halves_reach : Class → ℕ → Bool
halves_reach Elf32 v = true
halves_reach Elf64 v = within both_halves.back both_halves.ahead (signed 64 v)
