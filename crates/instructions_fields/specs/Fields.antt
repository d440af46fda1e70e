-- The fields that relocations write.
use Rattle.std.specs.Prelude.{ℕ, List, [], ◌∷◌, ◌++◌}
use Rattle.instructions_fields.specs.declared.Width.{Width}
use Rattle.instructions_fields.specs.declared.Width.TheVariants.{W6, W8, W16, W32, W64}
use Rattle.instructions_fields.specs.declared.Field.{Field}
use Rattle.instructions_fields.specs.declared.Field.TheVariants.{U, I, S, B, J, Cb, Cj, Call, Data}
use Rattle.instructions_fields.specs.Layouts.{Bits, keep, imm, format_u, format_i, format_s, format_b, format_j, format_cb, format_cj}

-- how many bits a data field has
abbrev pub bits : Width → ℕ
bits W6 = 6
bits W8 = 8
bits W16 = 16
bits W32 = 32
bits W64 = 64

-- where these bits lie; a field of six bits is the low six bits of a byte
abbrev pub data_layout : Width → List Bits
data_layout W6 = imm 5 0 ∷ keep 2 ∷ []
data_layout W8 = imm 7 0 ∷ []
data_layout W16 = imm 15 0 ∷ []
data_layout W32 = imm 31 0 ∷ []
data_layout W64 = imm 63 0 ∷ []

-- where the value of a field lies in the bytes that hold it, which are read as one number.
-- CALL is a pair of instructions, AUIPC and JALR: the upper twenty bits go into the first, the lower twelve into the second.
abbrev pub layout : Field → List Bits
layout U = format_u
layout I = format_i
layout S = format_s
layout B = format_b
layout J = format_j
layout Cb = format_cb
layout Cj = format_cj
layout Call = format_u ++ format_i
layout (Data width) = data_layout width

-- how many bits the value of a field has, and what it is a multiple of: an instruction format leaves out low bits that are always 0
abbrev pub value_bits : Field → ℕ
value_bits U = 32
value_bits I = 12
value_bits S = 12
value_bits B = 13
value_bits J = 21
value_bits Cb = 9
value_bits Cj = 12
value_bits Call = 32
value_bits (Data width) = bits width

abbrev pub unit : Field → ℕ
unit U = 4096
unit I = 1
unit S = 1
unit B = 2
unit J = 2
unit Cb = 2
unit Cj = 2
unit Call = 1
unit (Data width) = 1
