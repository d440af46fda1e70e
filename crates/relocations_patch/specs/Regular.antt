-- Which parts and forms go with a field. Every rule of the table is one of these (`Laws.Regular`), so that the code goes by the field alone.
use Rattle.std.specs.Prelude.{◌≡◌, Bool, true, false, ℕ}
use Rattle.instructions_fields.specs.declared.Field.{Field}
use Rattle.instructions_fields.specs.declared.Field.TheVariants.{U, I, S, B, J, Cb, Cj, Call, Data}
use Rattle.instructions_riscv.specs.declared.forms.Form.{Form}
use Rattle.instructions_riscv.specs.declared.forms.Form.TheVariants.{Any, Lui, Auipc, Jal, Branch, LowI, LowS, CallPair, CBranch, CJump}
use Rattle.relocations_types.specs.declared.Operand.{Operand}
use Rattle.relocations_types.specs.declared.Operand.TheVariants.{PcRelative}
use Rattle.relocations_types.specs.declared.Part.{Part}
use Rattle.relocations_types.specs.declared.Part.TheVariants.{Whole, Distance, High, Low, BothHalves}
use Rattle.relocations_types.specs.declared.Calculation.{Calculation}
use Rattle.relocations_types.specs.declared.Calculation.TheVariants.{Of, Add, Sub, Set}
use Rattle.relocations_decisions.specs.Decisions.{takes_pair}
use Rattle.relocations_bytes.specs.Patches.{operand_of}

-- LUI or AUIPC
abbrev pub is_upper : Form → Bool
is_upper Any = false
is_upper Lui = true
is_upper Auipc = true
is_upper Jal = false
is_upper Branch = false
is_upper LowI = false
is_upper LowS = false
is_upper CallPair = false
is_upper CBranch = false
is_upper CJump = false

-- a calculation that is a part of some operand
pub record OfPart (part : Part) (c : Calculation) : Type 0 where
  pub operand : Operand
  pub is : c ≡ Of part operand

-- a calculation that fills a field of data
abbrev pub is_whole : Part → Bool
is_whole Whole = true
is_whole Distance = false
is_whole High = false
is_whole Low = false
is_whole BothHalves = false

abbrev pub fills : Calculation → Bool
fills (Of part operand) = is_whole part
fills Add = true
fills Sub = true
fills Set = true

abbrev pub Regular : Calculation → Field → Form → Type 0
Regular c U form = OfPart High c × (takes_pair c ≡ false) × (is_upper form ≡ true)
Regular c I form = OfPart Low c × (form ≡ LowI)
Regular c S form = OfPart Low c × (form ≡ LowS)
Regular c B form = (c ≡ Of Distance PcRelative) × (form ≡ Branch)
Regular c J form = (c ≡ Of Distance PcRelative) × (form ≡ Jal)
Regular c Cb form = (c ≡ Of Distance PcRelative) × (form ≡ CBranch)
Regular c Cj form = (c ≡ Of Distance PcRelative) × (form ≡ CJump)
Regular c Call form = (c ≡ Of BothHalves PcRelative) × (form ≡ CallPair)
Regular c (Data width) form = (fills c ≡ true) × (form ≡ Any)

-- the operand of a calculation; ADD, SUB and SET have none
abbrev pub operand_by : ℕ → Calculation → ℕ → ℕ → ℕ → ℕ
operand_by w (Of part operand) t p d = operand_of w operand t p d
operand_by w Add t p d = 0
operand_by w Sub t p d = 0
operand_by w Set t p d = 0
