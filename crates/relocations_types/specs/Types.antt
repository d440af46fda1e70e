-- "Every type number from 0 to 255 has a line in one decision": document 01's table of relocation types, and what document 02 says of class 2 and of
-- objects without short instructions.
use Rattle.std.specs.Prelude.{ℕ, Bool, true, false, not, cond, ◌&&◌, ◌||◌, List, [], ◌∷◌, eqb}
use Rattle.numbers_definitions.specs.declared.Class.{Class}
use Rattle.numbers_definitions.specs.declared.Class.TheVariants.{Elf32, Elf64}
use Rattle.instructions_fields.specs.declared.Width.TheVariants.{W6, W8, W16, W32, W64}
use Rattle.instructions_fields.specs.declared.Field.TheVariants.{U, I, S, B, J, Cb, Cj, Call, Data}
use Rattle.instructions_riscv.specs.declared.forms.Form.TheVariants.{Any, Lui, Auipc, Jal, Branch, LowI, LowS, CallPair, CBranch, CJump}
use Rattle.instructions_fields.specs.declared.Width.{Width}
use Rattle.instructions_fields.specs.declared.Field.{Field}
use Rattle.instructions_riscv.specs.declared.forms.Form.{Form}
use Rattle.relocations_types.specs.declared.Operand.{Operand}
use Rattle.relocations_types.specs.declared.Operand.TheVariants.{Absolute, PcRelative, Paired}
use Rattle.relocations_types.specs.declared.Part.{Part}
use Rattle.relocations_types.specs.declared.Part.TheVariants.{Whole, Distance, High, Low, BothHalves}
use Rattle.relocations_types.specs.declared.Calculation.{Calculation}
use Rattle.relocations_types.specs.declared.Calculation.TheVariants.{Of, Add, Sub, Set}
use Rattle.relocations_types.specs.declared.Role.TheVariants.{Plain, HighOfPair}
use Rattle.relocations_types.specs.declared.Decision.{Decision}
use Rattle.relocations_types.specs.declared.Decision.TheVariants.{Marker, Align, Store, Refused}

-- a line of the table: types, and what they ask for
pub record Line : Type 0 where
  pub types : List ℕ
  pub decision_at : Decision

abbrev line : List ℕ → Decision → Line
line ts d = record { types = ts; decision_at = d }

-- a part of an operand, into n bytes that hold a field and have a form
abbrev pub of : Part → Operand → Field → Form → ℕ → Decision
of part operand f form n = Store (record { calculation = Of part operand; field = f; form = form; size = n; role = Plain })

-- a data word
abbrev pub word : Operand → Decision
word operand = of Whole operand (Data W32) Any 4

-- a data word of 64 bits
abbrev pub word64 : Decision
word64 = of Whole Absolute (Data W64) Any 8

-- a distance
abbrev pub jump : Field → Form → ℕ → Decision
jump f form n = of Distance PcRelative f form n

-- the high half that a PCREL_LO12 pairs with
abbrev pub pairing : Decision
pairing = Store (record { calculation = Of High PcRelative; field = U; form = Auipc; size = 4; role = HighOfPair })

-- its type
abbrev pub pairing_type : ℕ
pairing_type = 23

-- ADD, SUB or SET, on n bytes of data
abbrev pub stacking : Calculation → Width → ℕ → Decision
stacking c width n = Store (record { calculation = c; field = Data width; form = Any; size = n; role = Plain })

unfoldable pub table : List Line
table =
    -- NONE, RELAX: marker, no bytes
    line (0 ∷ 51 ∷ []) Marker
    -- ALIGN: marker
    ∷ line (43 ∷ []) Align
    -- 32, 32_PCREL
    ∷ line (1 ∷ []) (word Absolute)
    ∷ line (57 ∷ []) (word PcRelative)
    -- BRANCH, JAL
    ∷ line (16 ∷ []) (jump B Branch 4)
    ∷ line (17 ∷ []) (jump J Jal 4)
    -- RVC_BRANCH, RVC_JUMP
    ∷ line (44 ∷ []) (jump Cb CBranch 2)
    ∷ line (45 ∷ []) (jump Cj CJump 2)
    -- CALL, CALL_PLT
    ∷ line (18 ∷ 19 ∷ []) (of BothHalves PcRelative Call CallPair 8)
    -- PCREL_HI20, HI20
    ∷ line (pairing_type ∷ []) pairing
    ∷ line (26 ∷ []) (of High Absolute U Lui 4)
    -- LO12_I, LO12_S
    ∷ line (27 ∷ []) (of Low Absolute I LowI 4)
    ∷ line (28 ∷ []) (of Low Absolute S LowS 4)
    -- PCREL_LO12_I, PCREL_LO12_S
    ∷ line (24 ∷ []) (of Low Paired I LowI 4)
    ∷ line (25 ∷ []) (of Low Paired S LowS 4)
    -- ADD8, ADD16, ADD32, ADD64
    ∷ line (33 ∷ []) (stacking Add W8 1)
    ∷ line (34 ∷ []) (stacking Add W16 2)
    ∷ line (35 ∷ []) (stacking Add W32 4)
    ∷ line (36 ∷ []) (stacking Add W64 8)
    -- SUB8, SUB16, SUB32, SUB64
    ∷ line (37 ∷ []) (stacking Sub W8 1)
    ∷ line (38 ∷ []) (stacking Sub W16 2)
    ∷ line (39 ∷ []) (stacking Sub W32 4)
    ∷ line (40 ∷ []) (stacking Sub W64 8)
    -- SUB6, SET6
    ∷ line (52 ∷ []) (stacking Sub W6 1)
    ∷ line (53 ∷ []) (stacking Set W6 1)
    -- SET8, SET16, SET32
    ∷ line (54 ∷ []) (stacking Set W8 1)
    ∷ line (55 ∷ []) (stacking Set W16 2)
    ∷ line (56 ∷ []) (stacking Set W32 4)
    ∷ []

-- "Type 2 (word64, T) is added for class 2 only"
abbrev pub lines_of : Class → List Line
lines_of Elf32 = table
lines_of Elf64 = line (2 ∷ []) word64 ∷ table

-- whether a number is in a list
unfoldable pub among : ℕ → List ℕ → Bool
among t [] = false
among t (x ∷ xs) = eqb t x || among t xs

-- the decision on the line that has the type, or a refusal: "all others | refused"
unfoldable pub lookup : ℕ → List Line → Decision
lookup t [] = Refused
lookup t (l ∷ ls) = cond (among t l.types) l.decision_at (lookup t ls)

-- forms of instructions of 16 bits
abbrev pub is_short : Form → Bool
is_short CBranch = true
is_short CJump = true
is_short Any = false
is_short Lui = false
is_short Auipc = false
is_short Jal = false
is_short Branch = false
is_short LowI = false
is_short LowS = false
is_short CallPair = false

-- "If e_flags bit 0 is clear, types 44 and 45 are refused with 9": rvc says that the bit is set
abbrev pub permitted : Bool → Decision → Decision
permitted rvc (Store r) = cond (is_short r.form && not rvc) Refused (Store r)
permitted rvc Marker = Marker
permitted rvc Align = Align
permitted rvc Refused = Refused

unfoldable pub decision : Class → Bool → ℕ → Decision
decision c rvc t = permitted rvc (lookup t (lines_of c))
