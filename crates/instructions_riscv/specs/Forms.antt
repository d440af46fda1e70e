-- "Instruction at an even address, as found in the object": which words a relocation asks for. Data may be anything.
use Rattle.std.specs.Prelude.{ℕ, ◌/◌, ◌%◌, Bool, true, not, ◌&&◌, ◌||◌, eqb}
use Rattle.numbers_definitions.specs.declared.Class.{Class}
use Rattle.numbers_definitions.specs.Classes.{is_elf64}
use Rattle.instructions_riscv.specs.declared.forms.Form.{Form}
use Rattle.instructions_riscv.specs.declared.forms.Form.TheVariants.{Any, Lui, Auipc, Jal, Branch, LowI, LowS, CallPair, CBranch, CJump}

-- the manual's fields of a 32-bit instruction
abbrev pub opcode : ℕ → ℕ
opcode w = w % 128

abbrev pub rd : ℕ → ℕ
rd w = w / 128 % 32

abbrev pub funct3 : ℕ → ℕ
funct3 w = w / 4096 % 8

abbrev pub rs1 : ℕ → ℕ
rs1 w = w / 32768 % 32

-- the manual's fields of a 16-bit instruction
abbrev pub quadrant : ℕ → ℕ
quadrant w = w % 4

abbrev pub cfunct3 : ℕ → ℕ
cfunct3 w = w / 8192 % 8

-- JALR with funct3 0, through the given register
abbrev pub is_jalr : ℕ → ℕ → Bool
is_jalr w register = eqb (opcode w) 0x67 && eqb (funct3 w) 0 && eqb (rs1 w) register

-- In a file of class c the word w has the form; `next` is the word after it, which only CallPair looks at. Document 02: "In class 2, opcode
-- 0x1B with funct3 0 joins the _I forms, RVC_JUMP funct3 1 gives 11": ADDIW takes a low half too, and RV64 has no C.JAL.
unfoldable pub has_form : Class → Form → ℕ → ℕ → Bool
has_form c Any w next = true
has_form c Lui w next = eqb (opcode w) 0x37
has_form c Auipc w next = eqb (opcode w) 0x17
has_form c Jal w next = eqb (opcode w) 0x6F
has_form c Branch w next = eqb (opcode w) 0x63
has_form c LowI w next =
    eqb (opcode w) 0x03
    || eqb (opcode w) 0x07
    || ((eqb (opcode w) 0x13 || eqb (opcode w) 0x67 || (is_elf64 c && eqb (opcode w) 0x1B)) && eqb (funct3 w) 0)
has_form c LowS w next = eqb (opcode w) 0x23 || eqb (opcode w) 0x27
has_form c CallPair w next =
    eqb (opcode w) 0x17 && not (eqb (rd w) 0) && is_jalr next (rd w)
has_form c CBranch w next = eqb (quadrant w) 1 && (eqb (cfunct3 w) 6 || eqb (cfunct3 w) 7)
has_form c CJump w next = eqb (quadrant w) 1 && (eqb (cfunct3 w) 5 || (not (is_elf64 c) && eqb (cfunct3 w) 1))
