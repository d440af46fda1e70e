-- Checks 10 to 14 of one relocation.
use Rattle.placing_symbols.specs.Reasons.{SymbolValue}
use Rattle.std.specs.Prelude.{ℕ, ◌+◌, ◌/◌, ◌%◌, ◌^◌, Bool, true, false, not, ◌&&◌, ◌||◌, List, ltb, eqb, ℤ, pos, nat_abs, Err, None, Ok, Option, Some}
use Rattle.numbers_definitions.specs.declared.Class.{Class}
use Rattle.numbers_definitions.specs.Classes.{bits}
use Rattle.numbers_definitions.specs.Bytes.{le_at}
use Rattle.numbers_definitions.specs.Whole.{even, minus}
use Rattle.numbers_definitions.specs.Powers.{ceil_power}
use Rattle.elf_read.specs.declared.Symbol.{Symbol}
use Rattle.elf_read.specs.Headers.{class_of}
use Rattle.elf_read.specs.Sections.{section_at, symbol_table}
use Rattle.elf_read.specs.Entries.{symbol_at}
use Rattle.placing_symbols.specs.declared.Reason.{Reason}
use Rattle.placing_symbols.specs.declared.Reason.TheVariants.{OutsideTarget}
use Rattle.instructions_fields.specs.declared.Field.{Field}
use Rattle.instructions_riscv.specs.declared.forms.Form.{Form}
use Rattle.instructions_riscv.specs.declared.forms.Form.TheVariants.{Any, Lui, Auipc, Jal, Branch, LowI, LowS, CallPair, CBranch, CJump}
use Rattle.relocations_types.specs.declared.Calculation.{Calculation}
use Rattle.relocations_types.specs.declared.Calculation.TheVariants.{Of, Add, Sub, Set}
use Rattle.relocations_types.specs.declared.Operand.{Operand}
use Rattle.relocations_types.specs.declared.Operand.TheVariants.{Absolute, PcRelative, Paired}
use Rattle.relocations_types.specs.declared.Part.{Part}
use Rattle.relocations_types.specs.declared.Part.TheVariants.{Whole, Distance, High, Low, BothHalves}
use Rattle.relocations_types.specs.declared.Decision.{Decision}
use Rattle.relocations_types.specs.declared.Decision.TheVariants.{Marker, Align, Store, Refused}
use Rattle.instructions_riscv.specs.Forms.{has_form}
use Rattle.instructions_riscv.specs.Ranges.{distance, range_of, reaches, keeps_alignment, halves_reach}
use Rattle.relocations_rela.specs.declared.sites.Site.{Site}
use Rattle.relocations_rela.specs.Sites.{entry, offset, decision_at, P, found}
use Rattle.relocations_decisions.specs.Decisions.{is_store, needs_pair}
use Rattle.relocations_values.specs.Pairs.{pair_of}

-- ---- check 10

abbrev pub is_resolved : SymbolValue → Bool
is_resolved (Ok v) = true
is_resolved (Err reason) = false

-- the symbol's entry in the table
abbrev pub symbol : List ℕ → Site → ℕ → Symbol
symbol object x j = symbol_at object (section_at object (symbol_table object)) (entry object x j).symbol

-- "A PCREL_LO12 symbol is above 0 and defined in the record's own target row"
unfoldable pub in_target : List ℕ → Site → ℕ → Bool
in_target object x j = ltb 0 (entry object x j).symbol && eqb (symbol object x j).section x.index

-- "symbol does not resolve (24, 25: or is not in the target row)"; "Markers skip 10"
unfoldable pub symbol_well : List ℕ → Site → ℕ → SymbolValue → Bool
symbol_well object x j value =
    not (is_store (decision_at object x j))
    || (is_resolved value && (not (needs_pair (decision_at object x j)) || in_target object x j))

-- Why check 10 is broken: the reason for which the symbol has no value; of one that has a value, that it is "not in the target row (24 and
-- 25 only)", which comes last. Document 02: "Symbol 0 always has its value, so only 7 can apply to it."
abbrev pub why : SymbolValue → Reason
why (Err reason) = reason
why (Ok v) = OutsideTarget

-- ---- check 11

-- Data. Its bytes may be anything, and its address may be odd.
abbrev pub is_data : Form → Bool
is_data Any = true
is_data Lui = false
is_data Auipc = false
is_data Jal = false
is_data Branch = false
is_data LowI = false
is_data LowS = false
is_data CallPair = false
is_data CBranch = false
is_data CJump = false

-- "Instruction at an even address". c is the object's class, p is the address, and w is the touched bytes as one number.
unfoldable pub stands_well : Class → Form → ℕ → ℕ → Bool
stands_well c form p w = is_data form || (eqb (p % 2) 0 && has_form c form w (w / 2 ^ 32))

abbrev pub asks_well : Class → Decision → ℕ → List ℕ → ℕ → Bool
asks_well c (Store r) p s at = stands_well c r.form p (le_at r.size s at)
asks_well c Marker p s at = true
asks_well c Align p s at = true
asks_well c Refused p s at = true

-- "as found in the object"
unfoldable pub form_well : List ℕ → Site → ℕ → Bool
form_well object x j = asks_well (class_of object) (decision_at object x j) (P object x j) (found object x) (offset object x j)

-- ---- check 12

abbrev pub is_one : Option ℕ → Bool
is_one (Some k) = true
is_one None = false

unfoldable pub pair_well : List ℕ → Site → ℕ → Bool
pair_well object x j = not (needs_pair (decision_at object x j)) || is_one (pair_of object x (symbol object x j).value)

-- ---- check 13, in class c, for t, which is T, and p, which is P. rvc says that bit 0 of e_flags is set.

-- Document 02, in class 2: "for 18, 19, 23 and 26 the distance or address, read as a signed 64-bit number, lies in
-- -2,147,485,696..2,147,481,599". 26: the address T; 18, 19, 23: the distance T - P modulo 2^w. 24 and 25 have no range of their own.
abbrev pub operand_reaches : Class → Operand → ℕ → ℕ → Bool
operand_reaches c Absolute t p = halves_reach c t
operand_reaches c PcRelative t p = halves_reach c (minus (bits c) t p)
operand_reaches c Paired t p = true

-- of a part: 16, 17, 44, 45: the distance, "even", and in the field's range; 18, 19: "T - P modulo 2^32, which is
-- even", and 2^w in class c; 18, 19, 23, 26: within reach of two halves; "If e_flags bit 0 is clear, .. a distance for 16 to 19 that
-- isn't a multiple of 4 with 13" (44 and 45 are refused there with 9)
abbrev pub part_reaches : Class → Bool → Part → Operand → Field → ℕ → ℕ → Bool
part_reaches c rvc Whole o f t p = true
part_reaches c rvc Distance o f t p = reaches (range_of f) (distance (bits c) t p) && keeps_alignment rvc (distance (bits c) t p)
part_reaches c rvc High o f t p = operand_reaches c o t p
part_reaches c rvc Low o f t p = true
part_reaches c rvc BothHalves o f t p =
    even (pos (minus (bits c) t p)) && operand_reaches c o t p && keeps_alignment rvc (pos (minus (bits c) t p))

abbrev pub reaches_well : Class → Bool → Calculation → Field → ℕ → ℕ → Bool
reaches_well c rvc (Of part operand) f t p = part_reaches c rvc part operand f t p
reaches_well c rvc Add f t p = true
reaches_well c rvc Sub f t p = true
reaches_well c rvc Set f t p = true

abbrev pub distance_well : Class → Bool → Decision → ℕ → ℕ → Bool
distance_well c rvc (Store r) t p = reaches_well c rvc r.calculation r.field t p
distance_well c rvc Marker t p = true
distance_well c rvc Align t p = true
distance_well c rvc Refused t p = true

-- ---- check 14: "P + A a multiple of the smallest power of two at least A + 2"

abbrev pub boundary_well : Decision → ℕ → ℤ → Bool
boundary_well Align p a = eqb ((p + nat_abs a) % ceil_power 32 (nat_abs a + 2)) 0
boundary_well (Store r) p a = true
boundary_well Marker p a = true
boundary_well Refused p a = true
