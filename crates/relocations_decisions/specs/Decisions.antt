-- What the rules need to know about a type's line in the table.
use Rattle.std.specs.Prelude.{ℕ, Bool, true, false, cond}
use Rattle.relocations_types.specs.declared.Operand.{Operand}
use Rattle.relocations_types.specs.declared.Operand.TheVariants.{Absolute, PcRelative, Paired}
use Rattle.relocations_types.specs.declared.Calculation.{Calculation}
use Rattle.relocations_types.specs.declared.Calculation.TheVariants.{Of, Add, Sub, Set}
use Rattle.relocations_types.specs.declared.Role.{Role}
use Rattle.relocations_types.specs.declared.Role.TheVariants.{Plain, HighOfPair}
use Rattle.relocations_types.specs.declared.Rule.{Rule}
use Rattle.relocations_types.specs.declared.Decision.{Decision}
use Rattle.relocations_types.specs.declared.Decision.TheVariants.{Marker, Align, Store, Refused}
use Rattle.instructions_fields.specs.Fields.{value_bits}

-- document 01: a non-marker
abbrev pub is_store : Decision → Bool
is_store (Store r) = true
is_store Marker = false
is_store Align = false
is_store Refused = false

abbrev pub is_refused : Decision → Bool
is_refused (Store r) = false
is_refused Marker = false
is_refused Align = false
is_refused Refused = true

-- how many bytes are touched; "marker, no bytes"
abbrev pub touched : Decision → ℕ
touched (Store r) = r.size
touched Marker = 0
touched Align = 0
touched Refused = 0

-- 33..40, 52..56: ADD, SUB and SET
abbrev pub stacks : Calculation → Bool
stacks (Of part operand) = false
stacks Add = true
stacks Sub = true
stacks Set = true

-- The width of an ADD, SUB or SET in bits: "SUB6 and SET6 have a width of their own". It is 0 for every other type.
abbrev pub stack_bits : Rule → ℕ
stack_bits r = cond (stacks r.calculation) (value_bits r.field) 0

abbrev pub stack_width : Decision → ℕ
stack_width (Store r) = stack_bits r
stack_width Marker = 0
stack_width Align = 0
stack_width Refused = 0

-- 24, 25: PCREL_LO12
abbrev pub is_paired : Operand → Bool
is_paired Absolute = false
is_paired PcRelative = false
is_paired Paired = true

abbrev pub takes_pair : Calculation → Bool
takes_pair (Of part operand) = is_paired operand
takes_pair Add = false
takes_pair Sub = false
takes_pair Set = false

abbrev pub needs_pair : Decision → Bool
needs_pair (Store r) = takes_pair r.calculation
needs_pair Marker = false
needs_pair Align = false
needs_pair Refused = false

-- 23: PCREL_HI20, "the partner"
abbrev pub is_high_of_pair : Role → Bool
is_high_of_pair Plain = false
is_high_of_pair HighOfPair = true

abbrev pub gives_pair : Decision → Bool
gives_pair (Store r) = is_high_of_pair r.role
gives_pair Marker = false
gives_pair Align = false
gives_pair Refused = false
