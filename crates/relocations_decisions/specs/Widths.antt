-- Which fields are data.
use Rattle.std.specs.Prelude.{Bool, true, false, not, ◌||◌}
use Rattle.instructions_fields.specs.declared.Field.{Field}
use Rattle.instructions_fields.specs.declared.Field.TheVariants.{U, I, S, B, J, Cb, Cj, Call, Data}
use Rattle.relocations_types.specs.declared.Calculation.{Calculation}
use Rattle.relocations_decisions.specs.Decisions.{stacks}

-- a field of data
abbrev pub is_data_field : Field → Bool
is_data_field U = false
is_data_field I = false
is_data_field S = false
is_data_field B = false
is_data_field J = false
is_data_field Cb = false
is_data_field Cj = false
is_data_field Call = false
is_data_field (Data width) = true

-- ADD, SUB and SET have data fields only
abbrev pub on_data : Calculation → Field → Bool
on_data c f = not (stacks c) || is_data_field f
