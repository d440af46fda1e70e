-- Check 7: only undefined symbols have external values.
use Rattle.std.specs.Prelude.{ℕ, ◌^◌, Bool, not, ◌&&◌, List, ltb, eqb, Result, ⊤}
use Rattle.elf_read.specs.Headers.{class_of}
use Rattle.elf_read.specs.Sections.{section_at, symbol_table}
use Rattle.elf_read.specs.Entries.{SHN_UNDEF, symbol_at, symbol_count}
use Rattle.order_lookup.specs.Values.{is_given, external_value}
use Rattle.placing_match.specs.Placements.{lowest}

-- "undefined symbols (section 0, index above 0)", of the table
unfoldable pub is_undefined : List ℕ → ℕ → Bool
is_undefined object k =
    ltb 0 k && ltb k (symbol_count object) && eqb (symbol_at object (section_at object (symbol_table object)) k).section SHN_UNDEF

-- check 7: "outside value for a wrong symbol", at the "lowest such symbol"
unfoldable pub external_check : List ℕ → List ℕ → Result ⊤ ℕ
external_check object order = lowest (λ k. is_given (external_value (class_of object) order k) && not (is_undefined object k)) (2 ^ 32)
