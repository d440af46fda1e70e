-- Check 9: "type, offset, overlap, addend rule".
use Rattle.std.specs.Prelude.{ℕ, zero, suc, ◌+◌, Bool, true, not, cond, ◌&&◌, ◌||◌, List, leb, ltb, eqb, ℤ, nat_abs, None, Option, Some}
use Rattle.numbers_definitions.specs.Whole.{within, even}
use Rattle.relocations_types.specs.declared.Decision.{Decision}
use Rattle.relocations_types.specs.declared.Decision.TheVariants.{Marker, Align, Store, Refused}
use Rattle.relocations_rela.specs.declared.sites.Site.{Site}
use Rattle.relocations_rela.specs.Sites.{offset, decision_at, A}
use Rattle.relocations_decisions.specs.Decisions.{is_store, is_refused, touched, stack_width, takes_pair}

-- "Record offsets never fall."
unfoldable pub never_falls : List ℕ → Site → ℕ → Bool
never_falls object x zero = true
never_falls object x (suc j) = leb (offset object x j) (offset object x (suc j))

-- the first offset after the bytes that relocation j touches
abbrev pub end : List ℕ → Site → ℕ → ℕ
end object x j = offset object x j + touched (decision_at object x j)

-- "The bytes touched lie in the row; a marker's offset is at most the row size."
unfoldable pub stays_inside : List ℕ → Site → ℕ → Bool
stays_inside object x j = leb (end object x j) x.target.size

-- "the previous non-marker": the last one before relocation j
unfoldable pub previous : List ℕ → Site → ℕ → Option ℕ
previous object x zero = None
previous object x (suc j) = cond (is_store (decision_at object x j)) (Some j) (previous object x j)

-- "both are of 33..40, 52..56 with equal offset and width"
unfoldable pub shares_place : List ℕ → Site → ℕ → ℕ → Bool
shares_place object x k j =
    eqb (offset object x k) (offset object x j)
    && ltb 0 (stack_width (decision_at object x k))
    && eqb (stack_width (decision_at object x k)) (stack_width (decision_at object x j))

-- "A non-marker starts at or after the end of the previous non-marker, or" shares its place
abbrev pub clears : List ℕ → Site → ℕ → Option ℕ → Bool
clears object x j None = true
clears object x j (Some k) = leb (end object x k) (offset object x j) || shares_place object x k j

unfoldable pub no_overlap : List ℕ → Site → ℕ → Bool
no_overlap object x j = not (is_store (decision_at object x j)) || clears object x j (previous object x j)

-- The addend rules, at an offset in a section of some size. ALIGN: "A even, 0 to 4,094, offset + A inside the row"; 24, 25: "A must be 0".
abbrev pub addend_well : Decision → ℕ → ℕ → ℤ → Bool
addend_well Align at size a = within 0 4094 a && even a && leb (at + nat_abs a) size
addend_well (Store r) at size a = not (takes_pair r.calculation) || eqb (nat_abs a) 0
addend_well Marker at size a = true
addend_well Refused at size a = true

unfoldable pub shape_well : List ℕ → Site → ℕ → Bool
shape_well object x j =
    not (is_refused (decision_at object x j))
    && never_falls object x j
    && stays_inside object x j
    && no_overlap object x j
    && addend_well (decision_at object x j) (offset object x j) x.target.size (A object x j)
