-- Why a symbol failed, on whole objects: each reason of Ticket 9 is given where the ticket says so, as one list with one claim; and no call
-- that leaves the reason out meets demand 2.
use Rattle.std.specs.Prelude.{None, Ok, Option, Some}
use mathlib.Core.Path.{◌≡◌, refl, sym, ap, ◌∙◌, subst}
use mathlib.Core.Bool.{false, not, ◌&&◌}
use mathlib.Core.List.{List, [], ◌∷◌, ◌++◌, map}
use Prim.Native.Nat.{ℕ, zero, suc, ◌+◌, ◌*◌, ◌^◌}
use native.Mathlib.Omega.{arith}
use borrow.Author.Tests.{ne_eqb, le-ltb}
use Rattle.numbers_definitions.specs.Bytes.{le, le_at, bytes, part}
use Rattle.numbers_definitions.specs.First.{first, everywhere, tabulate}
use Rattle.numbers_definitions.specs.Sums.{sum}
use Rattle.numbers_definitions.specs.Powers.{one_bit}
use Rattle.numbers_definitions.specs.Whole.{residue, signed, within, even, plus, minus}
use Rattle.instructions_riscv.specs.Forms.{has_form}
use Rattle.instructions_riscv.specs.Ranges.{reaches, keeps_alignment}
use Rattle.relocations_types.specs.Types.{table, among, lookup, decision}
use Rattle.elf_read.specs.Headers.{class_of, has_rvc}
use Rattle.elf_read.specs.Sections.{read_section, section_at, allocated, loaded, symbol_table, counting_rel, counting_rela, relocations_in, is_allocated}
use Rattle.elf_read.specs.Entries.{read_symbol, read_relocation, bytes_of, symbol_count, symbol_at, relocation_at, location_of}
use Rattle.elf_header.specs.Headers.{header_allowed, table_allowed}
use Rattle.elf_check.specs.Rules.{starts_null, inside_file, allocated_well, symbol_table_well, no_counting_rel, rela_kept, rela_well, relocations_kept, relocations_well, section_well, section_check}
use Rattle.order_format.specs.Orders.{entry_at, ascending, well_formed}
use Rattle.order_format.specs.Windows.{length_allowed, window_allowed}
use Rattle.order_lookup.specs.Values.{is_given, value_in, external_value}
use Rattle.order_lookup.specs.Addresses.{placed_at, addresses}
use Rattle.journal_format.specs.Journals.{entry, entries, total, is_blank, ends_within, sound}
use Rattle.plan_pieces.specs.Plans.{refused}
use Rattle.plan_pieces.specs.Answers.{Answer, says_why, done}
use Rattle.journal_history.specs.Calls.{Files, InstallCall, install, settle}
use Rattle.placing_match.specs.Placements.{lowest, differs, placement_check}
use Rattle.placing_match.specs.Externals.{is_undefined, external_check}
use Rattle.placing_match.proofs.Laws.Lowest.{lowest_nowhere}
use Rattle.placing_check.specs.Placing.{end_of, unit, aligned, ends_in_memory, has_bytes, in_window, share, apart, misplaced, placing_check}
use Rattle.placing_symbols.specs.Values.{of_section, of_entry, symbol_value}
use Rattle.relocations_rela.specs.Sites.{site_at}
use Rattle.relocations_rela.specs.Shape.{never_falls, stays_inside, previous, shares_place, no_overlap, shape_well}
use Rattle.relocations_values.specs.Pairs.{is_pair, how_many, pair_of}
use Rattle.relocations_rules.specs.declared.Finding.{Finding}
use Rattle.relocations_rules.specs.Rules.{in_target, symbol_well, stands_well, form_well, pair_well}
use Rattle.relocations_rules.specs.Search.{number, reason, first_broken, finding, finding_of, relocation_check}
use Rattle.calls_judgement.specs.Judgement.{judgement}
use Rattle.calls_demands.specs.First.{FirstBroken, table as table_of}
use Rattle.calls_demands.specs.Demands.{Demand2}
use Rattle.calls_demands.specs.Ours.{our_install}
use Rattle.calls_demands.proofs.Laws.Demands.{demand_2}
use Rattle.calls_demands.proofs.Laws.Sample.{words, files}

-- ---- an object with one relocation

-- section 1 is addi a0, a0, 0; the symbol table has two entries, of which symbol 1 has a type, a binding and a section; the relocation is at
-- offset 0, of a type, and names symbol k
unfoldable pub naming : ℕ → ℕ → ℕ → ℕ → List ℕ
naming type k info section =
    -- the header
    words (0x464C457F ∷ 0x00010101 ∷ 0 ∷ 0 ∷ 0x00F30001 ∷ 1 ∷ 0 ∷ 0 ∷ 100 ∷ 0 ∷ 52 ∷ 0x00280000 ∷ 4 ∷ [])
    -- the section, the symbol table, the relocation
    ++ words (0x00050513 ∷ [])
    ++ words (0 ∷ 0 ∷ 0 ∷ 0 ∷ 0 ∷ 0 ∷ 0 ∷ (info + 65536 * section) ∷ [])
    ++ words (0 ∷ (256 * k + type) ∷ 0 ∷ [])
    -- the section header table: NULL, PROGBITS, SYMTAB, RELA
    ++ words (0 ∷ 0 ∷ 0 ∷ 0 ∷ 0 ∷ 0 ∷ 0 ∷ 0 ∷ 0 ∷ 0 ∷ [])
    ++ words (0 ∷ 1 ∷ 2 ∷ 0 ∷ 52 ∷ 4 ∷ 0 ∷ 0 ∷ 4 ∷ 0 ∷ [])
    ++ words (0 ∷ 2 ∷ 0 ∷ 0 ∷ 56 ∷ 32 ∷ 0 ∷ 1 ∷ 4 ∷ 16 ∷ [])
    ++ words (0 ∷ 4 ∷ 0 ∷ 0 ∷ 88 ∷ 12 ∷ 2 ∷ 1 ∷ 4 ∷ 12 ∷ [])

-- section 1 at 0x20000000, where the window starts; and the same with a value for symbol 1
unfoldable pub order : List ℕ
order = words (1 ∷ 0x20000000 ∷ 1 ∷ 1 ∷ 0x20000000 ∷ 0 ∷ [])

unfoldable pub valued : List ℕ
valued = words (1 ∷ 0x20000000 ∷ 1 ∷ 1 ∷ 0x20000000 ∷ 1 ∷ 1 ∷ 7 ∷ [])

-- ---- the reasons

-- what is answered, and what Ticket 9 says
pub record Example : Type 0 where
  pub given : Answer
  pub said : Answer

abbrev answered : Option Finding → Answer
answered None = done
answered (Some f) = says_why (number f) 0 (reason f)

-- of a relocation of type 1 that names symbol 1
abbrev of : List ℕ → ℕ → ℕ → ℕ → Example
of o info section r = record { given = answered (finding_of (naming 1 1 info section) o (0 ∷ 0x20000000 ∷ []) 0); said = says_why 10 0 r }

-- of a PCREL_LO12_I that names symbol k
abbrev of_pair : List ℕ → ℕ → ℕ → ℕ → Answer → Example
of_pair o k info section a = record { given = answered (finding_of (naming 24 k info section) o (0 ∷ 0x20000000 ∷ []) 0); said = a }

unfoldable pub examples : List Example
examples =
    -- 1 "past the table": the table has symbols 0 and 1
    record { given = answered (finding_of (naming 1 2 0x10 1) order (0 ∷ 0x20000000 ∷ []) 0); said = says_why 10 0 1 }
    -- 2 "row missing or not allocated (sections 1 to 0xFEFF)"; a TLS symbol there is 2 and not 6
    ∷ of order 0x10 2 2
    ∷ of order 0x10 4 2
    ∷ of order 0x10 0xFEFF 2
    ∷ of order 0x16 2 2
    -- 3 "common (section 0xFFF2)", a TLS symbol too
    ∷ of order 0x10 0xFFF2 3
    ∷ of order 0x16 0xFFF2 3
    -- 4 "reserved section (0xFF00 and up, but for 0xFFF1 and 0xFFF2)"
    ∷ of order 0x10 0xFF00 4
    ∷ of order 0x10 0xFFF0 4
    ∷ of order 0x10 0xFFF3 4
    ∷ of order 0x1A 0xFFFF 4
    -- 5 "undefined, not weak and without a value in the order"; a strong undefined TLS symbol is 5 without a value and 6 with one
    ∷ of order 0x10 0 5
    ∷ of order 0x16 0 5
    ∷ of valued 0x16 0 6
    -- 6 "wrong type (TLS or IFUNC)"
    ∷ of order 0x16 1 6
    ∷ of order 0x1A 1 6
    ∷ of order 0x16 0xFFF1 6
    ∷ of order 0x26 0 6
    -- 7 "not in the target row (24 and 25 only)": symbol 0, an absolute one, one with an outside value, a weak one; a TLS symbol is 6, and one
    -- of the target row passes, and has no partner
    ∷ of_pair order 0 0x10 1 (says_why 10 0 7)
    ∷ of_pair order 1 0x10 0xFFF1 (says_why 10 0 7)
    ∷ of_pair valued 1 0x10 0 (says_why 10 0 7)
    ∷ of_pair order 1 0x20 0 (says_why 10 0 7)
    ∷ of_pair order 1 0x16 0xFFF1 (says_why 10 0 6)
    ∷ of_pair order 1 0x10 0xFF00 (says_why 10 0 4)
    ∷ of_pair order 1 0x10 1 (says_why 12 0 0)
    ∷ []

pub right : map (λ e. e.given) examples ≡ map (λ e. e.said) examples
unfolding examples naming order valued words bytes le le_at part first sum residue signed within even plus minus has_form reaches keeps_alignment decision table lookup among class_of has_rvc read_section section_at allocated is_allocated counting_rela relocations_in bytes_of read_symbol read_relocation relocation_at location_of site_at symbol_table symbol_count symbol_at value_in external_value entry_at never_falls stays_inside previous shares_place no_overlap shape_well of_entry of_section symbol_value in_target symbol_well stands_well form_well is_pair how_many pair_of pair_well finding first_broken finding_of
right = refl

-- ---- a whole fit: the relocation names symbol 2, which the table does not have

unfoldable pub object : List ℕ
object = naming 1 2 0x10 1

-- checks 6 and 7 at each number: section 1 is allocated and placed, and no other number is; no symbol has a value
matches_are : (i : ℕ) → differs object order i ≡ false
unfolding object naming order words bytes le_at le class_of read_section section_at allocated is_allocated placed_at value_in entry_at first differs
matches_are zero = refl
matches_are (suc zero) = refl
matches_are (suc (suc zero)) = refl
matches_are (suc (suc (suc zero))) = refl
matches_are (suc (suc (suc (suc i)))) =
    let k : ℕ = suc (suc (suc (suc i))) in
    rw (ne_eqb 1 k (λ e. omega arith), le-ltb k 4 (omega arith))

placements_match : placement_check object order ≡ Ok tt
unfolding placement_check
placements_match = lowest_nowhere (differs object order) (2 ^ 32) (λ i h. matches_are i)

externals_match : external_check object order ≡ Ok tt
unfolding external_check object naming order words bytes le_at le class_of external_value value_in entry_at first
externals_match = lowest_nowhere (λ k. is_given (external_value (class_of object) order k) && not (is_undefined object k)) (2 ^ 32) (λ k h. refl)

judged : judgement object order 4 ≡ refused (says_why 10 0 1)
unfolding judgement object naming order words bytes le_at le class_of header_allowed table_allowed section_check section_well starts_null inside_file allocated_well symbol_table_well no_counting_rel rela_kept rela_well relocations_kept relocations_well one_bit counting_rel well_formed ascending everywhere first entry_at window_allowed length_allowed read_section section_at allocated placed_at value_in external_value symbol_table symbol_count read_symbol symbol_at is_allocated placing_check lowest misplaced aligned unit ends_in_memory end_of in_window has_bytes loaded share apart addresses tabulate sum relocations_in location_of counting_rela site_at read_relocation relocation_at bytes_of part decision has_rvc table lookup among never_falls stays_inside previous shares_place no_overlap shape_well of_entry of_section symbol_value in_target symbol_well has_form stands_well form_well is_pair how_many pair_of pair_well reaches keeps_alignment within even residue signed plus minus finding first_broken finding_of relocation_check
judged = rw (placements_match, externals_match)

ours_is : (our_install object order files).answer ≡ says_why 10 0 1
unfolding install settle files sound everywhere first entries tabulate entry total le_at le is_blank ends_within
ours_is = rw judged

broken : FirstBroken (table_of object order files) (says_why 10 0 1)
broken =
    let refused : (our_install object order files).answer ≡ done → ⊥ = λ e. omega (arith, ap (λ a. a.number) (sym ours_is ∙ e)) in
    subst (FirstBroken (table_of object order files)) ours_is (demand_2.refused_first object order files refused)

-- so every call that meets demand 2 gives the reason, "otherwise the first broken rule is named"
pub names_the_reason : (installs : InstallCall) → Demand2 installs → (installs object order files).answer ≡ says_why 10 0 1
names_the_reason installs d = d.first_refused object order files (says_why 10 0 1) broken

-- and none that leaves it out meets it
pub gives_no_reason : (installs : InstallCall) → Demand2 installs → ((o r : List ℕ) (f : Files) → (installs o r f).answer.reason ≡ 0) → ⊥
gives_no_reason installs d wrong = omega (arith, ap (λ a. a.reason) (names_the_reason installs d), wrong object order files)
