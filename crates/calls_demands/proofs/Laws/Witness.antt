-- Two installs of one object that stand in one image, so that the demands are not empty where they say most: a paired high and low half, a
-- call, a branch back, ADD and SUB at one place, and a taking-back. What follows holds of any two calls that keep what is promised, and of
-- ours.
use Rattle.std.specs.Prelude.{None, Ok, Option, Some}
use mathlib.Core.Path.{◌≡◌, refl, sym, ap, subst, ◌∙◌}
use mathlib.Core.Bool.{true, not}
use mathlib.Core.List.{List, [], ◌∷◌, ◌++◌}
use Prim.Native.Nat.{ℕ, zero, suc, ◌+◌, ◌-◌, ◌/◌, ◌^◌, ◌≤◌, ◌<◌}
use native.Mathlib.Omega.{arith}
use native.Mathlib.Decide.{dec_lt}
use lib.ListN.{length, replicate}
use lib.IntN.{pos, neg_ℤ, ◌+ℤ◌}
use borrow.Author.Tests.{ne_eqb, le-ltb, not-true}
use Rattle.numbers_definitions.proofs.Laws.Tests.{never}
use Rattle.numbers_definitions.proofs.Laws.First.{everywhere_at}
use Rattle.numbers_definitions.specs.Bytes.{le, le_at, bytes, part}
use Rattle.numbers_definitions.specs.First.{first, everywhere, tabulate}
use Rattle.numbers_definitions.specs.Sums.{sum}
use Rattle.numbers_definitions.specs.Powers.{one_bit}
use Rattle.numbers_definitions.specs.Whole.{residue, signed, within, even, plus, minus}
use Rattle.instructions_fields.specs.declared.Width.TheVariants.{W32}
use Rattle.instructions_fields.specs.declared.Field.TheVariants.{U, I, Data}
use Rattle.instructions_fields.specs.Layouts.{format_u, format_i, format_b, read, put}
use Rattle.instructions_fields.specs.Fields.{layout}
use Rattle.instructions_riscv.specs.Halves.{high, low}
use Rattle.instructions_riscv.specs.declared.forms.Form.TheVariants.{LowI}
use Rattle.instructions_riscv.specs.Forms.{has_form}
use Rattle.instructions_riscv.specs.Ranges.{reaches, keeps_alignment}
use Rattle.relocations_types.specs.declared.Operand.TheVariants.{Paired}
use Rattle.relocations_types.specs.declared.Part.TheVariants.{Low}
use Rattle.relocations_types.specs.declared.Calculation.TheVariants.{Of}
use Rattle.relocations_types.specs.declared.Role.TheVariants.{Plain}
use Rattle.relocations_types.specs.declared.Rule.{Rule}
use Rattle.relocations_types.specs.declared.Decision.TheVariants.{Store}
use Rattle.relocations_types.specs.Types.{table, among, lookup, decision}
use Rattle.elf_read.specs.Headers.{class_of, has_rvc, address_width, section_count}
use Rattle.elf_read.specs.Sections.{read_section, section_at, allocated, loaded, symbol_table, counting_rel, counting_rela, relocations_in, is_allocated}
use Rattle.elf_read.specs.Entries.{read_symbol, read_relocation, bytes_of, symbol_count, symbol_at, relocation_at, relocation_count, location_of}
use Rattle.elf_header.specs.Headers.{header_allowed, table_allowed}
use Rattle.elf_check.specs.Rules.{starts_null, inside_file, allocated_well, symbol_table_well, no_counting_rel, rela_kept, rela_well, relocations_kept, relocations_well, section_well}
use Rattle.elf_check.specs.Sound.{SoundSection}
use Rattle.elf_check.proofs.Laws.Objects.{section_sound}
use Rattle.order_format.specs.Orders.{entry_at, ascending, well_formed}
use Rattle.order_format.specs.Windows.{length_allowed, window_allowed}
use Rattle.order_lookup.specs.Values.{value_in, external_value}
use Rattle.order_lookup.specs.Addresses.{placed_at, addresses, addresses_for, base_for}
use Rattle.journal_format.specs.Journals.{count, held, entry, entries, total, is_blank, ends_within, sound, Sound, no_room}
use Rattle.journal_format.proofs.Laws.Sound.{test_sound}
use Rattle.plan_pieces.specs.declared.Span.{Span}
use Rattle.plan_pieces.specs.Plans.{overwritten, end, lowest, span_of}
use Rattle.plan_pieces.specs.Answers.{done}
use Rattle.journal_history.specs.Calls.{Files, succeed, Call, Install, Rollback, InstallCall, RollbackCall, calling, answers, run}
use Rattle.journal_history.specs.Histories.{Standing, History, begin, spans, laid, stand, fall, told, history_of, Start, AsTold}
use Rattle.placing_match.specs.Externals.{is_undefined}
use Rattle.placing_check.specs.Placing.{end_of, unit, aligned, ends_in_memory, has_bytes, in_window, share, apart, misplaced}
use Rattle.placing_symbols.specs.Values.{of_section, of_entry, symbol_value}
use Rattle.relocations_rela.specs.Sites.{site_at, decision_at}
use Rattle.relocations_rela.specs.Shape.{never_falls, stays_inside, previous, shares_place, no_overlap, shape_well}
use Rattle.relocations_values.specs.Pairs.{is_pair, how_many, pair_of}
use Rattle.relocations_rules.specs.Rules.{symbol, in_target, symbol_well, stands_well, form_well, pair_well}
use Rattle.relocations_rules.specs.Search.{first_broken, finding, finding_of, relocation_check}
use Rattle.relocations_rules.proofs.Laws.Search.{passed_kept, kept_rules, Rules as Tests}
use Rattle.relocations_bytes.specs.Patches.{patched}
use Rattle.relocations_bytes.specs.Sections.{sum_at, distance_at, rela_of, relocated, applied, after}
use Rattle.relocations_bytes.specs.Promises.{stack_at, ReadsBack, AddUp}
use Rattle.placing_span.specs.Pieces.{pieces}
use Rattle.calls_judgement.specs.Judgement.{plan_of, judgement}
use Rattle.calls_demands.specs.Rules.{Rules, WindowWell, HeaderWell, TableWell, PlacedAsAllocated, ValuedIfUndefined, PlacedIfAllocated, site, entry_of}
use Rattle.calls_demands.specs.Laid.{Covers, IsSpan, site_of, IsRelocation, bytes_at, Laid}
use Rattle.calls_demands.specs.Demands.{Promised}
use Rattle.calls_demands.specs.Ours.{our_install, our_rollback}
use Rattle.calls_demands.proofs.Laws.Rules.{order_well, window_well, header_well, table_well, valued, placed_well}
use Rattle.calls_demands.proofs.Laws.Relocations.{shape_well_lem, form_well_lem, pair_well_lem, reach_well, boundary_well_lem}
use Rattle.calls_demands.proofs.Laws.Symbols.{symbol_well_lem}
use Rattle.calls_demands.proofs.Laws.Sample.{words}
use Rattle.calls_demands.proofs.Laws.Demands.{Done, done_leaves, demand_2}
use Rattle.calls_demands.proofs.Laws.Promised.{ours_keep}

-- ---- the object

unfoldable pub object : List ℕ
object =
    -- the header
    words (0x464C457F ∷ 0x00010101 ∷ 0 ∷ 0 ∷ 0x00F30001 ∷ 1 ∷ 0 ∷ 0 ∷ 212 ∷ 0 ∷ 52 ∷ 0x00280000 ∷ 6 ∷ [])
    -- section 1, code: auipc a0, 0; addi a0, a0, 0; auipc ra, 0; jalr ra, 0(ra); beq a0, zero, 0
    ++ words (0x00000517 ∷ 0x00050513 ∷ 0x00000097 ∷ 0x000080E7 ∷ 0x00050063 ∷ [])
    -- section 2, data
    ++ words (0x00000100 ∷ [])
    -- section 3, the symbol table: symbol 0, the code's start, the data's start, an undefined function
    ++ words (0 ∷ 0 ∷ 0 ∷ 0 ∷ [])
    ++ words (0 ∷ 0 ∷ 0 ∷ 0x00010000 ∷ [])
    ++ words (0 ∷ 0 ∷ 0 ∷ 0x00020000 ∷ [])
    ++ words (0 ∷ 0 ∷ 0 ∷ 0x00000010 ∷ [])
    -- section 4, relocations of the code: PCREL_HI20 of the data + 0x12345FE0, PCREL_LO12_I of the code's start, where that one is,
    -- CALL_PLT of the function, BRANCH to the code's start
    ++ words (0 ∷ 0x0217 ∷ 0x12345FE0 ∷ [])
    ++ words (4 ∷ 0x0118 ∷ 0 ∷ [])
    ++ words (8 ∷ 0x0313 ∷ 0 ∷ [])
    ++ words (16 ∷ 0x0110 ∷ 0 ∷ [])
    -- section 5, relocations of the data: ADD32 of the data's start, SUB32 of the code's start
    ++ words (0 ∷ 0x0223 ∷ 0 ∷ [])
    ++ words (0 ∷ 0x0127 ∷ 0 ∷ [])
    -- the section header table: NULL, PROGBITS, PROGBITS, SYMTAB, RELA, RELA
    ++ words (0 ∷ 0 ∷ 0 ∷ 0 ∷ 0 ∷ 0 ∷ 0 ∷ 0 ∷ 0 ∷ 0 ∷ [])
    ++ words (0 ∷ 1 ∷ 6 ∷ 0 ∷ 52 ∷ 20 ∷ 0 ∷ 0 ∷ 4 ∷ 0 ∷ [])
    ++ words (0 ∷ 1 ∷ 3 ∷ 0 ∷ 72 ∷ 4 ∷ 0 ∷ 0 ∷ 4 ∷ 0 ∷ [])
    ++ words (0 ∷ 2 ∷ 0 ∷ 0 ∷ 76 ∷ 64 ∷ 0 ∷ 3 ∷ 4 ∷ 16 ∷ [])
    ++ words (0 ∷ 4 ∷ 0 ∷ 0 ∷ 140 ∷ 48 ∷ 3 ∷ 1 ∷ 4 ∷ 12 ∷ [])
    ++ words (0 ∷ 4 ∷ 0 ∷ 0 ∷ 188 ∷ 24 ∷ 3 ∷ 2 ∷ 4 ∷ 12 ∷ [])

-- ---- two orders: the window at 0x20000000, the data at 0x20000018, the function at 0x20002808; the code elsewhere

unfoldable pub order_with : ℕ → List ℕ
order_with code = words (1 ∷ 0x20000000 ∷ 2 ∷ 1 ∷ code ∷ 2 ∷ 0x20000018 ∷ 1 ∷ 3 ∷ 0x20002808 ∷ [])

abbrev pub order₁ : List ℕ
order₁ = order_with 0x20000000

abbrev pub order₂ : List ℕ
order₂ = order_with 0x20000020

-- an image of 52 bytes, and a journal with exactly enough room for both spans
unfoldable pub files : Files
files = record { image = replicate 52 0xA5; journal = replicate 192 0 }

-- ---- what is computed of the object alone

header_is : HeaderWell object
unfolding object words bytes header_allowed le_at le class_of
header_is = header_well object refl

table_is : TableWell object
unfolding object words bytes table_allowed le_at le class_of
table_is = table_well object refl

count_is : section_count object ≡ 6
unfolding object words bytes le_at le class_of
count_is = refl

sections_are : (i : ℕ) → i < 6 → SoundSection object i
unfolding object words bytes le_at le class_of section_well starts_null inside_file allocated_well symbol_table_well no_counting_rel rela_kept rela_well relocations_kept relocations_well read_section section_at allocated loaded symbol_table is_allocated counting_rel counting_rela relocations_in first everywhere sum one_bit
sections_are i h = section_sound object i (everywhere_at (section_well object) 6 refl i h)

-- ---- what is computed of an order: each rule by its test

-- sections 1 and 2 are allocated and placed, and no other number is; symbol 3 is undefined and has a value
matches_are : (code i : ℕ) → PlacedAsAllocated object (order_with code) i
unfolding object order_with words bytes le_at le class_of read_section section_at allocated is_allocated placed_at value_in entry_at first
matches_are code zero = refl
matches_are code (suc zero) = refl
matches_are code (suc (suc zero)) = refl
matches_are code (suc (suc (suc zero))) = refl
matches_are code (suc (suc (suc (suc zero)))) = refl
matches_are code (suc (suc (suc (suc (suc zero))))) = refl
matches_are code (suc (suc (suc (suc (suc (suc i)))))) =
    let k : ℕ = suc (suc (suc (suc (suc (suc i))))) in
    rw (ne_eqb 1 k (λ e. omega arith), ne_eqb 2 k (λ e. omega arith), le-ltb k 6 (omega arith))

externals_are : (code k : ℕ) → ValuedIfUndefined object (order_with code) k
unfolding object order_with words bytes le_at le class_of read_section section_at external_value value_in entry_at first is_undefined symbol_table symbol_count read_symbol symbol_at
externals_are code zero = valued object (order_with code) 0 refl
externals_are code (suc zero) = valued object (order_with code) 1 refl
externals_are code (suc (suc zero)) = valued object (order_with code) 2 refl
externals_are code (suc (suc (suc zero))) = valued object (order_with code) 3 refl
externals_are code (suc (suc (suc (suc k)))) =
    let n : ℕ = suc (suc (suc (suc k))) in
    valued object (order_with code) n (rw (ne_eqb 3 n (λ e. omega arith)))

record Fine (code from : ℕ) : Type 0 where
  order_is : well_formed (class_of object) (order_with code) ≡ true
  window_is : window_allowed (address_width object) (base_for object (order_with code)) 52 ≡ true
  placed_are : everywhere (λ i. not (misplaced object (addresses_for object (order_with code)) (base_for object (order_with code)) 52 i)) 6 ≡ true
  relocations_are : relocation_check object (order_with code) (addresses_for object (order_with code)) ≡ Ok tt
  -- what is laid lies in 28 bytes
  only_laid : (t b : ℕ) → Covers object (order_with code) t b → (from ≤ b) × (b < from + 28)

fine₁ : Fine 0x20000000 0
unfolding object order_with words bytes le_at le class_of well_formed ascending everywhere first entry_at window_allowed length_allowed read_section section_at allocated placed_at value_in external_value symbol_table symbol_count read_symbol symbol_at is_allocated misplaced aligned unit ends_in_memory end_of in_window has_bytes loaded share apart addresses tabulate sum relocations_in location_of counting_rela site_at read_relocation relocation_at bytes_of part decision has_rvc table lookup among never_falls stays_inside previous shares_place no_overlap shape_well of_entry of_section symbol_value in_target symbol_well has_form stands_well form_well is_pair how_many pair_of pair_well reaches keeps_alignment within even residue signed plus minus finding first_broken finding_of relocation_check
fine₁ = record { order_is = refl; window_is = refl; placed_are = refl; relocations_are = refl; only_laid = laid }
  where
    laid : (t b : ℕ) → Covers object order₁ t b → (0 ≤ b) × (b < 28)
    laid zero b c = never c.loaded
    laid (suc zero) b c = (omega arith, omega (arith, c.to))
    laid (suc (suc zero)) b c = (omega arith, omega (arith, c.to))
    laid (suc (suc (suc zero))) b c = never c.loaded
    laid (suc (suc (suc (suc zero)))) b c = never c.loaded
    laid (suc (suc (suc (suc (suc zero))))) b c = never c.loaded
    laid (suc (suc (suc (suc (suc (suc t)))))) b c = absurd (omega (arith, c.there, count_is))

fine₂ : Fine 0x20000020 24
unfolding object order_with words bytes le_at le class_of well_formed ascending everywhere first entry_at window_allowed length_allowed read_section section_at allocated placed_at value_in external_value symbol_table symbol_count read_symbol symbol_at is_allocated misplaced aligned unit ends_in_memory end_of in_window has_bytes loaded share apart addresses tabulate sum relocations_in location_of counting_rela site_at read_relocation relocation_at bytes_of part decision has_rvc table lookup among never_falls stays_inside previous shares_place no_overlap shape_well of_entry of_section symbol_value in_target symbol_well has_form stands_well form_well is_pair how_many pair_of pair_well reaches keeps_alignment within even residue signed plus minus finding first_broken finding_of relocation_check
fine₂ = record { order_is = refl; window_is = refl; placed_are = refl; relocations_are = refl; only_laid = laid }
  where
    laid : (t b : ℕ) → Covers object order₂ t b → (24 ≤ b) × (b < 24 + 28)
    laid zero b c = never c.loaded
    laid (suc zero) b c = (omega (arith, c.from), omega (arith, c.to))
    laid (suc (suc zero)) b c = (omega (arith, c.from), omega (arith, c.to))
    laid (suc (suc (suc zero))) b c = never c.loaded
    laid (suc (suc (suc (suc zero)))) b c = never c.loaded
    laid (suc (suc (suc (suc (suc zero))))) b c = never c.loaded
    laid (suc (suc (suc (suc (suc (suc t)))))) b c = absurd (omega (arith, c.there, count_is))

-- ---- so every rule holds, wherever the journal is sound and has room

module _ (code from : ℕ) (fine : Fine code from) where
  abbrev order : List ℕ
  order = order_with code

  -- a span is that of 28 bytes at most
  span_short : (s : Span) → IsSpan object order s → s.size ≤ 28
  span_short s is = go (dec_lt 0 s.size)
    where
      go : Dec (0 < s.size) → s.size ≤ 28
      go (no none) = omega arith
      go (yes some) =
          let lo = fine.only_laid (is.first_laid some).0 s.start (is.first_laid some).1 in
          let hi = fine.only_laid (is.last_laid some).0 (s.start + s.size - 1) (is.last_laid some).1 in
          omega (arith, lo.0, hi.1)

  -- the tests of relocation k
  tested : (k : ℕ) → k < relocation_count object → Tests object order (addresses_for object order) (site object order k) (entry_of object order k)
  unfolding finding_of
  tested k h = kept_rules object order (addresses_for object order) (site object order k) (entry_of object order k) (passed_kept object order (addresses_for object order) fine.relocations_are k h)

  keeps : (f : Files) → length f.image ≡ 52 → Sound f.journal (length f.image) → count f.journal < 16 → 136 + held f.journal + 28 ≤ length f.journal
      → Rules object order f
  keeps f len is few room =
      record {
        journal_sound = is;
        order_well = order_well (class_of object) order fine.order_is;
        window_well = subst (WindowWell (address_width object) (base_for object order)) (sym len) (window_well (address_width object) (base_for object order) 52 fine.window_is);
        header_well = header_is;
        table_well = table_is;
        sections_well = λ i h. sections_are i (omega (arith, count_is));
        placements_match = λ i h. matches_are code i;
        externals_match = λ k h. externals_are code k;
        placed_well = λ i h.
            subst (λ n. PlacedIfAllocated object order n i) (sym len)
            (placed_well object (addresses_for object order) (base_for object order) 52 i
            (not-true _ (everywhere_at (λ j. not (misplaced object (addresses_for object order) (base_for object order) 52 j)) 6 fine.placed_are i (omega (arith, count_is)))));
        shapes = λ k h. shape_well_lem object (site object order k) (entry_of object order k) (tested k h).shape;
        symbols_resolve = λ k h. symbol_well_lem object order (addresses_for object order) (site object order k) (entry_of object order k) (tested k h).symbol;
        forms_are = λ k h. form_well_lem object (site object order k) (entry_of object order k) (tested k h).form;
        one_pair_each = λ k h. pair_well_lem object (site object order k) (entry_of object order k) (tested k h).pair;
        all_reach = λ k h. reach_well object (site object order k) (entry_of object order k) _ (tested k h).distance;
        on_boundaries = λ k h. boundary_well_lem object (site object order k) (entry_of object order k) (tested k h).boundary;
        room = record { entry_free = λ e. omega arith; bytes_free = λ s span. omega (arith, span_short s span) };
      }

-- an empty journal is sound
journal_is : Sound files.journal (length files.image)
unfolding files sound everywhere first entries tabulate entry total le_at le is_blank ends_within
journal_is = test_sound files.journal (length files.image) refl

-- each of the two could be the first
pub keeps₁ : Rules object order₁ files
unfolding files le_at le
keeps₁ = keeps 0x20000000 0 fine₁ files refl journal_is (omega arith) (omega arith)

pub keeps₂ : Rules object order₂ files
unfolding files le_at le
keeps₂ = keeps 0x20000020 24 fine₂ files refl journal_is (omega arith) (omega arith)

-- nothing stands at the start
start_is : Start files
unfolding files le_at le
start_is = record { allowed = omega arith; sound = journal_is; none = refl }

-- ---- the history of both installs, and of a taking-back after them

-- the two installs, as they stand in the history
stands₁ : Standing
stands₁ = record { object = object; order = order₁; pieces = plan_of object order₁ }

stands₂ : Standing
stands₂ = record { object = object; order = order₂; pieces = plan_of object order₂ }

abbrev only : List Standing → History
only standing = record { start = files.image; room = length files.journal; standing = standing }

-- the judgement of each is its plan, since every rule holds
left₁ : Done object order₁ files
left₁ = done_leaves object order₁ files (demand_2.holds_done object order₁ files keeps₁)

left₂ : Done object order₂ files
left₂ = done_leaves object order₂ files (demand_2.holds_done object order₂ files keeps₂)

-- each takes 28 bytes of the journal
takes₁ : (span_of (plan_of object order₁)).size ≡ 28
unfolding object order_with words bytes le le_at class_of part read_section section_at allocated loaded has_bytes addresses tabulate placed_at value_in external_value entry_at first sum pieces plan_of span_of end lowest relocated rela_of counting_rela site_at after applied sum_at distance_at is_pair how_many pair_of symbol_table symbol_count read_symbol symbol_at is_allocated of_entry of_section read_relocation relocation_at decision has_rvc table lookup among bytes_of patched symbol_value residue signed plus minus high low read put
takes₁ = refl

takes₂ : (span_of (plan_of object order₂)).size ≡ 28
unfolding object order_with words bytes le le_at class_of part read_section section_at allocated loaded has_bytes addresses tabulate placed_at value_in external_value entry_at first sum pieces plan_of span_of end lowest relocated rela_of counting_rela site_at after applied sum_at distance_at is_pair how_many pair_of symbol_table symbol_count read_symbol symbol_at is_allocated of_entry of_section read_relocation relocation_at decision has_rvc table lookup among bytes_of patched symbol_value residue signed plus minus high low read put
takes₂ = refl

stood₁ : stand (begin files) object order₁ (judgement object order₁ (length files.image)) ≡ succeed (only (stands₁ ∷ []))
unfolding stand stands₁ spans total files le_at le
stood₁ = rw (left₁.verdict_is, left₁.room_is)

stood₂ : stand (only (stands₁ ∷ [])) object order₂ (judgement object order₂ (length files.image)) ≡ succeed (only (stands₂ ∷ stands₁ ∷ []))
unfolding stand stands₁ stands₂ spans total no_room files
stood₂ = rw (left₂.verdict_is, takes₁, takes₂)

abbrev pub both : List Call
both = Install object order₁ ∷ Install object order₂ ∷ []

told₁ : history_of judgement files (Install object order₁ ∷ []) ≡ only (stands₁ ∷ [])
unfolding run told
told₁ = ap (λ o. o.after) stood₁

told₂ : history_of judgement files both ≡ only (stands₂ ∷ stands₁ ∷ [])
unfolding run told
told₂ = ap (λ o. (stand o.after object order₂ (judgement object order₂ (length o.after.start))).after) stood₁ ∙ ap (λ o. o.after) stood₂

told_back : history_of judgement files (both ++ Rollback ∷ []) ≡ only (stands₁ ∷ [])
unfolding run told fall
told_back = ap (λ h. (fall h h.standing).after) told₂

-- ---- the image, byte for byte: the code and the data of the first, and then the second, whose data lies over that of the first

unfoldable pub image₁ : List ℕ
image₁ = words (0x12346517 ∷ 0xFF850513 ∷ 0x00003097 ∷ 0x800080E7 ∷ 0xFE0508E3 ∷ 0xA5A5A5A5 ∷ 0x00000118 ∷ []) ++ replicate 24 0xA5

unfoldable pub image₂ : List ℕ
image₂ =
    words (0x12346517 ∷ 0xFF850513 ∷ 0x00003097 ∷ 0x800080E7 ∷ 0xFE0508E3 ∷ 0xA5A5A5A5 ∷ 0x000000F8 ∷ 0xA5A5A5A5 ∷ [])
    ++ words (0x12346517 ∷ 0xFD850513 ∷ 0x00002097 ∷ 0x7E0080E7 ∷ 0xFE0508E3 ∷ [])

lays₁ : overwritten files.image (plan_of object order₁) ≡ image₁
unfolding files image₁ object order_with words bytes le le_at class_of part read_section section_at allocated loaded has_bytes addresses tabulate placed_at value_in external_value entry_at first sum pieces plan_of overwritten relocated rela_of counting_rela site_at after applied sum_at distance_at is_pair how_many pair_of symbol_table symbol_count read_symbol symbol_at is_allocated of_entry of_section read_relocation relocation_at decision has_rvc table lookup among bytes_of patched symbol_value residue signed plus minus high low read put
lays₁ = refl

lays₂ : overwritten image₁ (plan_of object order₂) ≡ image₂
unfolding image₁ image₂ object order_with words bytes le le_at class_of part read_section section_at allocated loaded has_bytes addresses tabulate placed_at value_in external_value entry_at first sum pieces plan_of overwritten relocated rela_of counting_rela site_at after applied sum_at distance_at is_pair how_many pair_of symbol_table symbol_count read_symbol symbol_at is_allocated of_entry of_section read_relocation relocation_at decision has_rvc table lookup among bytes_of patched symbol_value residue signed plus minus high low read put
lays₂ = refl

-- ---- what is read by the manual's fields out of the code and the data of an install

pub record Says (code value : List ℕ) (apart near total : ℕ) : Type 0 where
  -- the two halves of the pair add up to the distance of the data + 0x12345FE0 from the code's start
  pub pair : residue 32 (signed 32 (read format_u (le_at 4 code 0)) +ℤ signed 12 (read format_i (le_at 4 code 4))) ≡ apart
  -- the two halves of the call add up to the function's distance
  pub call : residue 32 (signed 32 (read format_u (le_at 8 code 8)) +ℤ signed 12 (read format_i (le_at 8 code 8 / 2 ^ 32))) ≡ near
  -- the branch goes back to the code's start
  pub branch : signed 13 (read format_b (le_at 4 code 16)) ≡ neg_ℤ (pos 16)
  -- the data's word is what the object has there, plus the data's start, minus the code's start
  pub stack : read (layout (Data W32)) (le_at 4 value 0) ≡ total

-- the two halves of a pair add up, where it is known which relocation is the pair
pub halves_add : (object order before after : List ℕ) → Laid object order before after → (i j k : ℕ) → IsRelocation object order i j
    → (b : Rule) → decision_at object (site_of object order i) j ≡ Store b → b.calculation ≡ Of Low Paired
    → pair_of object (site_of object order i) (symbol object (site_of object order i) j).value ≡ Some k
    → AddUp (address_width object) U (bytes_at object order after i k 4) b.field (bytes_at object order after i j b.size) (distance_at object order (addresses_for object order) (site_of object order i) k)
halves_add object order before after l i j k is b d c pair =
    let halves = l.distances_whole i j is b d c in
    subst (λ n. AddUp (address_width object) U (bytes_at object order after i n 4) b.field (bytes_at object order after i j b.size) (distance_at object order (addresses_for object order) (site_of object order i) n)) (ap place (sym halves.2 ∙ pair)) halves.3
  where
    place : Option ℕ → ℕ
    place (Some n) = n
    place None = 0

-- what the table says about the type of its PCREL_LO12
abbrev pub low_half : Rule
low_half = record { calculation = Of Low Paired; field = I; form = LowI; size = 4; role = Plain }

-- demand 2 says so of each of the two, over any image
says₁ : (before after : List ℕ) → Laid object order₁ before after → Says (part after 0 20) (part after 24 4) 0x12345FF8 0x2800 0x118
unfolding object order_with words bytes le le_at class_of sum relocations_in counting_rela read_section section_at allocated is_allocated site_at read_relocation relocation_at symbol_table symbol_count read_symbol symbol_at of_entry of_section decision has_rvc table lookup among addresses tabulate placed_at value_in external_value entry_at first symbol_value bytes_of part residue signed plus minus is_pair how_many pair_of distance_at sum_at stack_at ReadsBack high low read
says₁ before after l =
    record {
      pair = halves_add object order₁ before after l 4 1 0 (record { there = omega arith; counts = refl; entry = omega arith }) low_half refl refl refl;
      call = (l.fields 4 2 (record { there = omega arith; counts = refl; entry = omega arith })).0;
      branch = (l.fields 4 3 (record { there = omega arith; counts = refl; entry = omega arith })).0.0;
      stack = (l.fields 5 1 (record { there = omega arith; counts = refl; entry = omega arith })).0;
    }

says₂ : (before after : List ℕ) → Laid object order₂ before after → Says (part after 32 20) (part after 24 4) 0x12345FD8 0x27E0 0xF8
unfolding object order_with words bytes le le_at class_of sum relocations_in counting_rela read_section section_at allocated is_allocated site_at read_relocation relocation_at symbol_table symbol_count read_symbol symbol_at of_entry of_section decision has_rvc table lookup among addresses tabulate placed_at value_in external_value entry_at first symbol_value bytes_of part residue signed plus minus is_pair how_many pair_of distance_at sum_at stack_at ReadsBack high low read
says₂ before after l =
    record {
      pair = halves_add object order₂ before after l 4 1 0 (record { there = omega arith; counts = refl; entry = omega arith }) low_half refl refl refl;
      call = (l.fields 4 2 (record { there = omega arith; counts = refl; entry = omega arith })).0;
      branch = (l.fields 4 3 (record { there = omega arith; counts = refl; entry = omega arith })).0.0;
      stack = (l.fields 5 1 (record { there = omega arith; counts = refl; entry = omega arith })).0;
    }

-- ---- what any two calls do that keep what is promised

pub record Witnessed (installs : InstallCall) (rollsBack : RollbackCall) : Type 0 where
  -- both installs are done: every rule of document 01 holds of the first, and of the second over what the first left
  pub rules₁ : Rules object order₁ files
  pub rules₂ : Rules object order₂ (run (calling installs rollsBack) files (Install object order₁ ∷ []))
  pub done_both : answers (calling installs rollsBack) files both ≡ done ∷ done ∷ []
  -- n is then 2, and the image is this one, byte for byte
  pub two_stand : count (run (calling installs rollsBack) files both).journal ≡ 2
  pub image_both : (run (calling installs rollsBack) files both).image ≡ image₂
  -- read by the manual's fields it says this: the code and the data of the second, and the code of the first with the data that it had
  pub says_second : Says (part (run (calling installs rollsBack) files both).image 32 20) (part (run (calling installs rollsBack) files both).image 24 4) 0x12345FD8 0x27E0 0xF8
  pub says_first : Says (part (run (calling installs rollsBack) files both).image 0 20) (part (run (calling installs rollsBack) files (Install object order₁ ∷ [])).image 24 4) 0x12345FF8 0x2800 0x118
  -- a taking-back is done, n is then 1, and the image is the one after the first install, byte for byte
  pub done_back : answers (calling installs rollsBack) files (both ++ Rollback ∷ []) ≡ done ∷ done ∷ done ∷ []
  pub one_stands : count (run (calling installs rollsBack) files (both ++ Rollback ∷ [])).journal ≡ 1
  pub image_back : (run (calling installs rollsBack) files (both ++ Rollback ∷ [])).image ≡ (run (calling installs rollsBack) files (Install object order₁ ∷ [])).image
  pub image_first : (run (calling installs rollsBack) files (Install object order₁ ∷ [])).image ≡ image₁

module _ (installs : InstallCall) (rollsBack : RollbackCall) (p : Promised installs rollsBack) where
  -- what is there after each of the three calls
  abbrev files₁ : Files
  files₁ = (installs object order₁ files).after

  abbrev files₂ : Files
  files₂ = (installs object order₂ files₁).after

  abbrev back : Files
  back = (rollsBack files₂).after

  -- demand 3, at each of these lists of calls
  after₁ : AsTold (only (stands₁ ∷ [])) files₁
  unfolding run calling
  after₁ = subst (λ h. AsTold h files₁) told₁ (p.every_list files (tt, tt) start_is (Install object order₁ ∷ []) ((tt, tt), tt)).holds.as_told

  after₂ : AsTold (only (stands₂ ∷ stands₁ ∷ [])) files₂
  unfolding run calling
  after₂ = subst (λ h. AsTold h files₂) told₂ (p.every_list files (tt, tt) start_is both ((tt, tt), ((tt, tt), tt))).holds.as_told

  after_back : AsTold (only (stands₁ ∷ [])) back
  unfolding run calling
  after_back = subst (λ h. AsTold h back) told_back (p.every_list files (tt, tt) start_is (both ++ Rollback ∷ []) ((tt, tt), ((tt, tt), (tt, tt)))).holds.as_told

  -- demand 2: the first is done, since every rule holds; and the second, over what the first left
  done₁ : (installs object order₁ files).answer ≡ done
  done₁ = p.each.demand_2.holds_done object order₁ files keeps₁

  then₂ : Rules object order₂ files₁
  unfolding spans total stands₁ files
  then₂ =
      keeps 0x20000020 24 fine₂ files₁ (p.each.demand_2.laid object order₁ files done₁).same_length after₁.still_sound (omega (arith, after₁.count_is))
      (omega (arith, after₁.held_is, takes₁, after₁.room_is))

  done₂ : (installs object order₂ files₁).answer ≡ done
  done₂ = p.each.demand_2.holds_done object order₂ files₁ then₂

  -- a taking-back is done if any fit stands
  done₃ : (rollsBack files₂).answer ≡ done
  unfolding run calling
  done₃ =
      (p.every_list files (tt, tt) start_is both ((tt, tt), ((tt, tt), tt))).holds.done_if_some
      (λ none. omega (arith, ap (λ xs. length xs) (sym (ap (λ h. h.standing) told₂) ∙ none)))

  -- the images
  image_is₁ : files₁.image ≡ image₁
  unfolding laid stands₁
  image_is₁ = after₁.image_is ∙ lays₁

  image_is₂ : files₂.image ≡ image₂
  unfolding laid stands₁ stands₂
  image_is₂ = after₂.image_is ∙ ap (λ s. overwritten s (plan_of object order₂)) lays₁ ∙ lays₂

  -- the second install leaves the code of the first
  code_stays : part files₁.image 0 20 ≡ part files₂.image 0 20
  unfolding image₁ image₂ words bytes part
  code_stays = ap (λ s. part s 0 20) image_is₁ ∙ ap (λ s. part s 0 20) (sym image_is₂)

  pub witnessed : Witnessed installs rollsBack
  unfolding run calling answers
  witnessed =
      record {
        rules₁ = keeps₁;
        rules₂ = then₂;
        done_both = rw (done₁, done₂);
        two_stand = after₂.count_is;
        image_both = image_is₂;
        says_second = says₂ files₁.image files₂.image (p.each.demand_2.laid object order₂ files₁ done₂);
        says_first = subst (λ s. Says s (part files₁.image 24 4) 0x12345FF8 0x2800 0x118) code_stays (says₁ files.image files₁.image (p.each.demand_2.laid object order₁ files done₁));
        done_back = rw (done₁, done₂, done₃);
        one_stands = after_back.count_is;
        image_back = after_back.image_is ∙ sym after₁.image_is;
        image_first = image_is₁;
      }

-- and our two calls do so
pub ours_witnessed : Witnessed our_install our_rollback
ours_witnessed = witnessed our_install our_rollback ours_keep
