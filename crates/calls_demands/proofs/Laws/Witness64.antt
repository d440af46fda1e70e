-- An install of an object of class 2 above 2^32, and its taking-back, so that the demands are not empty there either: a paired high and low
-- half whose distance is negative, and a word of 64 bits above 2^63. What follows holds of any two calls that keep what is promised, and of
-- ours.
use Rattle.std.specs.Prelude.{Ok}
use mathlib.Core.Path.{◌≡◌, refl, sym, ap, ◌∙◌}
use mathlib.Core.Bool.{false, not, ◌&&◌}
use mathlib.Core.List.{List, [], ◌∷◌, ◌++◌}
use Prim.Native.Nat.{ℕ, zero, suc, ◌^◌}
use native.Mathlib.Omega.{arith}
use lib.ListN.{length, replicate}
use borrow.Author.Tests.{ne_eqb, le-ltb}
use Rattle.numbers_definitions.specs.declared.Class.TheVariants.{Elf64}
use Rattle.numbers_definitions.specs.Bytes.{le, le_at, bytes, part}
use Rattle.numbers_definitions.specs.First.{first, everywhere, tabulate}
use Rattle.numbers_definitions.specs.Sums.{sum}
use Rattle.numbers_definitions.specs.Powers.{one_bit}
use Rattle.numbers_definitions.specs.Whole.{residue, signed, within, even, plus, minus}
use Rattle.instructions_fields.specs.declared.Width.TheVariants.{W64}
use Rattle.instructions_fields.specs.declared.Field.TheVariants.{U, I, Data}
use Rattle.instructions_fields.specs.Layouts.{read, put}
use Rattle.instructions_fields.specs.Fields.{layout}
use Rattle.instructions_riscv.specs.Halves.{high, low}
use Rattle.instructions_riscv.specs.Forms.{has_form}
use Rattle.instructions_riscv.specs.Ranges.{reaches, keeps_alignment}
use Rattle.relocations_types.specs.Types.{table, among, lookup, decision}
use Rattle.elf_read.specs.Headers.{class_of, has_rvc}
use Rattle.elf_read.specs.Sections.{read_section, section_at, allocated, loaded, symbol_table, counting_rel, counting_rela, relocations_in, is_allocated}
use Rattle.elf_read.specs.Entries.{read_symbol, read_relocation, bytes_of, symbol_count, symbol_at, relocation_at, location_of}
use Rattle.elf_header.specs.Headers.{header_allowed, table_allowed}
use Rattle.elf_check.specs.Rules.{starts_null, inside_file, allocated_well, symbol_table_well, no_counting_rel, rela_kept, rela_well, relocations_kept, relocations_well, section_well, section_check}
use Rattle.order_format.specs.Orders.{entry_at, ascending, well_formed}
use Rattle.order_format.specs.Windows.{length_allowed, window_allowed}
use Rattle.order_lookup.specs.Values.{is_given, value_in, external_value}
use Rattle.order_lookup.specs.Addresses.{placed_at, addresses}
use Rattle.journal_format.specs.Journals.{count, entry, entries, total, is_blank, ends_within, sound, no_room}
use Rattle.plan_pieces.specs.Plans.{plan, overwritten, end, lowest as lowestOf, span_of}
use Rattle.plan_pieces.specs.Answers.{done}
use Rattle.journal_history.specs.Calls.{Files, succeed, Install, Rollback, InstallCall, RollbackCall, install, settle, calling, run}
use Rattle.journal_history.specs.Histories.{begin, spans, laid, stand, fall, told, Start}
use Rattle.placing_match.specs.Placements.{lowest, differs, placement_check}
use Rattle.placing_match.specs.Externals.{is_undefined, external_check}
use Rattle.placing_match.proofs.Laws.Lowest.{lowest_nowhere}
use Rattle.placing_check.specs.Placing.{end_of, unit, aligned, ends_in_memory, has_bytes, in_window, share, apart, misplaced, placing_check}
use Rattle.placing_symbols.specs.Values.{of_section, of_entry, symbol_value}
use Rattle.relocations_rela.specs.Sites.{site_at}
use Rattle.relocations_rela.specs.Shape.{never_falls, stays_inside, previous, shares_place, no_overlap, shape_well}
use Rattle.relocations_values.specs.Pairs.{is_pair, how_many, pair_of}
use Rattle.relocations_rules.specs.Rules.{in_target, symbol_well, stands_well, form_well, pair_well}
use Rattle.relocations_rules.specs.Search.{first_broken, finding, finding_of, relocation_check}
use Rattle.relocations_bytes.specs.Patches.{patched}
use Rattle.relocations_bytes.specs.Sections.{sum_at, distance_at, rela_of, relocated, applied, after}
use Rattle.relocations_bytes.specs.Promises.{ReadsBack, AddUp}
use Rattle.relocations_bytes.proofs.Laws.Bench.{words, doubles}
use Rattle.placing_span.specs.Pieces.{pieces}
use Rattle.calls_judgement.specs.Judgement.{plan_of, judgement}
use Rattle.calls_demands.specs.Rules.{Rules}
use Rattle.calls_demands.specs.Laid.{Laid}
use Rattle.calls_demands.specs.Demands.{Promised}
use Rattle.calls_demands.specs.Ours.{our_install, our_rollback}
use Rattle.calls_demands.proofs.Laws.Demands.{demand_2}
use Rattle.calls_demands.proofs.Laws.Promised.{ours_keep}
use Rattle.calls_demands.proofs.Laws.Witness.{halves_add, low_half}

-- ---- the object and the order

unfoldable pub object : List ℕ
object =
    -- the header
    words (0x464C457F ∷ 0x00010102 ∷ 0 ∷ 0 ∷ 0x00F30001 ∷ 1 ∷ [])
    ++ doubles (0 ∷ 0 ∷ 256 ∷ [])
    ++ words (0 ∷ 64 ∷ 0x00400000 ∷ 4 ∷ [])
    -- section 1, code: auipc a0, 0; addi a1, a0, 0; addiw a2, a0, 0; nop; and a word of 64 bits
    ++ words (0x00000517 ∷ 0x00050593 ∷ 0x0005061B ∷ 0x00000013 ∷ 0 ∷ 0 ∷ [])
    -- section 2, the symbol table: symbol 0, the code's start, an undefined variable
    ++ doubles (0 ∷ 0 ∷ 0 ∷ [])
    ++ doubles (0x0001000000000000 ∷ 0 ∷ 0 ∷ [])
    ++ doubles (0x0000001000000000 ∷ 0 ∷ 0 ∷ [])
    -- section 3, relocations of the code: PCREL_HI20 of the variable, two PCREL_LO12_I of the code's start, where that one is, and a word64 of
    -- the code's start + 0x8000000000001234
    ++ doubles (0 ∷ 0x0000000200000017 ∷ 0 ∷ [])
    ++ doubles (4 ∷ 0x0000000100000018 ∷ 0 ∷ [])
    ++ doubles (8 ∷ 0x0000000100000018 ∷ 0 ∷ [])
    ++ doubles (16 ∷ 0x0000000100000002 ∷ 0x8000000000001234 ∷ [])
    -- the section header table: NULL, PROGBITS, SYMTAB, RELA
    ++ doubles (0 ∷ 0 ∷ 0 ∷ 0 ∷ 0 ∷ 0 ∷ 0 ∷ 0 ∷ [])
    ++ (words (0 ∷ 1 ∷ []) ++ doubles (6 ∷ 0 ∷ 64 ∷ 24 ∷ []) ++ words (0 ∷ 0 ∷ []) ++ doubles (8 ∷ 0 ∷ []))
    ++ (words (0 ∷ 2 ∷ []) ++ doubles (0 ∷ 0 ∷ 88 ∷ 72 ∷ []) ++ words (0 ∷ 2 ∷ []) ++ doubles (8 ∷ 24 ∷ []))
    ++ (words (0 ∷ 4 ∷ []) ++ doubles (0 ∷ 0 ∷ 160 ∷ 96 ∷ []) ++ words (2 ∷ 1 ∷ []) ++ doubles (8 ∷ 24 ∷ []))

-- the window at 0x4000000000, the code at 0x4000000008, and the variable at 0x3F87655007, which is 0x789AB001 below the code
unfoldable pub order : List ℕ
order = words (1 ∷ []) ++ doubles (0x4000000000 ∷ []) ++ words (1 ∷ 1 ∷ []) ++ doubles (0x4000000008 ∷ []) ++ words (1 ∷ 2 ∷ []) ++ doubles (0x3F87655007 ∷ [])

-- an image of 40 bytes, and a journal with exactly enough room for the code
unfoldable pub files : Files
files = record { image = replicate 40 0xA5; journal = replicate 160 0 }

-- ---- every rule holds

-- checks 6 and 7 at each number: section 1 is allocated and placed, and no other number is; symbol 2 is undefined and has a value
matches_are : (i : ℕ) → differs object order i ≡ false
unfolding object order words doubles bytes le_at le class_of read_section section_at allocated is_allocated placed_at value_in entry_at first differs
matches_are zero = refl
matches_are (suc zero) = refl
matches_are (suc (suc zero)) = refl
matches_are (suc (suc (suc zero))) = refl
matches_are (suc (suc (suc (suc i)))) =
    let k : ℕ = suc (suc (suc (suc i))) in
    rw (ne_eqb 1 k (λ e. omega arith), le-ltb k 4 (omega arith))

externals_are : (k : ℕ) → (is_given (external_value (class_of object) order k) && not (is_undefined object k)) ≡ false
unfolding object order words doubles bytes le_at le class_of read_section section_at external_value value_in entry_at first is_undefined symbol_table symbol_count read_symbol symbol_at
externals_are zero = refl
externals_are (suc zero) = refl
externals_are (suc (suc zero)) = refl
externals_are (suc (suc (suc k))) = rw (ne_eqb 2 (suc (suc (suc k))) (λ e. omega arith))

placements_match : placement_check object order ≡ Ok tt
unfolding placement_check
placements_match = lowest_nowhere (differs object order) (2 ^ 32) (λ i h. matches_are i)

externals_match : external_check object order ≡ Ok tt
unfolding external_check
externals_match = lowest_nowhere (λ k. is_given (external_value (class_of object) order k) && not (is_undefined object k)) (2 ^ 32) (λ k h. externals_are k)

-- so the judgement is the plan: the other checks are computed
judged : judgement object order 40 ≡ plan (plan_of object order)
unfolding judgement object order words doubles bytes le_at le class_of header_allowed table_allowed section_check section_well starts_null inside_file allocated_well symbol_table_well no_counting_rel rela_kept rela_well relocations_kept relocations_well one_bit counting_rel well_formed ascending everywhere first entry_at window_allowed length_allowed read_section section_at allocated placed_at value_in external_value symbol_table symbol_count read_symbol symbol_at is_allocated placing_check lowest misplaced aligned unit ends_in_memory end_of in_window has_bytes loaded share apart addresses tabulate sum relocations_in location_of counting_rela site_at read_relocation relocation_at bytes_of part decision has_rvc table lookup among never_falls stays_inside previous shares_place no_overlap shape_well of_entry of_section symbol_value in_target symbol_well has_form stands_well form_well is_pair how_many pair_of pair_well reaches keeps_alignment within even residue signed plus minus finding first_broken finding_of relocation_check
judged = rw (placements_match, externals_match)

-- the plan takes 24 bytes of the journal
takes : (span_of (plan_of object order)).size ≡ 24
unfolding object order words doubles bytes le le_at class_of part read_section section_at allocated loaded has_bytes addresses tabulate placed_at value_in external_value entry_at first sum pieces plan_of span_of end lowestOf relocated rela_of counting_rela site_at after applied sum_at distance_at is_pair how_many pair_of symbol_table symbol_count read_symbol symbol_at is_allocated of_entry of_section read_relocation relocation_at decision has_rvc table lookup among bytes_of patched symbol_value residue signed plus minus high low read put
takes = refl

-- so our install is done, and demand 2 says that every rule then holds
pub keeps_64 : Rules object order files
unfolding install settle files sound everywhere first entries tabulate entry total le_at le is_blank ends_within no_room
keeps_64 = demand_2.done_holds object order files (rw (judged, takes))

-- ---- the history of the install, and of its taking-back

-- nothing stands at the start
start_is : Start files
unfolding files le_at le
start_is = record { allowed = omega arith; sound = keeps_64.journal_sound; none = refl }

-- then the install alone stands
stood : stand (begin files) object order (judgement object order (length files.image))
    ≡ succeed (record { start = files.image; room = length files.journal; standing = record { object = object; order = order; pieces = plan_of object order } ∷ [] })
unfolding stand spans total no_room files
stood = rw (judged, takes)

-- ---- the image, byte for byte: what was there, the code, and what was there

unfoldable pub image_64 : List ℕ
image_64 =
    replicate 8 0xA5
    ++ words (0x87655517 ∷ 0xFFF50593 ∷ 0xFFF5061B ∷ 0x00000013 ∷ [])
    ++ doubles (0x800000400000123C ∷ [])
    ++ replicate 8 0xA5

lays : overwritten files.image (plan_of object order) ≡ image_64
unfolding files image_64 object order words doubles bytes le le_at class_of part read_section section_at allocated loaded has_bytes addresses tabulate placed_at value_in external_value entry_at first sum pieces plan_of overwritten relocated rela_of counting_rela site_at after applied sum_at distance_at is_pair how_many pair_of symbol_table symbol_count read_symbol symbol_at is_allocated of_entry of_section read_relocation relocation_at decision has_rvc table lookup among bytes_of patched symbol_value residue signed plus minus high low read put
lays = refl

-- ---- what is read by the manual's fields out of the code

pub record Says (code : List ℕ) : Type 0 where
  -- AUIPC's number, extended by its sign, and that of ADDI add up to T - P modulo 2^64, where T is the variable and P the code's start. Here
  -- T - P is -0x789AB001.
  pub pair : AddUp 64 U (le_at 4 code 0) I (le_at 4 code 4) (minus 64 0x3F87655007 0x4000000008)
  -- so do those of AUIPC and ADDIW, which only class 2 has
  pub pair_w : AddUp 64 U (le_at 4 code 0) I (le_at 4 code 8) (minus 64 0x3F87655007 0x4000000008)
  -- the word of 64 bits is the code's start + 0x8000000000001234
  pub word : read (layout (Data W64)) (le_at 8 code 16) ≡ 0x800000400000123C

-- demand 2 says so, over any image
says : (before after : List ℕ) → Laid object order before after → Says (part after 8 24)
unfolding object order words doubles bytes le le_at class_of sum relocations_in counting_rela read_section section_at allocated is_allocated site_at read_relocation relocation_at symbol_table symbol_count read_symbol symbol_at of_entry of_section decision has_rvc table lookup among addresses tabulate placed_at value_in external_value entry_at first symbol_value bytes_of part residue signed plus minus is_pair how_many pair_of distance_at sum_at ReadsBack high low read
says before after l =
    record {
      pair = halves_add object order before after l 3 1 0 (record { there = omega arith; counts = refl; entry = omega arith }) low_half refl refl refl;
      pair_w = halves_add object order before after l 3 2 0 (record { there = omega arith; counts = refl; entry = omega arith }) low_half refl refl refl;
      word = (l.fields 3 3 (record { there = omega arith; counts = refl; entry = omega arith })).0;
    }

-- ---- what any two calls do that keep what is promised

pub record Witnessed64 (installs : InstallCall) (rollsBack : RollbackCall) : Type 0 where
  -- the object is of class 2, and every rule holds, so that the install is done
  pub class_2 : class_of object ≡ Elf64
  pub rules : Rules object order files
  pub is_done : (installs object order files).answer ≡ done
  -- n is then 1, and the image is this one, byte for byte; read by the manual's fields it says this
  pub one_stands : count (installs object order files).after.journal ≡ 1
  pub image_is : (installs object order files).after.image ≡ image_64
  pub says_it : Says (part (installs object order files).after.image 8 24)
  -- a taking-back is done, n is then 0, and the image is the starting image, byte for byte
  pub done_back : (rollsBack (installs object order files).after).answer ≡ done
  pub none_stands_lem : count (rollsBack (installs object order files).after).after.journal ≡ 0
  pub image_back : (rollsBack (installs object order files).after).after.image ≡ files.image

pub witnessed_64 : (installs : InstallCall) (rollsBack : RollbackCall) → Promised installs rollsBack → Witnessed64 installs rollsBack
unfolding object words bytes le_at le class_of run calling told fall laid
witnessed_64 installs rollsBack p =
    let fit = (p.every_list files (tt, tt) start_is (Install object order ∷ []) ((tt, tt), tt)).holds in
    let both = (p.every_list files (tt, tt) start_is (Install object order ∷ Rollback ∷ []) ((tt, tt), (tt, tt))).holds in
    let d : (installs object order files).answer ≡ done = p.each.demand_2.holds_done object order files keeps_64 in
    record {
      class_2 = refl;
      rules = keeps_64;
      is_done = d;
      one_stands = fit.as_told.count_is ∙ ap (λ o. length o.after.standing) stood;
      image_is = fit.as_told.image_is ∙ ap (λ o. laid o.after.start o.after.standing) stood ∙ lays;
      says_it = says files.image (installs object order files).after.image (p.each.demand_2.laid object order files d);
      done_back = fit.done_if_some (λ none. omega (arith, ap (λ xs. length xs) (sym (ap (λ o. o.after.standing) stood) ∙ none)));
      none_stands_lem = both.as_told.count_is ∙ ap (λ o. length (fall o.after o.after.standing).after.standing) stood;
      image_back = both.as_told.image_is ∙ ap (λ o. laid (fall o.after o.after.standing).after.start (fall o.after o.after.standing).after.standing) stood;
    }

-- and our two calls do so
pub ours_witnessed_64 : Witnessed64 our_install our_rollback
ours_witnessed_64 = witnessed_64 our_install our_rollback ours_keep
