-- A small install that keeps every rule of document 01, so that the demands are not empty.
use mathlib.Core.Path.{◌≡◌, refl, sym, subst}
use mathlib.Core.List.{List, [], ◌∷◌, ◌++◌}
use Prim.Native.Nat.{ℕ, zero, suc, ◌+◌, ◌-◌, ◌≤◌, ◌<◌}
use native.Mathlib.Omega.{arith}
use native.Mathlib.Decide.{dec_lt}
use lib.ListN.{length, replicate}
use borrow.Author.Tests.{ne_eqb, le-ltb}
use Rattle.numbers_definitions.proofs.Laws.Tests.{never}
use Rattle.numbers_definitions.specs.Bytes.{le, le_at, bytes}
use Rattle.numbers_definitions.specs.First.{first, everywhere, tabulate}
use Rattle.numbers_definitions.specs.Sums.{sum}
use Rattle.numbers_definitions.specs.Powers.{one_bit}
use Rattle.elf_read.specs.Headers.{class_of, has_rvc, address_width, section_count}
use Rattle.elf_read.specs.Sections.{read_section, section_at, allocated, loaded, symbol_table, is_allocated, counting_rel, counting_rela, relocations_in}
use Rattle.elf_read.specs.Entries.{read_relocation, relocation_at, relocation_count, location_of}
use Rattle.elf_header.specs.Headers.{header_allowed, table_allowed}
use Rattle.elf_check.specs.Rules.{starts_null, inside_file, allocated_well, symbol_table_well, no_counting_rel, rela_kept, rela_well, relocations_kept, relocations_well, section_well}
use Rattle.elf_check.specs.Sound.{SoundSection}
use Rattle.elf_check.proofs.Laws.Objects.{section_sound}
use Rattle.order_format.specs.Orders.{entry_at, ascending, well_formed}
use Rattle.order_lookup.specs.Values.{value_in, external_value}
use Rattle.order_format.specs.Windows.{length_allowed, window_allowed}
use Rattle.order_lookup.specs.Addresses.{placed_at, addresses, addresses_for, base_for}
use Rattle.journal_format.specs.Journals.{entry, entries, total, is_blank, ends_within, sound, Sound}
use Rattle.journal_history.specs.Calls.{Files}
use Rattle.journal_format.proofs.Laws.Sound.{test_sound}
use Rattle.placing_check.specs.Placing.{end_of, unit, aligned, ends_in_memory, has_bytes, in_window, share, apart, misplaced}
use Rattle.placing_symbols.specs.Values.{symbol_value}
use Rattle.relocations_types.specs.Types.{table, among, lookup, decision}
use Rattle.relocations_rela.specs.Sites.{site_at}
use Rattle.relocations_rela.specs.Shape.{never_falls, stays_inside, previous, no_overlap, shape_well}
use Rattle.relocations_rules.specs.Rules.{symbol_well, stands_well, form_well, pair_well}
use Rattle.calls_demands.specs.Rules.{Rules, OrderWell, WindowWell, HeaderWell, TableWell, PlacedAsAllocated, ValuedIfUndefined, PlacedIfAllocated, site, entry_of, Shape, SymbolResolves, FormIs, OnePair, Reaches, OnBoundary, Room}
use Rattle.plan_pieces.specs.declared.Span.{Span}
use Rattle.calls_demands.specs.Laid.{Covers, IsSpan}
use Rattle.calls_demands.proofs.Laws.Rules.{order_well, window_well, header_well, table_well, placed_well}
use Rattle.calls_demands.proofs.Laws.Relocations.{shape_well_lem, form_well_lem, pair_well_lem, reach_well, boundary_well_lem}
use Rattle.calls_demands.proofs.Laws.Symbols.{symbol_well_lem}

-- ---- an install that can be done: a section of four bytes with one relocation of type 1, whose T is 0x12345678

unfoldable pub words : List ℕ → List ℕ
words [] = []
words (w ∷ ws) = bytes 4 w ++ words ws

unfoldable pub object : List ℕ
object =
    -- the header
    words (0x464C457F ∷ 0x00010101 ∷ 0 ∷ 0 ∷ 0x00F30001 ∷ 1 ∷ 0 ∷ 0 ∷ 84 ∷ 0 ∷ 52 ∷ 0x00280000 ∷ 4 ∷ [])
    -- the section, the symbol table, the relocation
    ++ words (0 ∷ 0 ∷ 0 ∷ 0 ∷ 0 ∷ 0 ∷ 1 ∷ 0x12345678 ∷ [])
    -- the section header table: NULL, PROGBITS, SYMTAB, RELA
    ++ words (0 ∷ 0 ∷ 0 ∷ 0 ∷ 0 ∷ 0 ∷ 0 ∷ 0 ∷ 0 ∷ 0 ∷ [])
    ++ words (0 ∷ 1 ∷ 2 ∷ 0 ∷ 52 ∷ 4 ∷ 0 ∷ 0 ∷ 4 ∷ 0 ∷ [])
    ++ words (0 ∷ 2 ∷ 0 ∷ 0 ∷ 56 ∷ 16 ∷ 0 ∷ 1 ∷ 4 ∷ 16 ∷ [])
    ++ words (0 ∷ 4 ∷ 0 ∷ 0 ∷ 72 ∷ 12 ∷ 2 ∷ 1 ∷ 4 ∷ 12 ∷ [])

-- section 1 at 0x20000000, where the window starts
unfoldable pub order : List ℕ
order = words (1 ∷ 0x20000000 ∷ 1 ∷ 1 ∷ 0x20000000 ∷ 0 ∷ [])

-- an image of four bytes, and a journal with room for them
unfoldable pub files : Files
files = record { image = replicate 4 0xA5; journal = replicate 140 0 }

pub journal_is : Sound files.journal (length files.image)
unfolding files sound everywhere first entries tabulate entry total le_at le class_of is_blank ends_within
journal_is = test_sound files.journal (length files.image) refl

order_is : OrderWell (class_of object) order
unfolding object order words bytes well_formed ascending everywhere first le_at le class_of entry_at
order_is = order_well (class_of object) order refl

pub header_is : HeaderWell object
unfolding object words bytes header_allowed le_at le class_of
header_is = header_well object refl

pub table_is : TableWell object
unfolding object words bytes table_allowed le_at le class_of
table_is = table_well object refl

window_is : WindowWell (address_width object) (base_for object order) (length files.image)
unfolding object order files words bytes window_allowed length_allowed le_at le class_of
window_is = window_well (address_width object) (base_for object order) (length files.image) refl

-- the section header table has four entries
count_is : section_count object ≡ 4
unfolding object words bytes le_at le class_of
count_is = refl

pub sections_are : (i : ℕ) → i < 4 → SoundSection object i
unfolding object words bytes le_at le class_of section_well starts_null inside_file allocated_well symbol_table_well no_counting_rel rela_kept rela_well relocations_kept relocations_well read_section section_at allocated loaded symbol_table is_allocated counting_rel counting_rela relocations_in first everywhere sum one_bit
sections_are zero h = section_sound object 0 refl
sections_are (suc zero) h = section_sound object 1 refl
sections_are (suc (suc zero)) h = section_sound object 2 refl
sections_are (suc (suc (suc zero))) h = section_sound object 3 refl
sections_are (suc (suc (suc (suc i)))) h = absurd (omega arith)

-- section 1 is allocated and placed, and no other number is
matches_are : (i : ℕ) → PlacedAsAllocated object order i
unfolding object order words bytes le_at le class_of read_section section_at allocated is_allocated placed_at value_in entry_at first
matches_are zero = refl
matches_are (suc zero) = refl
matches_are (suc (suc zero)) = refl
matches_are (suc (suc (suc zero))) = refl
matches_are (suc (suc (suc (suc i)))) = rw (ne_eqb 1 (suc (suc (suc (suc i)))) (λ e. omega arith), le-ltb (suc (suc (suc (suc i)))) 4 (omega arith))

externals_are : (k : ℕ) → ValuedIfUndefined object order k
unfolding object order words bytes le_at le class_of external_value value_in first
externals_are k e = never e

-- section 1 stands at the window's start, and keeps every rule of placing
placed_are : (i : ℕ) → i < 4 → PlacedIfAllocated object order (length files.image) i
unfolding object order files words bytes le_at le class_of read_section section_at allocated misplaced aligned unit ends_in_memory end_of in_window has_bytes loaded share apart everywhere first addresses tabulate placed_at value_in entry_at
placed_are zero h a = never a
placed_are (suc zero) h a = placed_well object (addresses_for object order) (base_for object order) (length files.image) 1 refl a
placed_are (suc (suc zero)) h a = never a
placed_are (suc (suc (suc zero))) h a = never a
placed_are (suc (suc (suc (suc i)))) h a = absurd (omega arith)

-- there is one relocation, and it breaks no rule
relocations_are : relocation_count object ≡ 1
unfolding object words bytes le_at le class_of sum relocations_in counting_rela is_allocated read_section section_at allocated
relocations_are = refl

shape_is : Shape object order 0
unfolding object order words bytes le_at le class_of sum relocations_in location_of counting_rela is_allocated read_section section_at allocated site_at read_relocation relocation_at decision has_rvc table lookup among shape_well never_falls stays_inside no_overlap previous first addresses tabulate placed_at value_in entry_at
shape_is = shape_well_lem object (site object order 0) (entry_of object order 0) refl

symbol_is : SymbolResolves object order 0
unfolding object order words bytes le_at le class_of sum relocations_in location_of counting_rela is_allocated read_section section_at allocated site_at read_relocation relocation_at decision has_rvc table lookup among symbol_well symbol_value first addresses tabulate placed_at value_in entry_at
symbol_is = symbol_well_lem object order (addresses_for object order) (site object order 0) (entry_of object order 0) refl

form_is : FormIs object order 0
unfolding object order words bytes le_at le class_of sum relocations_in location_of counting_rela is_allocated read_section section_at allocated site_at read_relocation relocation_at decision has_rvc table lookup among form_well stands_well first addresses tabulate placed_at value_in entry_at
form_is = form_well_lem object (site object order 0) (entry_of object order 0) refl

pair_is : OnePair object order 0
unfolding object order words bytes le_at le class_of sum relocations_in location_of counting_rela is_allocated read_section section_at allocated site_at read_relocation relocation_at decision has_rvc table lookup among pair_well first addresses tabulate placed_at value_in entry_at
pair_is = pair_well_lem object (site object order 0) (entry_of object order 0) refl

reach_is : Reaches object order 0
unfolding object order words bytes le_at le class_of sum relocations_in location_of counting_rela is_allocated read_section section_at allocated site_at read_relocation relocation_at decision has_rvc table lookup among first addresses tabulate placed_at value_in entry_at
reach_is = reach_well object (site object order 0) (entry_of object order 0) _ refl

boundary_is : OnBoundary object order 0
unfolding object order words bytes le_at le class_of sum relocations_in location_of counting_rela is_allocated read_section section_at allocated site_at read_relocation relocation_at decision has_rvc table lookup among first addresses tabulate placed_at value_in entry_at
boundary_is = boundary_well_lem object (site object order 0) (entry_of object order 0) refl

-- the section's four bytes are all that is laid
only_laid : (t b : ℕ) → Covers object order t b → b < 4
unfolding object order words bytes le_at le class_of read_section section_at allocated loaded has_bytes addresses tabulate placed_at value_in entry_at first
only_laid zero b c = never c.loaded
only_laid (suc zero) b c = omega (arith, c.to)
only_laid (suc (suc zero)) b c = never c.loaded
only_laid (suc (suc (suc zero))) b c = never c.loaded
only_laid (suc (suc (suc (suc t)))) b c = absurd (omega (arith, c.there, count_is))

room_is : Room object order files.journal
unfolding files le_at le class_of
room_is = record { entry_free = λ e. omega (arith, e); bytes_free = λ s is. go s is (dec_lt 0 s.size) }
  where
    go : (s : Span) → IsSpan object order s → Dec (0 < s.size) → 136 + 0 + s.size ≤ 140
    go s is (yes some) = omega (arith, only_laid (is.last_laid some).0 (s.start + s.size - 1) (is.last_laid some).1)
    go s is (no none) = omega arith

only_one : (P : ℕ → Type 0) → P 0 → (k : ℕ) → k < relocation_count object → P k
only_one P p k h = let zero-th : k ≡ 0 = omega (arith, relocations_are) in subst P (sym zero-th) p

-- every rule holds, so demand 2 does ask for something
pub keeps_all : Rules object order files
keeps_all =
    record {
      journal_sound = journal_is;
      order_well = order_is;
      window_well = window_is;
      header_well = header_is;
      table_well = table_is;
      sections_well = λ i h. sections_are i (omega (arith, count_is));
      placements_match = λ i h. matches_are i;
      externals_match = λ k h. externals_are k;
      placed_well = λ i h. placed_are i (omega (arith, count_is));
      shapes = only_one (Shape object order) shape_is;
      symbols_resolve = only_one (SymbolResolves object order) symbol_is;
      forms_are = only_one (FormIs object order) form_is;
      one_pair_each = only_one (OnePair object order) pair_is;
      all_reach = only_one (Reaches object order) reach_is;
      on_boundaries = only_one (OnBoundary object order) boundary_is;
      room = room_is;
    }
