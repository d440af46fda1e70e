-- Every rule of document 01 as a proposition, in the order of the numbers of "When the fitter says no".
use Rattle.std.specs.Prelude.{◌⊎◌, ◌≡◌, Bool, true, false, List, ℕ, suc, ◌+◌, ◌*◌, ◌/◌, ◌%◌, ◌^◌, ◌≤◌, ◌<◌, length, get_or, ℤ, pos, negsuc, nat_abs, Some}
use Rattle.numbers_definitions.specs.Bytes.{le_at}
use Rattle.numbers_definitions.specs.declared.Class.{Class}
use Rattle.numbers_definitions.specs.declared.Class.TheVariants.{Elf32, Elf64}
use Rattle.numbers_definitions.specs.Whole.{signed, minus}
use Rattle.numbers_definitions.specs.Powers.{ceil_power}
use Rattle.instructions_fields.specs.declared.Field.{Field}
use Rattle.instructions_riscv.specs.Forms.{has_form}
use Rattle.instructions_riscv.specs.declared.ranges.Range.{Range}
use Rattle.instructions_riscv.specs.Ranges.{distance, range_of}
use Rattle.relocations_types.specs.declared.Calculation.{Calculation}
use Rattle.relocations_types.specs.declared.Calculation.TheVariants.{Of, Add, Sub, Set}
use Rattle.relocations_types.specs.declared.Operand.{Operand}
use Rattle.relocations_types.specs.declared.Operand.TheVariants.{Absolute, PcRelative, Paired}
use Rattle.relocations_types.specs.declared.Part.{Part}
use Rattle.relocations_types.specs.declared.Part.TheVariants.{Whole, Distance, High, Low, BothHalves}
use Rattle.relocations_types.specs.declared.Rule.{Rule}
use Rattle.relocations_types.specs.declared.Decision.TheVariants.{Align, Store}
use Rattle.numbers_definitions.specs.Classes.{by, bits, address_bytes}
use Rattle.elf_read.specs.Headers.{class_of, has_rvc, address_width, header_size, section_size, section_table, section_count, max_sections}
use Rattle.elf_read.specs.Sections.{section_at, allocated, is_allocated, symbol_table}
use Rattle.elf_read.specs.Entries.{symbol_at, symbol_count, relocation_count, location_of}
use Rattle.elf_header.specs.Headers.{max_object}
use Rattle.elf_check.specs.Sound.{SoundSection}
use Rattle.order_format.specs.Orders.{max_placements, max_externals, placement_count, placement, externals_start, external_count, external}
use Rattle.order_format.specs.Windows.{max_image}
use Rattle.order_lookup.specs.Values.{is_given, external_value}
use Rattle.order_lookup.specs.Addresses.{placed_at, addresses_for, base_for}
use Rattle.journal_format.specs.Journals.{max_entries, old_at, count as count_of, held, Sound}
use Rattle.plan_pieces.specs.declared.Span.{Span}
use Rattle.journal_history.specs.Calls.{Files}
use Rattle.placing_check.specs.Placing.{end_of, unit, has_bytes}
use Rattle.relocations_rela.specs.declared.sites.Site.{Site}
use Rattle.relocations_rela.specs.Sites.{site_at, count, entry, decision_at, offset, A, P, found}
use Rattle.relocations_decisions.specs.Decisions.{is_store, is_refused, stack_width, needs_pair}
use Rattle.relocations_rela.specs.Shape.{end, previous}
use Rattle.relocations_values.specs.Values.{target_at}
use Rattle.relocations_values.specs.Pairs.{is_pair, how_many}
use Rattle.relocations_rules.specs.Rules.{symbol, is_data}
use Rattle.calls_demands.specs.Laid.{IsSpan}

-- ---- 1 "ledger unsound": `Sound` of the journal

-- ---- 2 "order bytes malformed": "sections in a fixed order, each after its u32 count". c is the class of the object; for class 2 "the order's
-- base, addresses and values become u64".

pub record OrderWell (c : Class) (order : List ℕ) : Type 0 where
  -- "window base (count 1; one u32)"; the three counts and the base are there
  pub long : 12 + address_bytes c ≤ length order
  pub one_base : le_at 4 order 0 ≡ 1
  -- "placements (count at most 32; row u32, address u32)"; document 02: up to 128
  pub few_placements : placement_count c order ≤ max_placements
  pub placements_inside : externals_start c order ≤ length order
  -- "outside values (count at most 1,024; symbol u32, value u32)"; document 02: up to 8,192
  pub few_externals : external_count c order ≤ max_externals
  -- "no byte left over"
  pub whole : length order ≡ externals_start c order + (4 + address_bytes c) * external_count c order
  -- "Both lists strictly ascending by index"
  pub placements_ascend : (i : ℕ) → suc i < placement_count c order → (placement c order i).index < (placement c order (suc i)).index
  pub externals_ascend : (i : ℕ) → suc i < external_count c order → (external c order i).index < (external c order (suc i)).index

-- ---- 3 "window rule broken": "the image covers base up to base + its length; length 0 to 65,536, end at most 2^32", in
-- class 2 2^64: 2^w, where addresses have w bits; document 02: length up to 1,048,576

pub record WindowWell (w start len : ℕ) : Type 0 where
  pub short : len ≤ max_image
  pub ends : start + len ≤ 2 ^ w

-- ---- 4 "header or file length"

pub record HeaderWell (object : List ℕ) : Type 0 where
  -- "at most 65,536 bytes", "at least 52 bytes"; in class 2 "header 64 bytes"; document 02: up to 1,048,576 bytes
  pub short : length object ≤ max_object
  pub long : header_size (class_of object) ≤ length object
  -- "magic 7F 45 4C 46, class 1, data 1, ident version 1, e_type 1, e_machine 243, e_version 1, e_ehsize 52"; "Accept ELF class 2"
  pub magic : le_at 4 object 0 ≡ 0x464C457F
  pub class_known : (le_at 1 object 4 ≡ 1) ⊎ (le_at 1 object 4 ≡ 2)
  pub little_endian : le_at 1 object 5 ≡ 1
  pub ident_version : le_at 1 object 6 ≡ 1
  pub relocatable : le_at 2 object 16 ≡ 1
  pub risc_v : le_at 2 object 18 ≡ 243
  pub version : le_at 4 object 20 ≡ 1
  pub own_size : le_at 2 object (by (class_of object) 40 52) ≡ header_size (class_of object)

-- ---- 5 "row table (place 0) or row rule"

-- "e_shentsize 40, 1 to 32 rows of 40 bytes, wholly inside the file"; in class 2 "rows 64"; document 02: up to 128
pub record TableWell (object : List ℕ) : Type 0 where
  pub entries_sized : le_at 2 object (by (class_of object) 46 58) ≡ section_size (class_of object)
  pub some : 1 ≤ section_count object
  pub few : section_count object ≤ max_sections
  pub inside : section_table object + section_size (class_of object) * section_count object ≤ length object

-- for section i: `SoundSection` of `elf_check`, with a field for each sentence

-- ---- 6 "placements differ from allocated rows": a number is placed exactly when it is that of an allocated section

abbrev pub PlacedAsAllocated : List ℕ → List ℕ → ℕ → Type 0
PlacedAsAllocated object order i = is_given (placed_at (class_of object) order i) ≡ is_allocated object i

-- ---- 7 "outside value for a wrong symbol": "only undefined symbols (section 0, index above 0)"

pub record Undefined (object : List ℕ) (k : ℕ) : Type 0 where
  pub above : 0 < k
  pub there : k < symbol_count object
  pub no_section : (symbol_at object (section_at object (symbol_table object)) k).section ≡ 0

abbrev pub ValuedIfUndefined : List ℕ → List ℕ → ℕ → Type 0
ValuedIfUndefined object order k = is_given (external_value (class_of object) order k) ≡ true → Undefined object k

-- ---- 8 "placing", of an allocated section i

pub record PlacedWell (object a : List ℕ) (start len i : ℕ) : Type 0 where
  -- "an address is a multiple of the row's alignment (0 counts as 1)"
  pub aligned : get_or a i 0 % unit (section_at object i).alignment ≡ 0
  -- "the row ends at or below 2^32", in class 2 2^64
  pub ends : end_of object a i ≤ 2 ^ address_width object
  -- "a laid row of size above 0 lies in the window"
  pub in_window : has_bytes (section_at object i) ≡ true → (start ≤ get_or a i 0) × (end_of object a i ≤ start + len)
  -- "two rows of size above 0 share no address, the higher row being at fault"
  pub apart : (j : ℕ) → j < i → allocated (section_at object j) ≡ true → 0 < (section_at object i).size → 0 < (section_at object j).size
      → (end_of object a j ≤ get_or a i 0) ⊎ (end_of object a i ≤ get_or a j 0)

abbrev pub PlacedIfAllocated : List ℕ → List ℕ → ℕ → ℕ → Type 0
PlacedIfAllocated object order len i = allocated (section_at object i) ≡ true → PlacedWell object (addresses_for object order) (base_for object order) len i

-- ---- of a whole number: -back ≤ z ≤ ahead, and it is even

abbrev pub Within : ℕ → ℕ → ℤ → Type 0
Within back ahead (pos n) = n ≤ ahead
Within back ahead (negsuc n) = suc n ≤ back

abbrev pub Even : ℤ → Type 0
Even z = nat_abs z % 2 ≡ 0

-- ---- 9 "type, offset, overlap, addend rule", of relocation j of a site

-- "both are of 33..40, 52..56 with equal offset and width (SUB6 and SET6 have a width of their own)"
pub record SharePlace (object : List ℕ) (x : Site) (i j : ℕ) : Type 0 where
  pub same_offset : offset object x i ≡ offset object x j
  pub stacked : 0 < stack_width (decision_at object x i)
  pub same_width : stack_width (decision_at object x i) ≡ stack_width (decision_at object x j)

-- ALIGN: "A even, 0 to 4,094, offset + A inside the row"
pub record PaddingWell (object : List ℕ) (x : Site) (j : ℕ) : Type 0 where
  pub in_range : Within 0 4094 (A object x j)
  pub is_even : Even (A object x j)
  pub inside : offset object x j + nat_abs (A object x j) ≤ x.target.size

pub record ShapeWell (object : List ℕ) (x : Site) (j : ℕ) : Type 0 where
  -- "all others | refused"; document 02: "If e_flags bit 0 is clear, types 44 and 45 are refused with 9"
  pub known : is_refused (decision_at object x j) ≡ false
  -- "Record offsets never fall."
  pub rising : (i : ℕ) → suc i ≡ j → offset object x i ≤ offset object x j
  -- "The bytes touched lie in the row; a marker's offset is at most the row size."
  pub inside : end object x j ≤ x.target.size
  -- "A non-marker starts at or after the end of the previous non-marker, or" shares its place
  pub clear : is_store (decision_at object x j) ≡ true → (i : ℕ) → previous object x j ≡ Some i → (end object x i ≤ offset object x j) ⊎ SharePlace object x i j
  -- the addend rules of 43, and of 24 and 25: "A must be 0"
  pub padding : decision_at object x j ≡ Align → PaddingWell object x j
  pub no_addend : needs_pair (decision_at object x j) ≡ true → nat_abs (A object x j) ≡ 0

-- ---- 10 "symbol does not resolve (24, 25: or is not in the target row)". Document 02, Ticket 9, has a reason for each way in which that can
-- be; each rule says that its reason does not apply.

module _ (object : List ℕ) (x : Site) (j : ℕ) where
  -- "Markers skip 10."; "Symbol 0 always has its value, so only 7 can apply to it."
  abbrev pub LooksUp : Type 0
  LooksUp = (is_store (decision_at object x j) ≡ true) × (0 < (entry object x j).symbol)

  -- "past the table"
  abbrev pub InTable : Type 0
  InTable = LooksUp → (entry object x j).symbol < symbol_count object

  -- "row missing or not allocated (sections 1 to 0xFEFF)"
  abbrev pub InAllocated : Type 0
  InAllocated = LooksUp → 1 ≤ (symbol object x j).section → (symbol object x j).section ≤ 0xFEFF → is_allocated object (symbol object x j).section ≡ true

  -- "common (section 0xFFF2)"
  abbrev pub NotCommon : Type 0
  NotCommon = LooksUp → (symbol object x j).section ≡ 0xFFF2 → ⊥

  -- "reserved section (0xFF00 and up, but for 0xFFF1 and 0xFFF2)"
  abbrev pub NotReserved : Type 0
  NotReserved = LooksUp → 0xFF00 ≤ (symbol object x j).section → ((symbol object x j).section ≡ 0xFFF1) ⊎ ((symbol object x j).section ≡ 0xFFF2)

  -- "wrong type (TLS or IFUNC)"
  abbrev pub RightType : Type 0
  RightType = LooksUp → ((symbol object x j).kind ≡ 6 → ⊥) × ((symbol object x j).kind ≡ 10 → ⊥)

  -- "not in the target row (24 and 25 only)": "A PCREL_LO12 symbol is above 0 and defined in the record's own target row"
  abbrev pub InTarget : Type 0
  InTarget = needs_pair (decision_at object x j) ≡ true → (0 < (entry object x j).symbol) × ((symbol object x j).section ≡ x.index)

-- "undefined, not weak and without a value in the order"
abbrev pub NotMissing : List ℕ → List ℕ → Site → ℕ → Type 0
NotMissing object order x j =
    LooksUp object x j → (symbol object x j).section ≡ 0
    → ((symbol object x j).binding ≡ 2) ⊎ (is_given (external_value (class_of object) order (entry object x j).symbol) ≡ true)

pub record SymbolWell (object order : List ℕ) (x : Site) (j : ℕ) : Type 0 where
  pub in_table : InTable object x j
  pub in_allocated : InAllocated object x j
  pub not_common : NotCommon object x j
  pub not_reserved : NotReserved object x j
  pub not_missing : NotMissing object order x j
  pub right_type : RightType object x j
  pub is_in_target : InTarget object x j

-- ---- 11 "instruction form": "at an even address, as found in the object"; data may be anything anywhere

abbrev pub FormWell : List ℕ → Site → ℕ → Type 0
FormWell object x j =
    (r : Rule) → decision_at object x j ≡ Store r → is_data r.form ≡ false
    → (P object x j % 2 ≡ 0) × (has_form (class_of object) r.form (le_at r.size (found object x) (offset object x j)) (le_at r.size (found object x) (offset object x j) / 2 ^ 32) ≡ true)

-- ---- 12 "not exactly one partner": "There must be exactly one PCREL_HI20 record whose offset equals that value, among the same RELA row's
-- records."

abbrev pub PairWell : List ℕ → Site → ℕ → Type 0
PairWell object x j = needs_pair (decision_at object x j) ≡ true → how_many (is_pair object x (symbol object x j).value) (count object x) ≡ 1

-- ---- 13 "distance odd or too far", in class c, for t, which is T, and p, which is P. rvc says that bit 0 of e_flags is set.

-- document 02: "If e_flags bit 0 is clear, .. a distance for 16 to 19 that isn't a multiple of 4 with 13"
abbrev pub KeepsAlignment : Bool → ℤ → Type 0
KeepsAlignment rvc z = rvc ≡ false → nat_abs z % 4 ≡ 0

-- 16, 17, 44, 45: T - P "reduced to the signed range of the address width", "even", and in the field's range
pub record InReach (rvc : Bool) (r : Range) (z : ℤ) : Type 0 where
  pub is_even : Even z
  pub in_range : Within r.back r.ahead z
  pub aligned : KeepsAlignment rvc z

-- document 02, in class 2: "for 18, 19, 23 and 26 the distance or address, read as a signed 64-bit number, lies in
-- -2,147,485,696..2,147,481,599"
abbrev pub InHalvesReach : Class → ℕ → Type 0
InHalvesReach Elf32 v = Unit {0}
InHalvesReach Elf64 v = Within 2147485696 2147481599 (signed 64 v)

-- 26: the address T; 18, 19, 23: the distance T - P modulo 2^w; 24 and 25 have no range of their own
abbrev pub OperandReachable : Class → Operand → ℕ → ℕ → Type 0
OperandReachable c Absolute t p = InHalvesReach c t
OperandReachable c PcRelative t p = InHalvesReach c (minus (bits c) t p)
OperandReachable c Paired t p = Unit {0}

-- 18, 19: "T - P modulo 2^32, which is even": modulo 2^w, where addresses have w bits
abbrev pub PartReachable : Class → Bool → Part → Operand → Field → ℕ → ℕ → Type 0
PartReachable c rvc Whole o f t p = Unit {0}
PartReachable c rvc Distance o f t p = InReach rvc (range_of f) (distance (bits c) t p)
PartReachable c rvc High o f t p = OperandReachable c o t p
PartReachable c rvc Low o f t p = Unit {0}
PartReachable c rvc BothHalves o f t p = Even (pos (minus (bits c) t p)) × OperandReachable c o t p × KeepsAlignment rvc (pos (minus (bits c) t p))

abbrev pub Reachable : Class → Bool → Calculation → Field → ℕ → ℕ → Type 0
Reachable c rvc (Of part operand) f t p = PartReachable c rvc part operand f t p
Reachable c rvc Add f t p = Unit {0}
Reachable c rvc Sub f t p = Unit {0}
Reachable c rvc Set f t p = Unit {0}

abbrev pub ReachWell : List ℕ → Site → ℕ → ℕ → Type 0
ReachWell object x j t = (r : Rule) → decision_at object x j ≡ Store r → Reachable (class_of object) (has_rvc object) r.calculation r.field t (P object x j)

-- ---- 14 "padding not on its boundary": "P + A a multiple of the smallest power of two at least A + 2"

abbrev pub BoundaryWell : List ℕ → Site → ℕ → Type 0
BoundaryWell object x j = decision_at object x j ≡ Align → (P object x j + nat_abs (A object x j)) % ceil_power 32 (nat_abs (A object x j) + 2) ≡ 0

-- ---- 9 to 14 of relocation k, "counted from 0 over all"

module _ (object order : List ℕ) where
  -- its site, and its number there
  abbrev pub site : ℕ → Site
  site k = site_at object (addresses_for object order) (location_of object k).section

  abbrev pub entry_of : ℕ → ℕ
  entry_of k = (location_of object k).entry

  -- what is said of a relocation by its site and its number there
  abbrev pub of_relocation : (Site → ℕ → Type 0) → ℕ → Type 0
  of_relocation R k = R (site k) (entry_of k)

  abbrev pub Shape : ℕ → Type 0
  Shape k = ShapeWell object (site k) (entry_of k)

  abbrev pub SymbolResolves : ℕ → Type 0
  SymbolResolves k = SymbolWell object order (site k) (entry_of k)

  abbrev pub FormIs : ℕ → Type 0
  FormIs k = FormWell object (site k) (entry_of k)

  abbrev pub OnePair : ℕ → Type 0
  OnePair k = PairWell object (site k) (entry_of k)

  abbrev pub Reaches : ℕ → Type 0
  Reaches k = ReachWell object (site k) (entry_of k) (target_at object order (addresses_for object order) (site k) (entry_of k))

  abbrev pub OnBoundary : ℕ → Type 0
  OnBoundary k = BoundaryWell object (site k) (entry_of k)

-- ---- 15 "n is 16, or 136 + k + span above ledger length"

pub record Room (object order journal : List ℕ) : Type 0 where
  pub entry_free : count_of journal ≡ max_entries → ⊥
  pub bytes_free : (s : Span) → IsSpan object order s → old_at + held journal + s.size ≤ length journal

-- ---- all of them

pub record Rules (object order : List ℕ) (f : Files) : Type 0 where
  pub journal_sound : Sound f.journal (length f.image)
  pub order_well : OrderWell (class_of object) order
  pub window_well : WindowWell (address_width object) (base_for object order) (length f.image)
  pub header_well : HeaderWell object
  pub table_well : TableWell object
  pub sections_well : (i : ℕ) → i < section_count object → SoundSection object i
  pub placements_match : (i : ℕ) → i < 2 ^ 32 → PlacedAsAllocated object order i
  pub externals_match : (k : ℕ) → k < 2 ^ 32 → ValuedIfUndefined object order k
  pub placed_well : (i : ℕ) → i < section_count object → PlacedIfAllocated object order (length f.image) i
  pub shapes : (k : ℕ) → k < relocation_count object → Shape object order k
  pub symbols_resolve : (k : ℕ) → k < relocation_count object → SymbolResolves object order k
  pub forms_are : (k : ℕ) → k < relocation_count object → FormIs object order k
  pub one_pair_each : (k : ℕ) → k < relocation_count object → OnePair object order k
  pub all_reach : (k : ℕ) → k < relocation_count object → Reaches object order k
  pub on_boundaries : (k : ℕ) → k < relocation_count object → OnBoundary object order k
  pub room : Room object order f.journal
