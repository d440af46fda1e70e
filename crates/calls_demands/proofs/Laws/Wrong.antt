-- Fitters that the demands exclude, each by one of their sentences.
use mathlib.Core.Logic.{inl, inr}
use mathlib.Core.Path.{◌≡◌, refl, sym, ap, ◌∙◌}
use mathlib.Core.List.{List, [], ◌∷◌, ◌++◌}
use Prim.Native.Nat.{ℕ, zero, suc, ◌-◌, ◌<◌}
use native.Mathlib.Omega.{arith}
use lib.ListN.{length, get_or, take, drop, replicate}
use Rattle.numbers_definitions.proofs.Laws.Tests.{never}
use Rattle.numbers_definitions.specs.Bytes.{le, le_at, bytes, part}
use Rattle.numbers_definitions.specs.First.{first, everywhere, tabulate}
use Rattle.numbers_definitions.specs.Sums.{sum}
use Rattle.numbers_definitions.specs.Whole.{residue, signed}
use Rattle.instructions_fields.specs.declared.Width.TheVariants.{W32}
use Rattle.instructions_fields.specs.declared.Field.TheVariants.{Data}
use Rattle.instructions_fields.specs.Layouts.{read, put}
use Rattle.instructions_fields.specs.Fields.{layout}
use Rattle.elf_read.proofs.Laws.Headers.{header_there}
use Rattle.elf_read.specs.Headers.{class_of, has_rvc, address_width, section_count}
use Rattle.elf_read.specs.Sections.{read_section, section_at, allocated, loaded, is_allocated, counting_rela, relocations_in}
use Rattle.elf_read.specs.Entries.{read_relocation, bytes_of, relocation_at}
use Rattle.order_format.specs.Orders.{entry_at, ascending, well_formed}
use Rattle.order_lookup.specs.Values.{value_in}
use Rattle.order_format.specs.Windows.{length_allowed, window_allowed}
use Rattle.order_lookup.specs.Addresses.{placed_at, addresses, addresses_for, base_for}
use Rattle.journal_format.specs.Journals.{old_at, count, entry, entries, total, is_blank, ends_within, sound, Sound}
use Rattle.journal_format.proofs.Laws.Sound.{test_sound}
use Rattle.plan_pieces.specs.Plans.{overwritten}
use Rattle.plan_pieces.specs.Answers.{Answer, says, done}
use Rattle.journal_history.specs.Calls.{Files, succeed, Install, Rollback, InstallCall, RollbackCall, calling, run}
use Rattle.journal_history.specs.Records.{Released}
use Rattle.journal_history.specs.Histories.{Standing, begin, spans, laid, stand, fall, told, Start}
use Rattle.placing_check.specs.Placing.{has_bytes}
use Rattle.placing_symbols.specs.Values.{symbol_value}
use Rattle.relocations_types.specs.Types.{table, among, lookup, decision}
use Rattle.relocations_rela.specs.Sites.{site_at}
use Rattle.relocations_bytes.specs.Patches.{patched}
use Rattle.relocations_bytes.specs.Sections.{sum_at, rela_of, relocated, applied, after}
use Rattle.relocations_bytes.specs.Promises.{ReadsBack}
use Rattle.placing_span.specs.Pieces.{pieces}
use Rattle.calls_judgement.specs.Judgement.{plan_of, judgement}
use Rattle.calls_demands.specs.Rules.{PlacedAsAllocated}
use Rattle.calls_demands.specs.First.{AllHold, FirstBroken, table as table_of}
use Rattle.calls_demands.specs.Laid.{section_in}
use Rattle.calls_demands.proofs.Laws.First.{at_once, at_each}
use Rattle.calls_demands.specs.Demands.{rollback_table, Demand1, Demand2, Demand3, Journalled, AnyList}
use Rattle.calls_demands.proofs.Laws.Sample.{words, object, order, files, journal_is, header_is, table_is, sections_are, keeps_all}
use Rattle.calls_demands.proofs.Laws.Demands.{Done, done_leaves, demand_2}
use Rattle.calls_demands.proofs.Laws.Rules.{order_well, window_well}

-- ---- wrong fitters

module _ (installs : InstallCall) (d : Demand2 installs) where
  is_done : (installs object order files).answer ≡ done
  is_done = d.holds_done object order files keeps_all

  -- one that refuses everything: "A fit is done exactly when every rule of document 01 holds"
  pub refuses_everything : ((o r : List ℕ) (f : Files) → (installs o r f).answer ≡ done → ⊥) → ⊥
  refuses_everything wrong = wrong object order files is_done

  -- one that always gives the same number and place: the same sentence
  pub one_answer : (a : Answer) → ((o r : List ℕ) (f : Files) → (installs o r f).answer ≡ a) → ⊥
  one_answer a same =
      let empty = d.done_holds [] order files (same [] order files ∙ sym (same object order files) ∙ is_done) in
      omega (arith, header_there [] empty.header_well.long)

  -- the relocation, read out of the image that is left: its field is T
  read_out : (image : List ℕ) → (installs object order files).after.image ≡ image → read (layout (Data W32)) (le_at 4 (section_in object order image 1) 0) ≡ 0x12345678
  unfolding object order words bytes le le_at class_of sum relocations_in counting_rela is_allocated read_section section_at allocated site_at read_relocation relocation_at decision has_rvc table lookup among addresses tabulate placed_at value_in entry_at first symbol_value residue signed ReadsBack
  read_out image e =
      let back = (d.laid object order files is_done).fields 3 0 (record { there = omega arith; counts = refl; entry = omega arith }) in
      ap (λ s. read (layout (Data W32)) (le_at 4 (section_in object order s 1) 0)) (sym e) ∙ back.0

  -- one that writes nothing: "each laid byte is the object's own or the field that the RISC-V ELF psABI 1.0 asks for"
  pub writes_nothing : ((o r : List ℕ) (f : Files) → (installs o r f).after.image ≡ f.image) → ⊥
  unfolding object order files words bytes le le_at class_of part read_section section_at addresses tabulate placed_at value_in entry_at first read
  writes_nothing wrong =
      let z : ◌≡◌ {A = ℕ} 0xA5A5A5A5 0x12345678 = read_out files.image (wrong object order files) in
      omega arith

  -- one that lays each section as it is in the object: the same sentence
  pub copies_unpatched : ((o r : List ℕ) (f : Files) → (installs o r f).after.image ≡ overwritten f.image (pieces (λ t. bytes_of o (section_at o t)) o (addresses_for o r) (base_for o r) (section_count o))) → ⊥
  unfolding object order files words bytes le le_at class_of part read_section section_at addresses tabulate placed_at value_in entry_at first read overwritten pieces bytes_of has_bytes loaded allocated
  copies_unpatched wrong =
      let z : ◌≡◌ {A = ℕ} 0 0x12345678 = read_out _ (wrong object order files) in
      omega arith

-- ---- an address that is missing

-- an order without placements
unfoldable pub bare : List ℕ
bare = words (1 ∷ 0x20000000 ∷ 0 ∷ 0 ∷ [])

-- section 1 has no address: check 6 at place 1, and never an address of 0
missing : FirstBroken (table_of object bare files) (says 6 1)
unfolding table_of object bare files words bytes le_at le class_of well_formed ascending everywhere window_allowed length_allowed read_section section_at allocated is_allocated placed_at value_in entry_at first
missing =
    inr (
      at_once 1 journal_is,
      inr (
        at_once 4 header_is,
        inr (
          at_once 2 (order_well (class_of object) bare refl),
          inr (
            at_once 3 (window_well (address_width object) (base_for object bare) (length files.image) refl),
            inr (
              at_once 5 table_is,
              inr (at_each 4 5 sections_are, inl (omega arith, at_each 1 6 (λ i h. first_match i h), inl (refl, λ e. never e))),
            ),
          ),
        ),
      ),
    )
  where
    first_match : (i : ℕ) → i < 1 → PlacedAsAllocated object bare i
    first_match zero h = refl
    first_match (suc i) h = absurd (omega arith)

-- one that treats a missing address as zero, or gives no place: "otherwise the first broken rule is named"
pub names_the_section : (installs : InstallCall) → Demand2 installs → (installs object bare files).answer ≡ says 6 1
names_the_section installs d = d.first_refused object bare files (says 6 1) missing

-- one that gives only the number: the same sentence
pub gives_no_place : (installs : InstallCall) → Demand2 installs → ((o r : List ℕ) (f : Files) → (installs o r f).answer.place ≡ 0) → ⊥
gives_no_place installs d wrong = omega (arith, ap (λ a. a.place) (names_the_section installs d), wrong object bare files)

-- one that lays whatever the answer is: demand 1, "image and ledger then hold exactly the bytes they held"
pub lays_anyway : (installs : InstallCall) (rollsBack : RollbackCall) → Demand1 installs rollsBack → Demand2 installs
    → ((o r : List ℕ) (f : Files) → (installs o r f).after.image ≡ overwritten f.image (plan_of o r)) → ⊥
unfolding object bare files words bytes le le_at class_of part read_section section_at allocated loaded has_bytes addresses tabulate placed_at value_in entry_at first read put overwritten pieces plan_of relocated rela_of counting_rela is_allocated site_at after applied sum_at read_relocation relocation_at decision has_rvc table lookup among bytes_of patched symbol_value residue signed
lays_anyway installs rollsBack d₁ d₂ wrong =
    let refused : (installs object bare files).answer ≡ done → ⊥ = λ e. omega (arith, ap (λ a. a.number) (sym (names_the_section installs d₂) ∙ e)) in
    let same : overwritten files.image (plan_of object bare) ≡ files.image = sym (wrong object bare files) ∙ ap (λ f. f.image) (d₁.install_kept object bare files refused) in
    let z : ◌≡◌ {A = ℕ} 0x78 0xA5 = ap (λ l. get_or l 0 0) same in
    omega arith

-- ---- demand 3, at that install and its rollback

-- nothing stands at the start
start_is : Start files
unfolding files le_at le length_allowed
start_is = record { allowed = omega arith; sound = journal_is; none = refl }

-- the install, as it stands in the history
stands : Standing
stands = record { object = object; order = order; pieces = plan_of object order }

-- every rule holds, so that it stands in the history
stood : stand (begin files) object order (judgement object order (length files.image))
    ≡ succeed (record { start = files.image; room = length files.journal; standing = stands ∷ [] })
unfolding stand stands spans total files le_at le
stood =
    let left : Done object order files = done_leaves object order files (demand_2.holds_done object order files keeps_all) in
    rw (left.verdict_is, left.room_is)

-- each of the four laid bytes differs from that of the starting image
differs : (b : ℕ) → b < 4 → get_or files.image b 0 ≡ get_or (overwritten files.image (plan_of object order)) b 0 → ⊥
unfolding object order files words bytes le le_at class_of part read_section section_at allocated loaded has_bytes addresses tabulate placed_at value_in entry_at first read put overwritten pieces plan_of relocated rela_of counting_rela is_allocated site_at after applied sum_at read_relocation relocation_at decision has_rvc table lookup among bytes_of patched symbol_value residue signed
differs zero h e = let z : ◌≡◌ {A = ℕ} 0xA5 0x78 = e in omega arith
differs (suc zero) h e = let z : ◌≡◌ {A = ℕ} 0xA5 0x56 = e in omega arith
differs (suc (suc zero)) h e = let z : ◌≡◌ {A = ℕ} 0xA5 0x34 = e in omega arith
differs (suc (suc (suc zero))) h e = let z : ◌≡◌ {A = ℕ} 0xA5 0x12 = e in omega arith
differs (suc (suc (suc (suc b)))) h e = omega arith

module _ (installs : InstallCall) (rollsBack : RollbackCall) (d : Demand3 AnyList installs rollsBack) where
  -- what the two calls leave
  after_fit : Files
  after_fit = (installs object order files).after

  after_both : Files
  after_both = (rollsBack after_fit).after

  -- after the install: its bytes, and one that stands
  laid_over : after_fit.image ≡ overwritten files.image (plan_of object order)
  unfolding after_fit run calling told laid stands
  laid_over = (d files (tt, tt) start_is (Install object order ∷ []) ((tt, tt), tt)).holds.as_told.image_is ∙ ap (λ o. laid o.after.start o.after.standing) stood

  one_stands : count after_fit.journal ≡ 1
  unfolding after_fit run calling told
  one_stands = (d files (tt, tt) start_is (Install object order ∷ []) ((tt, tt), tt)).holds.as_told.count_is ∙ ap (λ o. length o.after.standing) stood

  -- after the rollback: the starting image, and none that stands
  as_before : after_both.image ≡ files.image
  unfolding after_fit after_both run calling told fall laid
  as_before =
      (d files (tt, tt) start_is (Install object order ∷ Rollback ∷ []) ((tt, tt), (tt, tt))).holds.as_told.image_is
      ∙ ap (λ o. laid (fall o.after o.after.standing).after.start (fall o.after o.after.standing).after.standing) stood

  none_stands_lem : count after_both.journal ≡ 0
  unfolding after_fit after_both run calling told fall
  none_stands_lem =
      (d files (tt, tt) start_is (Install object order ∷ Rollback ∷ []) ((tt, tt), (tt, tt))).holds.as_told.count_is
      ∙ ap (λ o. length (fall o.after o.after.standing).after.standing) stood

  -- a taking-back that leaves one of the laid bytes: "The image is, byte for byte, the starting image"
  pub leaves_a_byte : (b : ℕ) → b < 4 → ((f : Files) → get_or (rollsBack f).after.image b 0 ≡ get_or f.image b 0) → ⊥
  unfolding after_both
  leaves_a_byte b h wrong = differs b h (ap (λ s. get_or s b 0) (sym as_before) ∙ wrong after_fit ∙ ap (λ s. get_or s b 0) laid_over)

  -- one that does nothing, and one that only lowers n: the same sentence
  pub does_nothing : ((f : Files) → (rollsBack f).after ≡ f) → ⊥
  does_nothing wrong = leaves_a_byte 0 (omega arith) (λ f. ap (λ g. get_or g.image 0 0) (wrong f))

  pub leaves_the_image : ((f : Files) → (rollsBack f).after.image ≡ f.image) → ⊥
  leaves_the_image wrong = leaves_a_byte 0 (omega arith) (λ f. ap (λ s. get_or s 0 0) (wrong f))

  -- one that does not lower n: "The ledger counts the standing fits .. and no others"
  pub leaves_n : ((f : Files) → count (rollsBack f).after.journal ≡ count f.journal) → ⊥
  unfolding after_both
  leaves_n wrong = omega (arith, one_stands, none_stands_lem, wrong after_fit)

  -- one that is never done: "A taking-back is refused exactly when no fit stands."
  pub never_done : ((f : Files) → (rollsBack f).answer ≡ done → ⊥) → ⊥
  unfolding after_fit run calling told
  never_done wrong =
      wrong after_fit
      ((d files (tt, tt) start_is (Install object order ∷ []) ((tt, tt), tt)).holds.done_if_some
      (λ none. omega (arith, ap (λ xs. length xs) (sym (ap (λ o. o.after.standing) stood) ∙ none))))

  -- a fit that records nothing: "The ledger counts the standing fits"
  pub records_nothing : ((o r : List ℕ) (f : Files) → (installs o r f).after.journal ≡ f.journal) → ⊥
  unfolding after_fit files le_at le
  records_nothing wrong = omega (arith, one_stands, ap (λ j. count j) (wrong object order files))

-- ---- the journal, byte for byte

-- one that is always done: "given exactly when" the ledger is unsound
pub always_rolled_back : (installs : InstallCall) (rollsBack : RollbackCall) → Demand1 installs rollsBack → ((f : Files) → (rollsBack f).answer ≡ done) → ⊥
unfolding rollback_table
always_rolled_back installs rollsBack d wrong =
    let none : Files = record { image = []; journal = [] } in
    let s : Sound [] 0 = ((d.rollback_holds none (wrong none)).0 0 (omega arith)).0 in
    omega (arith, s.fits)

-- document 01's bench ledger, with one byte of room, and an image that its span lies in
unfoldable pub standing : Files
standing = record { image = replicate 12 0; journal = words (1 ∷ 8 ∷ 4 ∷ []) ++ replicate 120 0 ++ words (4 ∷ 0xDDCCBBAA ∷ []) ++ 0x55 ∷ [] }

standing_sound : Sound standing.journal (length standing.image)
unfolding standing words bytes sound everywhere first entries tabulate entry total le_at le is_blank ends_within
standing_sound = test_sound standing.journal (length standing.image) refl

-- it can be taken back
standing_holds : AllHold (rollback_table standing)
unfolding rollback_table standing words bytes le_at le
standing_holds = (at_once 1 standing_sound, (at_once 3 (omega arith), (at_once 16 (omega arith), tt)))

module _ (installs : InstallCall) (rollsBack : RollbackCall) (d : Demand1 installs rollsBack) (k : Journalled installs rollsBack) where
  -- and is, so that what is said of a done rollback holds
  released : Released standing (rollsBack standing).after
  released = k.releases standing (d.rollback_done standing standing_holds)

  -- one that leaves the old bytes in the journal: "zeroes the entry and the released bytes"
  pub leaves_old_bytes : ((f : Files) → drop old_at (rollsBack f).after.journal ≡ drop old_at f.journal) → ⊥
  unfolding standing words bytes le_at le entry part
  leaves_old_bytes wrong =
      let zero-now : part (rollsBack standing).after.journal old_at 4 ≡ replicate 4 0 = released.released_zero in
      let z : ◌≡◌ {A = ℕ} 0xAA 0 = ap (λ l. get_or l 0 0) (sym (ap (take 4) (wrong standing)) ∙ zero-now) in
      omega arith

  -- one that clears the journal to its end: "Bytes past 136 + k are .. not written otherwise"
  pub clears_to_the_end : ((f : Files) → drop 140 (rollsBack f).after.journal ≡ replicate (length f.journal - 140) 0) → ⊥
  unfolding standing words bytes le_at le
  clears_to_the_end wrong =
      let same : drop 140 (rollsBack standing).after.journal ≡ 0x55 ∷ [] = released.past_same in
      let z : ◌≡◌ {A = ℕ} 0x55 0 = ap (λ l. get_or l 0 0) (sym same ∙ wrong standing) in
      omega arith

-- a fit that does not record the old bytes: "A fit appends the span's old bytes."
pub records_no_old_bytes : (installs : InstallCall) (rollsBack : RollbackCall) → Demand2 installs → Journalled installs rollsBack
    → ((o r : List ℕ) (f : Files) → drop old_at (installs o r f).after.journal ≡ drop old_at f.journal) → ⊥
unfolding object order files words bytes le le_at class_of part read_section section_at allocated loaded has_bytes addresses tabulate placed_at value_in entry_at first
records_no_old_bytes installs rollsBack d k wrong =
    let a = k.appends object order files (is_done installs d) in
    let s = a.0 in
    let inside = a.1.covers_all 1 0 (record { there = omega arith; loaded = refl; from = omega arith; to = omega arith }) in
    let recorded : part (installs object order files).after.journal old_at s.size ≡ part files.image s.start s.size = a.2.old_are in
    go s.start s.size (omega (arith, inside.0)) (omega (arith, inside.0, inside.1)) recorded
  where
    go : (at size : ℕ) → at ≡ 0 → 0 < size → part (installs object order files).after.journal old_at size ≡ part files.image at size → ⊥
    go at zero e h recorded = omega arith
    go at (suc size) e h recorded =
        let z : ◌≡◌ {A = ℕ} 0 0xA5 =
        ap (λ l. get_or l 0 0) (sym (ap (take (suc size)) (wrong object order files)) ∙ recorded ∙ ap (λ n. part files.image n (suc size)) e) in
        omega arith
