-- `calls_judge::judge_sections` meets its contract.
use Rattle.std.specs.Prelude.{Some}
use mathlib.Core.Path.{◌≡◌, sym, ap, ◌∙◌}
use mathlib.Core.Bool.{true}
use mathlib.Core.List.{List}
use Prim.Native.Nat.{ℕ}
use borrow.Author.Tests.{leb-true}
use Rattle.numbers_definitions.proofs.Laws.Tests.{and_left}
use Rattle.numbers_definitions.specs.Classes.{bits}
use Rattle.elf_read.specs.Headers.{class_of, address_width}
use Rattle.elf_header.proofs.Laws.Headers.{header_long}
use Rattle.order_format.specs.Orders.{reading}
use Rattle.order_format.specs.Windows.{length_allowed, window_allowed}
use Rattle.order_format.proofs.Laws.Sound.{reading_sound}
use Rattle.order_lookup.specs.Addresses.{addresses, addresses_for, base_for}
use Rattle.elf_check.proofs.Laws.Objects.{sound_object}
use Rattle.placing_check.specs.Placing.{placing_check}
use Rattle.calls_judgement.specs.Requires.{Readable, Named}
use Rattle.calls_judgement.proofs.Laws.Judgement.{gives_3, gives_5, gives_6, gives_7, gives_8}
use Rattle.calls_judge.proofs.Laws.Mapped.{passed, handed_on}
use Rattle.calls_judge.specs.Judged.{PlacedWell}
use Rattle.calls_judge.specs.declared.Refusal.TheVariants.{BadSection, PlacementsDiffer, WrongExternal}
use Rattle.calls_judge.proofs.judge_sections.Goals as goal
use Rattle.calls_judge.proofs.judge_sections.Goals.{After-window_allowed, Else-not-window_allowed, After-check_sections, After-check_placements, After-check_externals, After-check_placing, Start}

abbrev S : Start → List ℕ
S c = c.args.object.now

abbrev O : Start → List ℕ
O c = c.args.order.now.bytes.now

reading_is : (c : Start) → reading (class_of (S c)) (O c) ≡ Some c.args.order.now.counts
reading_is c = ap (λ k. reading k (O c)) (sym c.requires.1) ∙ c.args.order.now.read_is

base_is : (c : Start) → base_for (S c) (O c) ≡ c.args.order.now.counts.base.0
base_is c = sym (reading_sound (class_of (S c)) (O c) c.args.order.now.counts (reading_is c)).base_is

asked : (c : After-window_allowed) → let s = (goal.at.After-window_allowed c).Start in window_allowed (address_width (S s)) (base_for (S s) (O s)) c.args.len ≡ c.window_allowed.result
asked c =
    let s = (goal.at.After-window_allowed c).Start in
    ap (λ b. window_allowed (address_width (S s)) b c.args.len) (base_is s)
    ∙ ap (λ k. window_allowed (bits k) c.args.order.now.counts.base.0 c.args.len) (sym c.requires.1)
    ∙ sym c.window_allowed.ensures

pub returns-then-not-window_allowed : goal.returns-then-not-window_allowed
returns-then-not-window_allowed c =
    let a = c.args in
    gives_3 a.object.now a.order.now.bytes.now a.len a.order.now.counts c.requires.0 (reading_is (goal.at.returns-then-not-window_allowed c).Start) (asked (goal.at.returns-then-not-window_allowed c).After-window_allowed ∙ c.if-not-window_allowed.true)

pub check_sections-requires : goal.check_sections-requires
check_sections-requires c = header_long _ c.requires.0

window : (c : Else-not-window_allowed) → let s = (goal.at.Else-not-window_allowed c).Start in window_allowed (address_width (S s)) (base_for (S s) (O s)) c.args.len ≡ true
window c = asked (goal.at.Else-not-window_allowed c).After-window_allowed ∙ c.if-not-window_allowed.false

-- an object that passes checks 4, 2, 3 and 5, and what check 6 finds
readable : (c : After-check_placements) → let s = (goal.at.After-check_placements c).Start in Readable (S s) (O s) c.args.order.now.counts c.args.len
readable c =
    record {
      header = c.requires.0;
      reading_is = reading_is (goal.at.After-check_placements c).Start;
      window = window (goal.at.After-check_placements c).Else-not-window_allowed;
      sections = sym c.check_sections.ensures ∙ passed BadSection _ _ c.map_err.ensures.cases _ c.in_ok-map_err.was;
    }

pub returns-in_err-map_err : goal.returns-in_err-map_err
returns-in_err-map_err c =
    let a = c.args in
    handed_on BadSection _ _ c.map_err.ensures.cases _ c.in_err-map_err.was (PlacedWell a.object.now a.order.now.bytes.now a.order.now.counts a.len)
    (λ i e. gives_5 a.object.now a.order.now.bytes.now a.len a.order.now.counts i c.requires.0 (reading_is (goal.at.returns-in_err-map_err c).Start) (window (goal.at.returns-in_err-map_err c).Else-not-window_allowed) (sym c.check_sections.ensures ∙ e))
    _ c.from_residual.ensures.1

pub check_placements-requires : goal.check_placements-requires
check_placements-requires c = (sound_object _ c.requires.0 (sym c.check_sections.ensures ∙ passed BadSection _ _ c.map_err.ensures.cases _ c.in_ok-map_err.was), c.requires.1)

pub returns-in_err-map_err-2 : goal.returns-in_err-map_err-2
returns-in_err-map_err-2 c =
    let a = c.args in
    handed_on PlacementsDiffer _ _ c.map_err-2.ensures.cases _ c.in_err-map_err-2.was (PlacedWell a.object.now a.order.now.bytes.now a.order.now.counts a.len)
    (λ i e. gives_6 a.object.now a.order.now.bytes.now a.len a.order.now.counts i (readable (goal.at.returns-in_err-map_err-2 c).After-check_placements) (sym c.check_placements.ensures ∙ e))
    _ c.from_residual-in_err-map_err-2.ensures.1

pub check_externals-requires : goal.check_externals-requires
check_externals-requires c = let r = readable (goal.at.check_externals-requires c).After-check_placements in (sound_object _ r.header r.sections, c.requires.1)

pub returns-in_err-map_err-3 : goal.returns-in_err-map_err-3
returns-in_err-map_err-3 c =
    let a = c.args in
    handed_on WrongExternal _ _ c.map_err-3.ensures.cases _ c.in_err-map_err-3.was (PlacedWell a.object.now a.order.now.bytes.now a.order.now.counts a.len)
    (λ k e. gives_7 a.object.now a.order.now.bytes.now a.len a.order.now.counts k (readable (goal.at.returns-in_err-map_err-3 c).After-check_placements)
    (sym c.check_placements.ensures ∙ passed PlacementsDiffer _ _ c.map_err-2.ensures.cases _ c.in_ok-map_err-2.was) (sym c.check_externals.ensures ∙ e))
    _ c.from_residual-in_err-map_err-3.ensures.1

pub check_placing-requires : goal.check_placing-requires
unfolding window_allowed length_allowed
check_placing-requires c =
    let f = readable (goal.at.check_placing-requires c).After-check_placements in
    (sound_object _ f.header f.sections, leb-true _ _ (and_left (length_allowed c.args.len) _ f.window))

-- checks 2 to 7 have passed, and check 8 is asked of the order's addresses
named : (c : After-check_placing) → let s = (goal.at.After-check_placing c).Start in Named (S s) (O s) c.args.order.now.counts c.args.len
named c =
    record {
      readable = readable (goal.at.After-check_placing c).After-check_placements;
      placements = sym c.check_placements.ensures ∙ passed PlacementsDiffer _ _ c.map_err-2.ensures.cases _ c.in_ok-map_err-2.was;
      externals = sym c.check_externals.ensures ∙ passed WrongExternal _ _ c.map_err-3.ensures.cases _ c.in_ok-map_err-3.was;
    }

array_is : (c : After-check_placing) → let s = (goal.at.After-check_placing c).Start in c.fill_addresses-filled.result ≡ addresses_for (S s) (O s)
array_is c = c.fill_addresses-filled.ensures ∙ ap (λ k. addresses k (O (goal.at.After-check_placing c).Start)) c.requires.1

asked_placing : (c : After-check_placing) → let s = (goal.at.After-check_placing c).Start in
    placing_check (S s) (addresses_for (S s) (O s)) (base_for (S s) (O s)) c.args.len ≡ placing_check (S s) c.fill_addresses-filled.result c.args.order.now.counts.base.0 c.args.len
asked_placing c =
    let s = (goal.at.After-check_placing c).Start in
    ap (λ b. placing_check (S s) (addresses_for (S s) (O s)) b c.args.len) (base_is s)
    ∙ ap (λ l. placing_check (S s) l c.args.order.now.counts.base.0 c.args.len) (sym (array_is c))

pub returns-in-Ok : goal.returns-in-Ok
returns-in-Ok c =
    let p = (goal.at.returns-in-Ok c).After-check_placing in
    (record { named = named p; placing = asked_placing p ∙ c.in-Ok.ensures.0 }, c.in-Ok.ensures.1 ∙ array_is p)

pub returns-in-Err : goal.returns-in-Err
returns-in-Err c =
    let a = c.args in
    let p = (goal.at.returns-in-Err c).After-check_placing in
    gives_8 a.object.now a.order.now.bytes.now a.len a.order.now.counts c.in-Err.found.section (named p) (asked_placing p ∙ c.in-Err.ensures.0)
