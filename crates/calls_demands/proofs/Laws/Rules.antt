-- Each test of the judgement is equivalent to the rule that it is named after.
use Rattle.std.specs.Prelude.{Err, Ok, Result, ⊤}
use mathlib.Core.Logic.{◌⊎◌, ⊎_elim, inl, inr}
use mathlib.Core.Path.{◌≡◌, refl, sym, ap, ◌∙◌}
use mathlib.Core.Bool.{Bool, true, false, not, cond, ◌&&◌, ◌||◌}
use mathlib.Core.List.{List}
use Prim.Native.Nat.{ℕ, suc, ◌+◌, ◌-◌, ◌^◌, ◌≤◌, ◌<◌}
use native.Mathlib.Omega.{arith}
use lib.ListN.{length, get_or}
use lib.Dec.{leb, ltb, eqb}
use borrow.Author.Tests.{leb-true, ltb-true, ltb-false, eqb-true, eqb-false, le-leb, eq-eqb, ne_eqb, lt-ltb, le-ltb, not-true}
use Rattle.numbers_definitions.specs.Bytes.{le_at}
use Rattle.numbers_definitions.specs.First.{first}
use Rattle.numbers_definitions.specs.declared.Class.{Class}
use Rattle.numbers_definitions.proofs.Laws.Tests.{and_left, and_right, one_of_two, or_two, neither_left, neither_right, clash, both, given, implied, implies, same_tests}
use Rattle.numbers_definitions.proofs.Laws.First.{first_below, first_at, everywhere_at, everywhere_is}
use Rattle.elf_read.specs.Headers.{class_of}
use Rattle.elf_read.specs.Sections.{section_at, allocated, is_allocated}
use Rattle.elf_header.specs.Headers.{header_allowed, table_allowed}
use Rattle.order_format.specs.Orders.{placement_count, placement, external_count, external, ascending, well_formed}
use Rattle.order_lookup.specs.Values.{is_given, external_value}
use Rattle.order_format.specs.Windows.{max_image, length_allowed, window_allowed}
use Rattle.order_lookup.specs.Addresses.{placed_at}
use Rattle.order_format.proofs.Laws.Sound.{well_formed_sound, sound_well_formed}
use Rattle.plan_pieces.specs.declared.Span.{Span}
use Rattle.journal_format.specs.Journals.{max_entries, old_at, count, held, no_room}
use Rattle.placing_match.specs.Placements.{lowest, differs}
use Rattle.placing_match.specs.Externals.{is_undefined}
use Rattle.placing_check.specs.Placing.{end_of, aligned, ends_in_memory, has_bytes, in_window, share, apart, misplaced}
use Rattle.calls_demands.specs.Laid.{IsSpan}
use Rattle.calls_demands.proofs.Laws.Journals.{one_span}
use Rattle.calls_demands.specs.Rules.{OrderWell, WindowWell, HeaderWell, TableWell, PlacedAsAllocated, Undefined, ValuedIfUndefined, PlacedWell, Room}

-- ---- the lowest place at which a test says broken

pub lowest_found : (p : ℕ → Bool) (n k : ℕ) → lowest p n ≡ Err k → (k < n) × ((j : ℕ) → j < k → p j ≡ false) × (p k ≡ true)
unfolding lowest
lowest_found p n k e = go (ltb (first p n) n) refl e
  where
    go : (b : Bool) → ltb (first p n) n ≡ b → ◌≡◌ {A = Result ⊤ ℕ} (cond b (Err (first p n)) (Ok tt)) (Err k) → (k < n) × ((j : ℕ) → j < k → p j ≡ false) × (p k ≡ true)
    go true q r =
        let same : first p n ≡ k = cc in
        let below : first p n < n = ltb-true _ _ q in
        (omega arith, (λ j l. first_below p n j (omega arith)), ap p (sym same) ∙ first_at p n below)
    go false q r =
        let z : ◌≡◌ {A = ℕ} 0 1 = cc in
        absurd (omega arith)

-- ---- 2

ascends : (f : ℕ → ℕ) (n : ℕ) → ascending f n ≡ true → (i : ℕ) → suc i < n → f i < f (suc i)
unfolding ascending
ascends f n e i h = ltb-true _ _ (everywhere_at (λ j. ltb (f j) (f (suc j))) (n - 1) e i (omega arith))

ascends_back : (f : ℕ → ℕ) (n : ℕ) → ((i : ℕ) → suc i < n → f i < f (suc i)) → ascending f n ≡ true
unfolding ascending
ascends_back f n h = everywhere_is (λ j. ltb (f j) (f (suc j))) (n - 1) (λ j l. lt-ltb _ _ (h j (omega arith)))

pub order_well : (c : Class) (order : List ℕ) → well_formed c order ≡ true → OrderWell c order
order_well c order w =
    let k = well_formed_sound c order w in
    record {
      long = k.long;
      one_base = k.one;
      few_placements = k.few;
      placements_inside = k.room;
      few_externals = k.some;
      whole = k.whole;
      placements_ascend = ascends (λ i. (placement c order i).index) (placement_count c order) k.placed;
      externals_ascend = ascends (λ i. (external c order i).index) (external_count c order) k.given;
    }

pub well_order : (c : Class) (order : List ℕ) → OrderWell c order → well_formed c order ≡ true
well_order c order o =
    sound_well_formed c order
    (record {
      base_is = refl;
      placements_are = refl;
      externals_are = refl;
      long = o.long;
      one = o.one_base;
      few = o.few_placements;
      room = o.placements_inside;
      some = o.few_externals;
      whole = o.whole;
      placed = ascends_back (λ i. (placement c order i).index) (placement_count c order) o.placements_ascend;
      given = ascends_back (λ i. (external c order i).index) (external_count c order) o.externals_ascend;
    })

-- ---- 3

pub window_well : (w start len : ℕ) → window_allowed w start len ≡ true → WindowWell w start len
unfolding window_allowed length_allowed
window_well w start len e =
    record {
      short = leb-true _ _ (and_left (leb len max_image) (leb (start + len) (2 ^ w)) e);
      ends = leb-true _ _ (and_right (leb len max_image) (leb (start + len) (2 ^ w)) e);
    }

pub well_window : (w start len : ℕ) → WindowWell w start len → window_allowed w start len ≡ true
unfolding window_allowed length_allowed
well_window w start len k = both _ _ (le-leb _ _ k.short) (le-leb _ _ k.ends)

-- ---- 4 and 5

class_from : (n : ℕ) → (eqb n 1 || eqb n 2) ≡ true → (n ≡ 1) ⊎ (n ≡ 2)
class_from n e = ⊎_elim (λ a. inl (eqb-true n 1 a)) (λ b. inr (eqb-true n 2 b)) (one_of_two (eqb n 1) (eqb n 2) e)

class_back : (n : ℕ) → (n ≡ 1) ⊎ (n ≡ 2) → (eqb n 1 || eqb n 2) ≡ true
class_back n (inl a) = or_two (eqb n 1) (eqb n 2) (inl (eq-eqb n 1 a))
class_back n (inr b) = or_two (eqb n 1) (eqb n 2) (inr (eq-eqb n 2 b))

pub header_well : (s : List ℕ) → header_allowed s ≡ true → HeaderWell s
unfolding header_allowed
header_well s e =
    record {
      short = leb-true _ _ (search (and_left, and_right) depth 12);
      long = leb-true _ _ (search (and_left, and_right) depth 12);
      magic = eqb-true _ _ (search (and_left, and_right) depth 12);
      class_known = class_from (le_at 1 s 4) (search (and_left, and_right) depth 12);
      little_endian = eqb-true _ _ (search (and_left, and_right) depth 12);
      ident_version = eqb-true _ _ (search (and_left, and_right) depth 12);
      relocatable = eqb-true _ _ (search (and_left, and_right) depth 12);
      risc_v = eqb-true _ _ (search (and_left, and_right) depth 12);
      version = eqb-true _ _ (search (and_left, and_right) depth 12);
      own_size = eqb-true _ _ (search (and_left, and_right) depth 12);
    }

pub well_header : (s : List ℕ) → HeaderWell s → header_allowed s ≡ true
unfolding header_allowed
well_header s h =
    rw (le-leb _ _ h.short, le-leb _ _ h.long, eq-eqb _ _ h.magic, class_back (le_at 1 s 4) h.class_known, eq-eqb _ _ h.little_endian, eq-eqb _ _ h.ident_version, eq-eqb _ _ h.relocatable, eq-eqb _ _ h.risc_v, eq-eqb _ _ h.version)
    (eq-eqb _ _ h.own_size)

pub table_well : (s : List ℕ) → table_allowed s ≡ true → TableWell s
unfolding table_allowed
table_well s e =
    record {
      entries_sized = eqb-true _ _ (search (and_left, and_right));
      some = leb-true _ _ (search (and_left, and_right));
      few = leb-true _ _ (search (and_left, and_right));
      inside = leb-true _ _ (search (and_left, and_right));
    }

pub well_table : (s : List ℕ) → TableWell s → table_allowed s ≡ true
unfolding table_allowed
well_table s t = both _ _ (both _ _ (both _ _ (eq-eqb _ _ t.entries_sized) (le-leb _ _ t.some)) (le-leb _ _ t.few)) (le-leb _ _ t.inside)

-- ---- 6

no_difference : (g a : Bool) → g ≡ a → ((g && not a) || (a && not g)) ≡ false
no_difference true true e = refl
no_difference false false e = refl
no_difference true false e = e
no_difference false true e = sym e

pub matches : (object order : List ℕ) (i : ℕ) → differs object order i ≡ false → PlacedAsAllocated object order i
unfolding differs
matches object order i e = same_tests _ _ e

pub no_match : (object order : List ℕ) (i : ℕ) → differs object order i ≡ true → PlacedAsAllocated object order i → ⊥
unfolding differs
no_match object order i e m = clash _ (no_difference (is_given (placed_at (class_of object) order i)) (is_allocated object i) m) e

-- ---- 7

undefined : (object : List ℕ) (k : ℕ) → is_undefined object k ≡ true → Undefined object k
unfolding is_undefined
undefined object k e =
    record {
      above = ltb-true _ _ (search (and_left, and_right));
      there = ltb-true _ _ (search (and_left, and_right));
      no_section = eqb-true _ _ (search (and_left, and_right));
    }

undefined_back : (object : List ℕ) (k : ℕ) → Undefined object k → is_undefined object k ≡ true
unfolding is_undefined
undefined_back object k u = both _ _ (both _ _ (lt-ltb _ _ u.above) (lt-ltb _ _ u.there)) (eq-eqb _ _ u.no_section)

wrong_left : (a b : Bool) → (a && not b) ≡ true → a ≡ true
wrong_left a b e = and_left a (not b) e

wrong_right : (a b : Bool) → (a && not b) ≡ true → b ≡ false
wrong_right a b e = not-true b (and_right a (not b) e)

pub valued : (object order : List ℕ) (k : ℕ) → (is_given (external_value (class_of object) order k) && not (is_undefined object k)) ≡ false → ValuedIfUndefined object order k
valued object order k e g = undefined object k (implies _ _ e g)

pub not_valued : (object order : List ℕ) (k : ℕ) → (is_given (external_value (class_of object) order k) && not (is_undefined object k)) ≡ true → ValuedIfUndefined object order k → ⊥
not_valued object order k e v =
    let g : Bool = is_given (external_value (class_of object) order k) in
    let u : Bool = is_undefined object k in
    clash u (wrong_right g u e) (undefined_back object k (v (wrong_left g u e)))

-- ---- 8

one_before : (a b c d : ℕ) → (ltb a b && ltb c d) ≡ false → (b ≤ a) ⊎ (d ≤ c)
one_before a b c d e = go (ltb a b) refl (ltb c d) refl
  where
    go : (x : Bool) → ltb a b ≡ x → (y : Bool) → ltb c d ≡ y → (b ≤ a) ⊎ (d ≤ c)
    go false ex y ey = inl (ltb-false a b ex)
    go true ex false ey = inr (ltb-false c d ey)
    go true ex true ey = clash _ e (both _ _ ex ey)

before_one : (a b c d : ℕ) → (b ≤ a) ⊎ (d ≤ c) → (ltb a b && ltb c d) ≡ false
before_one a b c d (inl h) = rw (le-ltb a b h)
before_one a b c d (inr h) = go (ltb a b)
  where
    go : (x : Bool) → (x && ltb c d) ≡ false
    go true = le-ltb c d h
    go false = refl

-- two sections that share no address
apart_one : (b : Bool) (s t p q r u : ℕ) → b ≡ true → 0 < s → 0 < t → not (b && (ltb 0 s && ltb 0 t && ltb p q && ltb r u)) ≡ true → (q ≤ p) ⊎ (u ≤ r)
apart_one b s t p q r u hb hs ht e =
    let alone : not (ltb p q && ltb r u) ≡ true = rw (hb, lt-ltb 0 s hs, lt-ltb 0 t ht) at e in
    one_before p q r u (not-true _ alone)

one_apart : (b : Bool) (s t p q r u : ℕ) → (b ≡ true → 0 < s → 0 < t → (q ≤ p) ⊎ (u ≤ r)) → not (b && (ltb 0 s && ltb 0 t && ltb p q && ltb r u)) ≡ true
one_apart false s t p q r u h = refl
one_apart true s t p q r u h = go (ltb 0 s) refl (ltb 0 t) refl
  where
    go : (x : Bool) → ltb 0 s ≡ x → (y : Bool) → ltb 0 t ≡ y → not (x && y && ltb p q && ltb r u) ≡ true
    go false ex y ey = refl
    go true ex false ey = refl
    go true ex true ey = ap not (before_one p q r u (h refl (ltb-true 0 s ex) (ltb-true 0 t ey)))

module _ (object a : List ℕ) (start len i : ℕ) where
  abbrev keeps : Bool
  keeps = aligned object a i && ends_in_memory object a i && in_window object a start len i && apart object a i

  placed_keeps : keeps ≡ true → PlacedWell object a start len i
  unfolding aligned ends_in_memory in_window apart share
  placed_keeps e =
      let al : aligned object a i ≡ true = search (and_left, and_right) in
      let en : ends_in_memory object a i ≡ true = search (and_left, and_right) in
      let wi : in_window object a start len i ≡ true = search (and_left, and_right) in
      let far : apart object a i ≡ true = search (and_left, and_right) in
      let low : Bool = leb start (get_or a i 0) in
      let high : Bool = leb (end_of object a i) (start + len) in
      record {
        aligned = eqb-true _ _ al;
        ends = leb-true _ _ en;
        in_window = λ h.
            let w = given (has_bytes (section_at object i)) (low && high) wi h in
            (leb-true _ _ (and_left low high w), leb-true _ _ (and_right low high w));
        apart = λ j l b p q.
            apart_one (allocated (section_at object j)) (section_at object i).size (section_at object j).size (get_or a i 0) (end_of object a j) (get_or a j 0) (end_of object a i) b p q
            (everywhere_at (λ m. not (allocated (section_at object m) && share object a i m)) i far j l);
      }

  keeps_placed : PlacedWell object a start len i → keeps ≡ true
  unfolding aligned ends_in_memory in_window apart share
  keeps_placed w =
      both _ _
      (both _ _ (both _ _ (eq-eqb _ _ w.aligned) (le-leb _ _ w.ends))
      (implied (has_bytes (section_at object i)) (leb start (get_or a i 0) && leb (end_of object a i) (start + len))
      (λ h. both _ _ (le-leb _ _ (w.in_window h).0) (le-leb _ _ (w.in_window h).1))))
      (everywhere_is (λ m. not (allocated (section_at object m) && share object a i m)) i
      (λ j l.
      one_apart (allocated (section_at object j)) (section_at object i).size (section_at object j).size (get_or a i 0) (end_of object a j) (get_or a j 0) (end_of object a i)
      (λ b p q. w.apart j l b p q)))

  pub placed_well : misplaced object a start len i ≡ false → allocated (section_at object i) ≡ true → PlacedWell object a start len i
  unfolding misplaced
  placed_well e b = placed_keeps (implies (allocated (section_at object i)) keeps e b)

  pub placed_wrong : misplaced object a start len i ≡ true → (allocated (section_at object i) ≡ true → PlacedWell object a start len i) → ⊥
  unfolding misplaced
  placed_wrong e w = clash keeps (wrong_right (allocated (section_at object i)) keeps e) (keeps_placed (w (wrong_left (allocated (section_at object i)) keeps e)))

-- ---- 15

module _ (object order journal : List ℕ) (s : Span) (is : IsSpan object order s) where
  pub has_room : no_room (count journal) (held journal) s.size (length journal) ≡ false → Room object order journal
  unfolding no_room
  has_room e =
      let full : Bool = eqb (count journal) max_entries in
      let short : Bool = ltb (length journal) (old_at + held journal + s.size) in
      record {
        entry_free = eqb-false _ _ (neither_left full short e);
        bytes_free = λ t also.
            let left : old_at + held journal + s.size ≤ length journal = ltb-false _ _ (neither_right full short e) in
            let same : t.size ≡ s.size = ap (λ x. x.size) (one_span object order t s also is) in
            omega arith;
      }

  pub room_left : no_room (count journal) (held journal) s.size (length journal) ≡ true → Room object order journal → ⊥
  unfolding no_room
  room_left e r =
      clash (no_room (count journal) (held journal) s.size (length journal)) (rw (ne_eqb _ _ r.entry_free, le-ltb _ _ (r.bytes_free s is))) e
