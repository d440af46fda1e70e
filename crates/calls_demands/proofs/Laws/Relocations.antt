-- Each test of checks 9 and 11 to 14 is equivalent to the rule that it is named after. Check 10 is in `Symbols`.
use Rattle.std.specs.Prelude.{None, Option, Some}
use mathlib.Core.Logic.{◌⊎◌, inl, inr, ⊎_elim}
use mathlib.Core.Path.{◌≡◌, refl, sym, ap, ◌∙◌, subst}
use mathlib.Core.Bool.{Bool, true, false, not, cond, ◌&&◌}
use mathlib.Core.List.{List}
use Prim.Native.Nat.{ℕ, zero, suc, ◌+◌, ◌/◌, ◌%◌, ◌^◌, ◌≤◌}
use native.Mathlib.Omega.{arith}
use lib.Dec.{leb, eqb}
use lib.IntN.{ℤ, pos, negsuc, nat_abs}
use borrow.Author.Tests.{leb-true, ltb-true, eqb-true, le-leb, lt-ltb, eq-eqb, not-true}
use Rattle.numbers_definitions.specs.Bytes.{le_at}
use Rattle.numbers_definitions.specs.declared.Class.{Class}
use Rattle.numbers_definitions.specs.declared.Class.TheVariants.{Elf32, Elf64}
use Rattle.numbers_definitions.specs.Classes.{bits}
use Rattle.numbers_definitions.specs.Whole.{signed, within, even, minus}
use Rattle.numbers_definitions.specs.Powers.{ceil_power}
use Rattle.numbers_definitions.proofs.Laws.Tests.{and_left, and_right, never, both, one_of_two, or_two, or_right, given, implied}
use Rattle.instructions_fields.specs.declared.Field.{Field}
use Rattle.instructions_riscv.specs.declared.forms.Form.{Form}
use Rattle.instructions_riscv.specs.Forms.{has_form}
use Rattle.instructions_riscv.specs.Ranges.{distance, range_of, reaches, keeps_alignment, halves_reach}
use Rattle.relocations_types.specs.declared.Calculation.{Calculation}
use Rattle.relocations_types.specs.declared.Calculation.TheVariants.{Of, Add, Sub, Set}
use Rattle.relocations_types.specs.declared.Operand.{Operand}
use Rattle.relocations_types.specs.declared.Operand.TheVariants.{Absolute, PcRelative, Paired}
use Rattle.relocations_types.specs.declared.Part.{Part}
use Rattle.relocations_types.specs.declared.Part.TheVariants.{Whole, Distance, High, Low, BothHalves}
use Rattle.relocations_types.specs.declared.Rule.{Rule}
use Rattle.relocations_types.specs.declared.Decision.{Decision}
use Rattle.relocations_types.specs.declared.Decision.TheVariants.{Marker, Align, Store, Refused}
use Rattle.elf_read.specs.Headers.{class_of, has_rvc}
use Rattle.relocations_rela.specs.declared.sites.Site.{Site}
use Rattle.relocations_rela.specs.Sites.{decision_at, offset, A, P, found}
use Rattle.relocations_decisions.specs.Decisions.{is_store, is_refused, takes_pair, needs_pair}
use Rattle.relocations_rela.specs.Shape.{never_falls, end, stays_inside, previous, shares_place, clears, no_overlap, addend_well, shape_well}
use Rattle.relocations_values.specs.Pairs.{pair_of}
use Rattle.relocations_rules.specs.Rules.{symbol, is_data, stands_well, asks_well, form_well, is_one, pair_well, operand_reaches, part_reaches, reaches_well, distance_well, boundary_well}
use Rattle.calls_demands.specs.Rules.{Within, Even, SharePlace, PaddingWell, ShapeWell, FormWell, PairWell, KeepsAlignment, InHalvesReach, OperandReachable, PartReachable, Reachable, ReachWell, BoundaryWell}

-- whole numbers

within_is : (back ahead : ℕ) (z : ℤ) → within back ahead z ≡ true → Within back ahead z
unfolding within
within_is back ahead (pos n) e = leb-true _ _ e
within_is back ahead (negsuc n) e = leb-true _ _ e

is_within : (back ahead : ℕ) (z : ℤ) → Within back ahead z → within back ahead z ≡ true
unfolding within
is_within back ahead (pos n) h = le-leb _ _ h
is_within back ahead (negsuc n) h = le-leb _ _ h

even_is : (z : ℤ) → even z ≡ true → Even z
unfolding even
even_is z e = eqb-true _ _ e

is_even : (z : ℤ) → Even z → even z ≡ true
unfolding even
is_even z h = eq-eqb _ _ h

module _ (object : List ℕ) (x : Site) where
  -- ---- 9

  rises : (j : ℕ) → never_falls object x j ≡ true → (i : ℕ) → suc i ≡ j → offset object x i ≤ offset object x j
  unfolding never_falls
  rises zero e i p = absurd (omega arith)
  rises (suc m) e i p = let same : m ≡ i = omega arith in subst (λ k. offset object x k ≤ offset object x (suc m)) same (leb-true _ _ e)

  rises_back : (j : ℕ) → ((i : ℕ) → suc i ≡ j → offset object x i ≤ offset object x j) → never_falls object x j ≡ true
  unfolding never_falls
  rises_back zero h = refl
  rises_back (suc m) h = le-leb _ _ (h m refl)

  shares : (i j : ℕ) → shares_place object x i j ≡ true → SharePlace object x i j
  unfolding shares_place
  shares i j e =
      record {
        same_offset = eqb-true _ _ (search (and_left, and_right));
        stacked = ltb-true _ _ (search (and_left, and_right));
        same_width = eqb-true _ _ (search (and_left, and_right));
      }

  shares_back : (i j : ℕ) → SharePlace object x i j → shares_place object x i j ≡ true
  unfolding shares_place
  shares_back i j s = both _ _ (both _ _ (eq-eqb _ _ s.same_offset) (lt-ltb _ _ s.stacked)) (eq-eqb _ _ s.same_width)

  cleared : (j : ℕ) → no_overlap object x j ≡ true → is_store (decision_at object x j) ≡ true → (i : ℕ) → previous object x j ≡ Some i
      → (end object x i ≤ offset object x j) ⊎ SharePlace object x i j
  unfolding no_overlap
  cleared j e s i p =
      let clear : clears object x j (Some i) ≡ true = ap (clears object x j) (sym p) ∙ given (is_store (decision_at object x j)) (clears object x j (previous object x j)) e s in
      ⊎_elim (λ a. inl (leb-true _ _ a)) (λ a. inr (shares i j a)) (one_of_two (leb (end object x i) (offset object x j)) (shares_place object x i j) clear)

  clear_back : (j : ℕ) → (is_store (decision_at object x j) ≡ true → (i : ℕ) → previous object x j ≡ Some i → (end object x i ≤ offset object x j) ⊎ SharePlace object x i j)
      → no_overlap object x j ≡ true
  unfolding no_overlap
  clear_back j h = implied (is_store (decision_at object x j)) (clears object x j (previous object x j)) (λ s. go s (previous object x j) refl)
    where
      go : is_store (decision_at object x j) ≡ true → (p : Option ℕ) → previous object x j ≡ p → clears object x j p ≡ true
      go s None e = refl
      go s (Some i) e =
          or_two (leb (end object x i) (offset object x j)) (shares_place object x i j)
          (⊎_elim (λ a. inl (le-leb _ _ a)) (λ a. inr (shares_back i j a)) (h s i e))

  abbrev addend_is : Decision → ℕ → Bool
  addend_is d j = addend_well d (offset object x j) x.target.size (A object x j)

  padded : (j : ℕ) → addend_is Align j ≡ true → PaddingWell object x j
  padded j e =
      record {
        in_range = within_is 0 4094 (A object x j) (search (and_left, and_right));
        is_even = even_is (A object x j) (search (and_left, and_right));
        inside = leb-true _ _ (search (and_left, and_right));
      }

  no_addend_of : (d : Decision) (j : ℕ) → addend_is d j ≡ true → needs_pair d ≡ true → nat_abs (A object x j) ≡ 0
  no_addend_of (Store r) j e p = eqb-true _ _ (given (takes_pair r.calculation) (eqb (nat_abs (A object x j)) 0) e p)
  no_addend_of Marker j e p = never p
  no_addend_of Align j e p = never p
  no_addend_of Refused j e p = never p

  addend_back : (d : Decision) (j : ℕ) → (d ≡ Align → PaddingWell object x j) → (needs_pair d ≡ true → nat_abs (A object x j) ≡ 0) → addend_is d j ≡ true
  addend_back (Store r) j h g = implied (takes_pair r.calculation) (eqb (nat_abs (A object x j)) 0) (λ p. eq-eqb _ _ (g p))
  addend_back Align j h g = let w = h refl in both _ _ (both _ _ (is_within 0 4094 (A object x j) w.in_range) (is_even (A object x j) w.is_even)) (le-leb _ _ w.inside)
  addend_back Marker j h g = refl
  addend_back Refused j h g = refl

  pub shape_well_lem : (j : ℕ) → shape_well object x j ≡ true → ShapeWell object x j
  unfolding shape_well stays_inside
  shape_well_lem j e =
      let known : not (is_refused (decision_at object x j)) ≡ true = search (and_left, and_right) in
      let rising : never_falls object x j ≡ true = search (and_left, and_right) in
      let inside : stays_inside object x j ≡ true = search (and_left, and_right) in
      let clear : no_overlap object x j ≡ true = search (and_left, and_right) in
      let addend : addend_is (decision_at object x j) j ≡ true = search (and_left, and_right) in
      record {
        known = not-true _ known;
        rising = rises j rising;
        inside = leb-true _ _ inside;
        clear = cleared j clear;
        padding = λ a. padded j (ap (λ d. addend_is d j) (sym a) ∙ addend);
        no_addend = no_addend_of (decision_at object x j) j addend;
      }

  pub well_shape : (j : ℕ) → ShapeWell object x j → shape_well object x j ≡ true
  unfolding shape_well stays_inside
  well_shape j s =
      both _ _ (both _ _ (both _ _ (both _ _ (ap not s.known) (rises_back j s.rising)) (le-leb _ _ s.inside)) (clear_back j s.clear))
      (addend_back (decision_at object x j) j s.padding s.no_addend)

  -- ---- 11

  pub form_well_lem : (j : ℕ) → form_well object x j ≡ true → FormWell object x j
  unfolding form_well stands_well
  form_well_lem j e r is code =
      let form : Form = r.form in
      let w : ℕ = le_at r.size (found object x) (offset object x j) in
      let stands : stands_well (class_of object) form (P object x j) w ≡ true = ap (λ d. asks_well (class_of object) d (P object x j) (found object x) (offset object x j)) (sym is) ∙ e in
      let kept : (eqb (P object x j % 2) 0 && has_form (class_of object) form w (w / 2 ^ 32)) ≡ true = rw code at stands in
      (eqb-true _ _ (and_left (eqb (P object x j % 2) 0) (has_form (class_of object) form w (w / 2 ^ 32)) kept), and_right (eqb (P object x j % 2) 0) (has_form (class_of object) form w (w / 2 ^ 32)) kept)

  pub well_form : (j : ℕ) → FormWell object x j → form_well object x j ≡ true
  unfolding form_well stands_well
  well_form j h = go (decision_at object x j) h
    where
      go : (d : Decision)
          → ((r : Rule) → d ≡ Store r → is_data r.form ≡ false
          → (P object x j % 2 ≡ 0) × (has_form (class_of object) r.form (le_at r.size (found object x) (offset object x j)) (le_at r.size (found object x) (offset object x j) / 2 ^ 32) ≡ true))
          → asks_well (class_of object) d (P object x j) (found object x) (offset object x j) ≡ true
      go (Store r) h = split (is_data r.form) refl
        where
          split : (b : Bool) → is_data r.form ≡ b → stands_well (class_of object) r.form (P object x j) (le_at r.size (found object x) (offset object x j)) ≡ true
          split true e = rw e
          split false e = let k = h r refl e in rw (e, eq-eqb (P object x j % 2) 0 k.0) k.1
      go Marker h = refl
      go Align h = refl
      go Refused h = refl

  -- ---- 12

  is_one_lem : (b : Bool) (k : ℕ) → is_one (cond b (Some k) None) ≡ b
  is_one_lem true k = refl
  is_one_lem false k = refl

  pub pair_well_lem : (j : ℕ) → pair_well object x j ≡ true → PairWell object x j
  unfolding pair_well pair_of
  pair_well_lem j e p = eqb-true _ _ (sym (is_one_lem _ _) ∙ given (needs_pair (decision_at object x j)) (is_one (pair_of object x (symbol object x j).value)) e p)

  pub well_pair : (j : ℕ) → PairWell object x j → pair_well object x j ≡ true
  unfolding pair_well pair_of
  well_pair j h = implied (needs_pair (decision_at object x j)) (is_one (pair_of object x (symbol object x j).value)) (λ p. is_one_lem _ _ ∙ eq-eqb _ _ (h p))

  -- ---- 13

  in_halves : (c : Class) (v : ℕ) → halves_reach c v ≡ true → InHalvesReach c v
  in_halves Elf32 v e = tt
  in_halves Elf64 v e = within_is 2147485696 2147481599 (signed 64 v) e

  operand_reached : (c : Class) (o : Operand) (t p : ℕ) → operand_reaches c o t p ≡ true → OperandReachable c o t p
  operand_reached c Absolute t p e = in_halves c t e
  operand_reached c PcRelative t p e = in_halves c (minus (bits c) t p) e
  operand_reached c Paired t p e = tt

  kept_aligned : (rvc : Bool) (z : ℤ) → keeps_alignment rvc z ≡ true → KeepsAlignment rvc z
  unfolding keeps_alignment
  kept_aligned rvc z e clear = eqb-true _ _ (or_right rvc (eqb (nat_abs z % 4) 0) clear e)

  module _ (c : Class) (rvc : Bool) where
    part_reached : (part : Part) (o : Operand) (f : Field) (t p : ℕ) → part_reaches c rvc part o f t p ≡ true → PartReachable c rvc part o f t p
    unfolding reaches
    part_reached Whole o f t p e = tt
    part_reached Distance o f t p e =
        let z : ℤ = distance (bits c) t p in
        let near : (even z && within (range_of f).back (range_of f).ahead z) ≡ true = and_left (reaches (range_of f) z) (keeps_alignment rvc z) e in
        record {
          is_even = even_is z (and_left (even z) (within (range_of f).back (range_of f).ahead z) near);
          in_range = within_is (range_of f).back (range_of f).ahead z (and_right (even z) (within (range_of f).back (range_of f).ahead z) near);
          aligned = kept_aligned rvc z (and_right (reaches (range_of f) z) (keeps_alignment rvc z) e);
        }
    part_reached High o f t p e = operand_reached c o t p e
    part_reached Low o f t p e = tt
    part_reached BothHalves o f t p e =
        let d : ℤ = pos (minus (bits c) t p) in
        let near : (even d && operand_reaches c o t p) ≡ true = and_left (even d && operand_reaches c o t p) (keeps_alignment rvc d) e in (
          even_is d (and_left (even d) (operand_reaches c o t p) near),
          operand_reached c o t p (and_right (even d) (operand_reaches c o t p) near),
          kept_aligned rvc d (and_right (even d && operand_reaches c o t p) (keeps_alignment rvc d) e),
        )

    reached : (m : Calculation) (f : Field) (t p : ℕ) → reaches_well c rvc m f t p ≡ true → Reachable c rvc m f t p
    reached (Of part operand) f t p e = part_reached part operand f t p e
    reached Add f t p e = tt
    reached Sub f t p e = tt
    reached Set f t p e = tt

  halves_back : (c : Class) (v : ℕ) → InHalvesReach c v → halves_reach c v ≡ true
  halves_back Elf32 v r = refl
  halves_back Elf64 v r = is_within 2147485696 2147481599 (signed 64 v) r

  operand_back : (c : Class) (o : Operand) (t p : ℕ) → OperandReachable c o t p → operand_reaches c o t p ≡ true
  operand_back c Absolute t p r = halves_back c t r
  operand_back c PcRelative t p r = halves_back c (minus (bits c) t p) r
  operand_back c Paired t p r = refl

  aligned_back : (rvc : Bool) (z : ℤ) → KeepsAlignment rvc z → keeps_alignment rvc z ≡ true
  unfolding keeps_alignment
  aligned_back true z h = refl
  aligned_back false z h = eq-eqb _ _ (h refl)

  module _ (c : Class) (rvc : Bool) where
    part_back : (part : Part) (o : Operand) (f : Field) (t p : ℕ) → PartReachable c rvc part o f t p → part_reaches c rvc part o f t p ≡ true
    unfolding reaches
    part_back Whole o f t p r = refl
    part_back Distance o f t p r =
        let z : ℤ = distance (bits c) t p in
        both (reaches (range_of f) z) (keeps_alignment rvc z)
        (both _ _ (is_even z r.is_even) (is_within (range_of f).back (range_of f).ahead z r.in_range))
        (aligned_back rvc z r.aligned)
    part_back High o f t p r = operand_back c o t p r
    part_back Low o f t p r = refl
    part_back BothHalves o f t p r =
        let d : ℤ = pos (minus (bits c) t p) in
        both (even d && operand_reaches c o t p) (keeps_alignment rvc d)
        (both (even d) (operand_reaches c o t p) (is_even d r.0) (operand_back c o t p r.1))
        (aligned_back rvc d r.2)

    reaches_back : (m : Calculation) (f : Field) (t p : ℕ) → Reachable c rvc m f t p → reaches_well c rvc m f t p ≡ true
    reaches_back (Of part operand) f t p r = part_back part operand f t p r
    reaches_back Add f t p r = refl
    reaches_back Sub f t p r = refl
    reaches_back Set f t p r = refl

  pub reach_well : (j t : ℕ) → distance_well (class_of object) (has_rvc object) (decision_at object x j) t (P object x j) ≡ true → ReachWell object x j t
  reach_well j t e r is = reached (class_of object) (has_rvc object) r.calculation r.field t (P object x j) (ap (λ d. distance_well (class_of object) (has_rvc object) d t (P object x j)) (sym is) ∙ e)

  pub well_reach : (j t : ℕ) → ReachWell object x j t → distance_well (class_of object) (has_rvc object) (decision_at object x j) t (P object x j) ≡ true
  well_reach j t h = go (decision_at object x j) h
    where
      go : (d : Decision) → ((r : Rule) → d ≡ Store r → Reachable (class_of object) (has_rvc object) r.calculation r.field t (P object x j))
          → distance_well (class_of object) (has_rvc object) d t (P object x j) ≡ true
      go (Store r) h = reaches_back (class_of object) (has_rvc object) r.calculation r.field t (P object x j) (h r refl)
      go Marker h = refl
      go Align h = refl
      go Refused h = refl

  -- ---- 14

  pub boundary_well_lem : (j : ℕ) → boundary_well (decision_at object x j) (P object x j) (A object x j) ≡ true → BoundaryWell object x j
  boundary_well_lem j e a = eqb-true _ _ (ap (λ d. boundary_well d (P object x j) (A object x j)) (sym a) ∙ e)

  pub well_boundary : (j : ℕ) → BoundaryWell object x j → boundary_well (decision_at object x j) (P object x j) (A object x j) ≡ true
  well_boundary j h = go (decision_at object x j) h
    where
      go : (d : Decision) → (d ≡ Align → (P object x j + nat_abs (A object x j)) % ceil_power 32 (nat_abs (A object x j) + 2) ≡ 0) → boundary_well d (P object x j) (A object x j) ≡ true
      go Align h = eq-eqb _ _ (h refl)
      go (Store r) h = refl
      go Marker h = refl
      go Refused h = refl
