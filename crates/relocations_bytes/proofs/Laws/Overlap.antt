-- What the overlap rule gives: two non-markers of a site lie apart, or they stack.
use Rattle.std.specs.Prelude.{Some}
use mathlib.Core.Logic.{◌⊎◌, inl, inr, ⊎_elim}
use mathlib.Core.Path.{◌≡◌, refl, sym, ap, ◌∙◌}
use mathlib.Core.Bool.{Bool, true, false, not, cond, ◌&&◌, ◌||◌}
use mathlib.Core.List.{List}
use Prim.Native.Nat.{ℕ, zero, suc, ◌≤◌, ◌<◌}
use native.Mathlib.Omega.{arith}
use native.Mathlib.Decide.{dec_lt}
use lib.Dec.{leb, ltb, eqb}
use borrow.Author.Tests.{leb-true, ltb-true, eqb-true}
use Rattle.numbers_definitions.specs.declared.Class.{Class}
use Rattle.numbers_definitions.proofs.Laws.Tests.{and_left, and_right, never, one_of_two, given}
use Rattle.instructions_fields.specs.declared.Width.{Width}
use Rattle.instructions_fields.specs.declared.Width.TheVariants.{W6, W8, W16, W32, W64}
use Rattle.instructions_fields.specs.declared.Field.{Field}
use Rattle.instructions_fields.specs.declared.Field.TheVariants.{U, I, S, B, J, Cb, Cj, Call, Data}
use Rattle.instructions_fields.specs.Fields.{bits, value_bits}
use Rattle.relocations_types.specs.declared.Calculation.{Calculation}
use Rattle.relocations_types.specs.declared.Rule.{Rule}
use Rattle.relocations_types.specs.declared.Decision.{Decision}
use Rattle.relocations_types.specs.declared.Decision.TheVariants.{Marker, Align, Store, Refused}
use Rattle.relocations_types.specs.Types.{decision}
use Rattle.relocations_rela.specs.declared.sites.Site.{Site}
use Rattle.relocations_rela.specs.Sites.{offset, decision_at}
use Rattle.relocations_decisions.specs.Decisions.{is_store, touched, stacks, stack_bits, stack_width}
use Rattle.relocations_rela.specs.Shape.{end, never_falls, previous, shares_place, clears, no_overlap, shape_well}
use Rattle.relocations_decisions.specs.Widths.{is_data_field}
use Rattle.relocations_decisions.proofs.Laws.Decisions.{field_bytes, store_bytes, store_data}
use Rattle.relocations_rela.proofs.Laws.Shape.{shape_rises, shape_clear}

-- ---- equal widths are equal fields

abbrev width_of : ℕ → Width
width_of n = cond (eqb n 6) W6 (cond (eqb n 8) W8 (cond (eqb n 16) W16 (cond (eqb n 32) W32 W64)))

width_of_lem : (w : Width) → width_of (bits w) ≡ w
width_of_lem W6 = refl
width_of_lem W8 = refl
width_of_lem W16 = refl
width_of_lem W32 = refl
width_of_lem W64 = refl

same_field : (f g : Field) → is_data_field f ≡ true → is_data_field g ≡ true → value_bits f ≡ value_bits g → f ≡ g
same_field (Data v) (Data w) p q e = ap Data (sym (width_of_lem v) ∙ ap width_of e ∙ width_of_lem w)
same_field (Data v) U p q e = never q
same_field (Data v) I p q e = never q
same_field (Data v) S p q e = never q
same_field (Data v) B p q e = never q
same_field (Data v) J p q e = never q
same_field (Data v) Cb p q e = never q
same_field (Data v) Cj p q e = never q
same_field (Data v) Call p q e = never q
same_field U g p q e = never p
same_field I g p q e = never p
same_field S g p q e = never p
same_field B g p q e = never p
same_field J g p q e = never p
same_field Cb g p q e = never p
same_field Cj g p q e = never p
same_field Call g p q e = never p

-- a decision with a stack's width is an ADD, SUB or SET
stack_width_lem : (c : Calculation) (f : Field) → 0 < cond (stacks c) (value_bits f) 0 → (stacks c ≡ true) × (cond (stacks c) (value_bits f) 0 ≡ value_bits f)
stack_width_lem c f h = go (stacks c) h
  where
    go : (b : Bool) → 0 < cond b (value_bits f) 0 → (b ≡ true) × (cond b (value_bits f) 0 ≡ value_bits f)
    go true l = (refl, refl)
    go false l = absurd (omega arith)

-- what two relocations that share their place have in common
pub same_stack : (k : Class) (rvc : Bool) (s t : ℕ) (a b : Rule) → decision k rvc s ≡ Store a → decision k rvc t ≡ Store b → 0 < stack_width (decision k rvc s) → stack_width (decision k rvc s) ≡ stack_width (decision k rvc t)
    → (stacks a.calculation ≡ true) × (stacks b.calculation ≡ true) × (a.field ≡ b.field) × (a.size ≡ b.size)
same_stack k rvc s t a b p q some same =
    let left : 0 < stack_bits a = rw p at some in
    let equal : stack_bits a ≡ stack_bits b = sym (ap stack_width p) ∙ same ∙ ap stack_width q in
    let right : 0 < stack_bits b = omega arith in
    let one = stack_width_lem a.calculation a.field left in
    let two = stack_width_lem b.calculation b.field right in
    let field : a.field ≡ b.field =
    same_field a.field b.field (given (stacks a.calculation) (is_data_field a.field) (store_data k rvc s a p) one.0) (given (stacks b.calculation) (is_data_field b.field) (store_data k rvc t b q) two.0)
    (sym one.1 ∙ equal ∙ two.1) in
    (one.0, two.0, field, store_bytes k rvc s a p ∙ ap field_bytes field ∙ sym (store_bytes k rvc t b q))

-- ---- the relocations of a site that keep check 9

-- both belong to a stack, at the same place
pub record Shares (object : List ℕ) (x : Site) (i j : ℕ) : Type 0 where
  pub place : offset object x i ≡ offset object x j
  pub some : 0 < stack_width (decision_at object x i)
  pub width : stack_width (decision_at object x i) ≡ stack_width (decision_at object x j)

shares : (object : List ℕ) (x : Site) (i j : ℕ) → shares_place object x i j ≡ true → Shares object x i j
unfolding shares_place
shares object x i j e =
    let a : Bool = eqb (offset object x i) (offset object x j) in
    let b : Bool = ltb 0 (stack_width (decision_at object x i)) in
    let c : Bool = eqb (stack_width (decision_at object x i)) (stack_width (decision_at object x j)) in
    record {
      place = eqb-true _ _ (and_left a b (and_left (a && b) c e));
      some = ltb-true _ _ (and_right a b (and_left (a && b) c e));
      width = eqb-true _ _ (and_right (a && b) c e);
    }

-- two relocations that share their place have the same end
same_end : (object : List ℕ) (x : Site) (i j : ℕ) → Shares object x i j → is_store (decision_at object x i) ≡ true → is_store (decision_at object x j) ≡ true → end object x i ≡ end object x j
same_end object x i j s p q = go (decision_at object x i) refl (decision_at object x j) refl p q
  where
    go : (d : Decision) → decision_at object x i ≡ d → (e : Decision) → decision_at object x j ≡ e → is_store d ≡ true → is_store e ≡ true → end object x i ≡ end object x j
    go (Store a) u (Store b) v p q =
        let same = same_stack _ _ _ _ a b u v s.some s.width in
        let left : touched (decision_at object x i) ≡ a.size = ap touched u in
        let right : touched (decision_at object x j) ≡ b.size = ap touched v in
        omega (arith, s.place, same.3)
    go (Store a) u Marker v p q = never q
    go (Store a) u Align v p q = never q
    go (Store a) u Refused v p q = never q
    go Marker u e v p q = never p
    go Align u e v p q = never p
    go Refused u e v p q = never p

module _ (object : List ℕ) (x : Site) (n : ℕ) (kept : (j : ℕ) → j < n → shape_well object x j ≡ true) where
  -- offsets never fall
  pub rises : (i j : ℕ) → i ≤ j → j < n → offset object x i ≤ offset object x j
  unfolding never_falls
  rises i zero h l = let same : i ≡ 0 = omega arith in omega (arith, ap (offset object x) same)
  rises i (suc j) h l = go (dec_lt i (suc j)) (rises i j)
    where
      go : Dec (i < suc j) → (i ≤ j → j < n → offset object x i ≤ offset object x j) → offset object x i ≤ offset object x (suc j)
      go (yes m) rest = omega (arith, rest (omega arith) (omega arith), leb-true (offset object x j) (offset object x (suc j)) (shape_rises object x (suc j) (kept (suc j) l)))
      go (no m) rest = let same : i ≡ suc j = omega arith in omega (arith, ap (offset object x) same)

  -- the previous non-marker is at or after every earlier one
  record Last (i j : ℕ) : Type 0 where
    at : ℕ
    is : previous object x j ≡ Some at
    low : i ≤ at
    high : at < j
    store : is_store (decision_at object x at) ≡ true

  last : (i j : ℕ) → i < j → is_store (decision_at object x i) ≡ true → Last i j
  unfolding previous
  last i zero h s = absurd (omega arith)
  last i (suc j) h s = go (is_store (decision_at object x j)) refl (dec_lt i j) (λ l. last i j l s)
    where
      go : (b : Bool) → is_store (decision_at object x j) ≡ b → Dec (i < j) → (i < j → Last i j) → Last i (suc j)
      go true e d rest = record { at = j; is = rw e; low = omega arith; high = omega arith; store = e }
      go false e (yes l) rest =
          let r = rest l in
          record { at = r.at; is = rw e r.is; low = r.low; high = omega (arith, r.high); store = r.store }
      go false e (no l) rest =
          let same : i ≡ j = omega arith in
          never (sym e ∙ ap (λ k. is_store (decision_at object x k)) (sym same) ∙ s)

  abbrev pub Apart : ℕ → ℕ → Type 0
  Apart i j = (end object x i ≤ offset object x j) ⊎ Shares object x i j

  -- compared with the previous non-marker
  direct : (j k : ℕ) → j < n → is_store (decision_at object x j) ≡ true → previous object x j ≡ Some k → Apart k j
  unfolding no_overlap
  direct j k l s e =
      let clear : not (is_store (decision_at object x j)) || clears object x j (previous object x j) ≡ true = shape_clear object x j (kept j l) in
      let here : leb (end object x k) (offset object x j) || shares_place object x k j ≡ true = rw (s, e) at clear in
      ⊎_elim (λ a. inl (leb-true _ _ a)) (λ b. inr (shares object x k j b)) (one_of_two _ _ here)

  -- the theorem: rule 9 compares only with the previous non-marker, and that is enough for all earlier ones
  pub apart : (b i j : ℕ) → j < b → i < j → j < n → is_store (decision_at object x i) ≡ true → is_store (decision_at object x j) ≡ true → Apart i j
  apart zero i j h l m s t = absurd (omega arith)
  apart (suc b) i j h l m s t =
      let r = last i j l s in
      let near = direct j r.at m t r.is in
      go r.at r.low r.high r.store near (dec_lt i r.at) (apart b i r.at)
    where
      go : (k : ℕ) → i ≤ k → k < j → is_store (decision_at object x k) ≡ true → Apart k j → Dec (i < k)
          → (k < b → i < k → k < n → is_store (decision_at object x i) ≡ true → is_store (decision_at object x k) ≡ true → Apart i k) → Apart i j
      go k low high u near (no z) rest =
          let same : k ≡ i = omega arith in
          mathlib.Core.Path.subst (λ k. Apart k j) same near
      go k low high u near (yes z) rest =
          ⊎_elim (λ e. inl (omega (arith, rises k j (omega arith) m))) (λ e. via e near) (rest (omega arith) z (omega arith) s u)
        where
          via : Shares object x i k → Apart k j → Apart i j
          via e (inl f) = inl (omega (arith, same_end object x i k e s u))
          via e (inr f) = inr (record { place = e.place ∙ f.place; some = e.some; width = e.width ∙ f.width })
