-- Laws of check 9.
use Rattle.std.specs.Prelude.{Some}
use mathlib.Core.Path.{◌≡◌, refl, sym, ap, ◌∙◌}
use mathlib.Core.Bool.{Bool, true, false, not, cond}
use mathlib.Core.List.{List}
use Prim.Native.Nat.{ℕ, zero, suc, ◌-◌, ◌^◌, ◌≤◌, ◌<◌}
use native.Mathlib.Omega.{arith}
use lib.Dec.{leb}
use borrow.Author.Tests.{leb-true, not-true}
use Rattle.numbers_definitions.proofs.Laws.Tests.{and_left, and_right}
use Rattle.relocations_types.specs.declared.Decision.TheVariants.{Align}
use Rattle.relocations_rela.specs.declared.sites.Site.{Site}
use Rattle.relocations_rela.specs.Sites.{entry, offset, decision_at, A}
use Rattle.relocations_decisions.specs.Decisions.{is_store, is_refused}
use Rattle.relocations_rela.specs.Shape.{end, never_falls, stays_inside, previous, no_overlap, addend_well, shape_well}
use Rattle.relocations_rela.proofs.Laws.Addends.{padded_addend}

module _ (object : List ℕ) (x : Site) where
  -- the previous non-marker has a lower number
  pub previous_below : (j k : ℕ) → previous object x j ≡ Some k → k < j
  unfolding previous
  previous_below zero k e =
      let z : ◌≡◌ {A = ℕ} 0 1 = cc in
      absurd (omega arith)
  previous_below (suc j) k e = go (is_store (decision_at object x j)) e (previous_below j k)
    where
      go : (b : Bool) → cond b (Some j) (previous object x j) ≡ Some k → (previous object x j ≡ Some k → k < j) → k < suc j
      go true q rest =
          let same : j ≡ k = cc in
          omega arith
      go false q rest = omega (arith, rest q)

  -- the rule with the relocation before it written as j - 1
  pub never_falls_after : (j : ℕ) → (j ≡ 0 → ⊥) → never_falls object x j ≡ leb (offset object x (j - 1)) (offset object x j)
  unfolding never_falls
  never_falls_after zero h = absurd (h refl)
  never_falls_after (suc j) h =
      let back : suc j - 1 ≡ j = omega arith in
      rw back

-- ---- check 9, taken apart

module _ (object : List ℕ) (x : Site) (j : ℕ) (kept : shape_well object x j ≡ true) where
  pub shape_known : is_refused (decision_at object x j) ≡ false
  unfolding shape_well
  shape_known =
      let known : not (is_refused (decision_at object x j)) ≡ true = search (and_left, and_right) in
      not-true _ known

  pub shape_rises : never_falls object x j ≡ true
  unfolding shape_well
  shape_rises = search (and_left, and_right)

  pub shape_inside : end object x j ≤ x.target.size
  unfolding shape_well stays_inside
  shape_inside =
      let inside : leb (end object x j) x.target.size ≡ true = search (and_left, and_right) in
      leb-true _ _ inside

  pub shape_clear : no_overlap object x j ≡ true
  unfolding shape_well
  shape_clear = search (and_left, and_right)

  pub shape_addend : addend_well (decision_at object x j) (offset object x j) x.target.size (A object x j) ≡ true
  unfolding shape_well
  shape_addend = search (and_left, and_right)

-- the addend of an ALIGN is at most 4,094
pub padded : (object : List ℕ) (x : Site) (j : ℕ) → shape_well object x j ≡ true → decision_at object x j ≡ Align → (entry object x j).addend < 2 ^ 64 → (entry object x j).addend ≤ 4094
padded object x j kept e b =
    padded_addend (offset object x j) x.target.size (entry object x j).addend
    (sym (ap (λ d. addend_well d (offset object x j) x.target.size (A object x j)) e) ∙ shape_addend object x j kept) b
