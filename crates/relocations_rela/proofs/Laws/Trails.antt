-- Check 9 by a trail is check 9.
use Rattle.std.specs.Prelude.{None, Option, Some}
use mathlib.Core.Path.{◌≡◌, refl, ap, ◌∙◌}
use mathlib.Core.Bool.{Bool, true, false, not, cond, ◌&&◌, ◌||◌}
use mathlib.Core.List.{List}
use Prim.Native.Nat.{ℕ, zero, suc, ◌+◌, ◌^◌, ◌≤◌, ◌<◌}
use native.Mathlib.Omega.{arith}
use lib.Dec.{leb, ltb, eqb}
use borrow.Author.Tests.{le-leb, leb-true, lt-ltb, ne_eqb}
use Rattle.numbers_definitions.specs.Whole.{signed}
use Rattle.numbers_definitions.proofs.Laws.Tests.{and_left, and_right}
use Rattle.elf_read.specs.declared.Relocation.{Relocation}
use Rattle.relocations_types.specs.declared.Decision.{Decision}
use Rattle.relocations_types.specs.declared.Decision.TheVariants.{Align}
use Rattle.relocations_decisions.specs.Decisions.{is_store, touched, stack_width}
use Rattle.relocations_rela.specs.declared.sites.Site.{Site}
use Rattle.relocations_rela.specs.declared.shape.Trail.{Trail}
use Rattle.relocations_rela.specs.Sites.{entry, offset, decision_at}
use Rattle.relocations_rela.specs.Shape.{end, never_falls, stays_inside, previous, shares_place, clears, no_overlap, addend_well, shape_well}
use Rattle.relocations_rela.proofs.Laws.Addends.{padded_addend}
use Rattle.relocations_rela.specs.Trails.{advanced, trail_at, shares_width, shares_by, shape_by}

module _ (object : List ℕ) (x : Site) where
  -- what a trail says about the previous non-marker
  abbrev pub Says : Option ℕ → Trail → Type 0
  Says None t = (t.end ≡ 0) × (t.width ≡ 0)
  Says (Some k) t = (t.start ≡ offset object x k) × (t.end ≡ end object x k) × (t.width ≡ stack_width (decision_at object x k))

  pub trail_says : (j : ℕ) → Says (previous object x j) (trail_at object x j)
  unfolding previous trail_at advanced
  trail_says zero = (refl, refl)
  trail_says (suc j) = go (is_store (decision_at object x j)) (previous object x j) (trail_says j)
    where
      go : (b : Bool) (p : Option ℕ) → Says p (trail_at object x j)
          → Says (cond b (Some j) p)
          (record {
            offset = (entry object x j).offset.0;
            start = cond b (entry object x j).offset.0 (trail_at object x j).start;
            end = cond b (end object x j) (trail_at object x j).end;
            width = cond b (stack_width (decision_at object x j)) (trail_at object x j).width;
          })
      go true p s = (refl, refl, refl)
      go false None s = s
      go false (Some k) s = s

  rises : (j : ℕ) → leb (trail_at object x j).offset (offset object x j) ≡ never_falls object x j
  unfolding trail_at advanced never_falls
  rises zero = le-leb 0 (offset object x zero) (omega arith)
  rises (suc j) = refl

  or_assoc : (a b c : Bool) → (a || b || c) ≡ (a || (b || c))
  or_assoc true b c = refl
  or_assoc false b c = refl

  clear : (j : ℕ) → (leb (trail_at object x j).end (offset object x j) || shares_by (trail_at object x j) (decision_at object x j) (offset object x j)) ≡ clears object x j (previous object x j)
  unfolding shares_width shares_place
  clear j = go (previous object x j) (trail_says j)
    where
      t : Trail
      t = trail_at object x j

      go : (p : Option ℕ) → Says p t → (leb t.end (offset object x j) || shares_by t (decision_at object x j) (offset object x j)) ≡ clears object x j p
      go None s = rw (s.0, le-leb 0 (offset object x j) (omega arith))
      go (Some k) s = rw (s.0, s.1, s.2)

  pub shape_by_lem : (j : ℕ) → shape_by (trail_at object x j) (decision_at object x j) (entry object x j) x.target.size ≡ shape_well object x j
  unfolding shape_by shape_well stays_inside no_overlap
  shape_by_lem j =
      let s : Bool = not (is_store (decision_at object x j)) in
      let apart : (s || leb (trail_at object x j).end (offset object x j) || shares_by (trail_at object x j) (decision_at object x j) (offset object x j)) ≡ (s || clears object x j (previous object x j)) =
      or_assoc s _ _ ∙ ap (λ b. s || b) (clear j) in
      rw (rises j, apart)

-- what has no width as a stack shares no place
pub no_width_shares : (t : Trail) (at : ℕ) → shares_width t 0 at ≡ false
unfolding shares_width
no_width_shares t at = go (eqb t.start at) t.width
  where
    go : (b : Bool) (w : ℕ) → (b && ltb 0 w && eqb w 0) ≡ false
    go false w = refl
    go true zero = refl
    go true (suc w) = rw (lt-ltb 0 (suc w) (omega arith), ne_eqb (suc w) 0 (λ z. absurd (omega arith)))

-- the addend of an ALIGN that keeps check 9 is at most 4,094
pub padded_by : (t : Trail) (r : Relocation) (size : ℕ) → shape_by t Align r size ≡ true → r.addend < 2 ^ 64 → r.addend ≤ 4094
unfolding shape_by
padded_by t r size kept b =
    let a : addend_well Align r.offset.0 size (signed 64 r.addend) ≡ true = search (and_left, and_right) in
    padded_addend r.offset.0 size r.addend a b

-- the bytes that are touched lie in the section
pub shape_by_inside : (t : Trail) (d : Decision) (r : Relocation) (size : ℕ) → shape_by t d r size ≡ true → r.offset.0 + touched d ≤ size
unfolding shape_by
shape_by_inside t d r size e = let inside : leb (r.offset.0 + touched d) size ≡ true = search (and_left, and_right) in leb-true _ _ inside
