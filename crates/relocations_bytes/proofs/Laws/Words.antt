-- The bytes that a relocation finds are those that the previous non-marker left, if they share their place, and otherwise the object's.
use Rattle.std.specs.Prelude.{None, Option, Some}
use mathlib.Core.Logic.{inr, ⊎_elim}
use mathlib.Core.Path.{◌≡◌, refl, sym, ap, ◌∙◌}
use mathlib.Core.Bool.{Bool, true, false, not, cond, ◌&&◌, ◌||◌}
use mathlib.Core.List.{List}
use Prim.Native.Nat.{ℕ, zero, suc, ◌+◌, ◌^◌, ◌≤◌, ◌<◌}
use native.Mathlib.Nat.{mod-eq_of_lt}
use native.Mathlib.Omega.{arith}
use native.Mathlib.Decide.{dec_lt}
use lib.ListN.{length}
use lib.Dec.{leb, ltb, eqb}
use lib.Seq.{sets}
use borrow.Author.Tests.{leb-true, ltb-true, eqb-true}
use Rattle.numbers_definitions.specs.Bytes.{le_at, bytes}
use Rattle.numbers_definitions.proofs.Laws.Tests.{and_left, and_right, never, one_of_two}
use Rattle.numbers_definitions.proofs.Laws.Bytes.{le_at_sets}
use Rattle.elf_read.specs.Headers.{address_width}
use Rattle.relocations_types.specs.declared.Decision.{Decision}
use Rattle.relocations_types.specs.declared.Decision.TheVariants.{Marker, Align, Store, Refused}
use Rattle.relocations_types.specs.declared.Rule.{Rule}
use Rattle.relocations_decisions.specs.Decisions.{is_store, touched, stack_width}
use Rattle.relocations_decisions.proofs.Laws.Decisions.{store_width, store_bytes, width_some}
use Rattle.relocations_rela.specs.declared.sites.Site.{Site}
use Rattle.relocations_rela.specs.declared.shape.Trail.{Trail}
use Rattle.relocations_rela.specs.Sites.{offset, decision_at, P, found}
use Rattle.relocations_rela.specs.Shape.{end, previous, clears, no_overlap, shares_place, shape_well}
use Rattle.relocations_rela.specs.Trails.{trail_at, shares_width, shares_by}
use Rattle.relocations_rela.specs.Requires.{SoundSite}
use Rattle.relocations_rela.proofs.Laws.Sites.{store_inside}
use Rattle.relocations_rela.proofs.Laws.Shape.{shape_inside, shape_clear}
use Rattle.relocations_rela.proofs.Laws.Trails.{Says, trail_says}
use Rattle.relocations_bytes.specs.Sections.{sum_at, pair_distance, applied, after}
use Rattle.relocations_bytes.specs.Words.{word, word_from, word_at, last_word}
use Rattle.relocations_bytes.proofs.Laws.Sections.{applied_store, applied_marker}
use Rattle.relocations_bytes.proofs.Laws.Overlap.{Shares, same_stack, rises, apart}
use Rattle.relocations_bytes.proofs.Laws.After.{length_after, applied_other}
use Rattle.relocations_bytes.proofs.Laws.ReadBack.{patched_lt}

module _ (object order addresses : List ℕ) (x : Site) where
  abbrev now : ℕ → List ℕ
  now m = after object order addresses x m

  -- ---- one step

  -- a relocation that stores leaves its word, and any other leaves all as it is
  pub after_store : (j : ℕ) → is_store (decision_at object x j) ≡ true → now (suc j) ≡ sets (now j) (offset object x j) (bytes (touched (decision_at object x j)) (word_at object order addresses x j))
  unfolding after word_at
  after_store j s = go (decision_at object x j) refl s
    where
      go : (d : Decision) → decision_at object x j ≡ d → is_store d ≡ true
          → applied object order addresses x j (now j)
          ≡ sets (now j) (offset object x j)
          (bytes (touched (decision_at object x j)) (word_from object order addresses x j (le_at (touched (decision_at object x j)) (now j) (offset object x j))))
      go (Store r) e s =
          applied_store object order addresses x j r (now j) e
          ∙ sym (ap (λ d. sets (now j) (offset object x j)
          (bytes (touched d) (word (address_width object) d (le_at (touched d) (now j) (offset object x j)) (sum_at object order addresses x j) (P object x j) (pair_distance object order addresses x j)))) e)
      go Marker e s = never s
      go Align e s = never s
      go Refused e s = never s

  pub after_other : (j : ℕ) → is_store (decision_at object x j) ≡ false → now (suc j) ≡ now j
  unfolding after
  after_other j s = applied_marker object order addresses x j (now j) s

  -- ---- the previous non-marker

  abbrev Last : Option ℕ → ℕ → Type 0
  Last None j = (now j ≡ found object x) × ((i : ℕ) → i < j → is_store (decision_at object x i) ≡ false)
  Last (Some k) j =
      (k < j) × (is_store (decision_at object x k) ≡ true) × (last_word object order addresses x j ≡ word_at object order addresses x k) × (now j ≡ now (suc k))
      × ((i : ℕ) → k < i → i < j → is_store (decision_at object x i) ≡ false)

  last : (j : ℕ) → Last (previous object x j) j
  unfolding previous last_word after
  last zero = (refl, λ i h. absurd (omega arith))
  last (suc j) = go (is_store (decision_at object x j)) refl (previous object x j) (last j)
    where
      below : (P : ℕ → Type 0) → P j → ((i : ℕ) → i < j → P i) → (i : ℕ) → i < suc j → P i
      below P here rest i h = choose (dec_lt i j)
        where
          choose : Dec (i < j) → P i
          choose (yes l) = rest i l
          choose (no l) =
              let same : j ≡ i = omega arith in
              mathlib.Core.Path.subst P same here

      go : (b : Bool) → is_store (decision_at object x j) ≡ b → (p : Option ℕ) → Last p j → Last (cond b (Some j) p) (suc j)
      go true e p l = (omega arith, e, rw e, refl, λ i h m. absurd (omega arith))
      go false e None l = (after_other j e ∙ l.0, below (λ i. is_store (decision_at object x i) ≡ false) e l.1)
      go false e (Some k) l =
          (omega (arith, l.0), l.1, rw e l.2, after_other j e ∙ l.3, λ i h m. below (λ i. k < i → is_store (decision_at object x i) ≡ false) (λ z. e) (λ i m h. l.4 i h m) i m h)

-- ---- the bytes that relocation j finds

module _ (object order addresses : List ℕ) (x : Site) (sound : SoundSite object x) (j : ℕ) (kept : (i : ℕ) → i < suc j → shape_well object x i ≡ true) (r : Rule)
    (e : decision_at object x j ≡ Store r) where
  abbrev at : ℕ
  at = offset object x j

  abbrev n : ℕ
  n = r.size

  abbrev s : ℕ → List ℕ
  s m = after object order addresses x m

  abbrev t : Trail
  t = trail_at object x j

  store : is_store (decision_at object x j) ≡ true
  store = ap is_store e

  -- what a trail that shares the place says
  record Shared : Type 0 where
    place : t.start ≡ at
    some : 0 < t.width
    width : t.width ≡ stack_width (decision_at object x j)

  shared : shares_by t (decision_at object x j) at ≡ true → Shared
  unfolding shares_width
  shared q =
      let a : Bool = eqb t.start at in
      let b : Bool = ltb 0 t.width in
      let c : Bool = eqb t.width (stack_width (decision_at object x j)) in
      record {
        place = eqb-true _ _ (and_left a b (and_left (a && b) c q));
        some = ltb-true _ _ (and_right a b (and_left (a && b) c q));
        width = eqb-true _ _ (and_right (a && b) c q);
      }

  -- what the previous non-marker left, if they share their place
  together : (k : ℕ) → Says object x (Some k) t → Last object order addresses x (Some k) j → Shared → le_at n (s j) at ≡ last_word object order addresses x j
  unfolding word_at
  together k says last share = go (decision_at object x k) refl last.1
    where
      go : (d : Decision) → decision_at object x k ≡ d → is_store d ≡ true → le_at n (s j) at ≡ last_word object order addresses x j
      go (Store q) p u =
          let some : 0 < stack_width (decision_at object x k) = omega (arith, says.2, share.some) in
          let same = same_stack _ _ _ _ q r p e some (sym says.2 ∙ share.width) in
          let many : touched (decision_at object x k) ≡ n = ap touched p ∙ same.3 in
          let place : offset object x k ≡ at = sym says.0 ∙ share.place in
          let w : ℕ = word_at object order addresses x k in
          let inside = store_inside object x j sound (shape_inside object x j (kept j (omega arith))) n (ap touched e) in
          let fits : at + n ≤ length (s k) = omega (arith, length_after object order addresses x k) in
          let small : w < 256 ^ n =
          rw p (rw (sym same.3) (patched_lt (address_width object) q.calculation q.field _ _ _ _ q.size (store_bytes _ _ _ q p))) in
          ap (λ l. le_at n l at) (last.3 ∙ after_store object order addresses x k last.1)
          ∙ ap (λ m. le_at n (sets (s k) (offset object x k) (bytes m w)) at) many
          ∙ ap (λ i. le_at n (sets (s k) i (bytes n w)) at) place
          ∙ le_at_sets n (s k) at w fits
          ∙ mod-eq_of_lt small
          ∙ sym last.2
      go Marker p u = never u
      go Align p u = never u
      go Refused p u = never u

  -- all that was stored before ends at or before the place, if it is not shared
  away : (k : ℕ) → Last object order addresses x (Some k) j → end object x k ≤ at → (i : ℕ) → i < j → is_store (decision_at object x i) ≡ true → end object x i ≤ at
  away k last ends i h u = ⊎_elim (λ a. a) (λ q. absurd (not_shared q (dec_lt k i))) (apart object x (suc j) kept (suc j) i j (omega arith) h (omega arith) u store)
    where
      size : (d : Decision) → decision_at object x k ≡ d → is_store d ≡ true → 0 < touched (decision_at object x k)
      size (Store q) p v =
          let many : touched (decision_at object x k) ≡ q.size = ap touched p in
          omega (arith, width_some q.size (store_width _ _ _ q p))
      size Marker p v = never v
      size Align p v = never v
      size Refused p v = never v

      not_shared : Shares object x i j → Dec (k < i) → ⊥
      not_shared q (yes l) = never (sym (last.4 i l h) ∙ u)
      not_shared q (no l) =
          let low : offset object x i ≤ offset object x k = rises object x (suc j) kept i k (omega arith) (omega (arith, last.0)) in
          let some : 0 < touched (decision_at object x k) = size (decision_at object x k) refl last.1 in
          omega (arith, q.place)

  unchanged : ((i : ℕ) → i < j → is_store (decision_at object x i) ≡ true → end object x i ≤ at) → (m : ℕ) → m ≤ j → le_at n (s m) at ≡ le_at n (found object x) at
  unfolding after
  unchanged far zero h = refl
  unchanged far (suc m) h = go (is_store (decision_at object x m)) refl ∙ unchanged far m (omega arith)
    where
      go : (b : Bool) → is_store (decision_at object x m) ≡ b → le_at n (s (suc m)) at ≡ le_at n (s m) at
      go true u = applied_other object order addresses x m n at (s m) (inr (far m (omega arith) u))
      go false u = ap (λ l. le_at n l at) (after_other object order addresses x m u)

  -- the previous non-marker ends at or before the place, if it is not shared
  cleared : (k : ℕ) → previous object x j ≡ Some k → Says object x (Some k) t → shares_by t (decision_at object x j) at ≡ false → end object x k ≤ at
  unfolding no_overlap shares_width shares_place
  cleared k p says none =
      let clear : not (is_store (decision_at object x j)) || clears object x j (previous object x j) ≡ true = shape_clear object x j (kept j (omega arith)) in
      let here : (leb (end object x k) at || shares_place object x k j) ≡ true = rw (store, p) at clear in
      let none : shares_place object x k j ≡ false = rw (says.0, says.2) at none in
      ⊎_elim (λ a. leb-true _ _ a) (λ b. never (sym none ∙ b)) (one_of_two _ _ here)

  pub present : le_at n (s j) at ≡ cond (shares_by t (decision_at object x j) at) (last_word object order addresses x j) (le_at n (found object x) at)
  present = go (previous object x j) refl (trail_says object x j) (last object order addresses x j) (shares_by t (decision_at object x j) at) refl
    where
      go : (p : Option ℕ) → previous object x j ≡ p → Says object x p t → Last object order addresses x p j → (b : Bool) → shares_by t (decision_at object x j) at ≡ b
          → le_at n (s j) at ≡ cond b (last_word object order addresses x j) (le_at n (found object x) at)
      go None p says last true q = absurd (omega (arith, says.1, (shared q).some))
      go None p says last false q = ap (λ l. le_at n l at) last.0
      go (Some k) p says last true q = together k says last (shared q)
      go (Some k) p says last false q = unchanged (away k last (cleared k p says q)) j (omega arith)
