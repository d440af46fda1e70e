-- One relocation changes only the bytes that it touches.
use mathlib.Core.Logic.{◌⊎◌, inl, inr, ⊎_elim}
use mathlib.Core.Path.{◌≡◌, refl, sym, ap, ◌∙◌}
use mathlib.Core.Bool.{Bool, true, false, not, ◌&&◌}
use mathlib.Core.List.{List}
use Prim.Native.Nat.{ℕ, zero, suc, ◌+◌, ◌≤◌, ◌<◌}
use native.Mathlib.Omega.{arith}
use lib.ListN.{length, get_or}
use lib.Dec.{leb, ltb}
use lib.Seq.{length-sets}
use borrow.Author.Tests.{leb-false, ltb-false, not-true}
use Rattle.numbers_definitions.specs.Bytes.{le_at, bytes}
use Rattle.numbers_definitions.proofs.Laws.First.{everywhere_at}
use Rattle.numbers_definitions.proofs.Laws.Bytes.{le_at_one, le_at_sets_other, length_bytes}
use Rattle.elf_read.specs.Headers.{address_width}
use Rattle.relocations_types.specs.declared.Decision.{Decision}
use Rattle.relocations_types.specs.declared.Decision.TheVariants.{Marker, Align, Store, Refused}
use Rattle.relocations_rela.specs.declared.sites.Site.{Site}
use Rattle.relocations_rela.specs.Sites.{count, decision_at, offset, P, found}
use Rattle.relocations_decisions.specs.Decisions.{touched, is_store}
use Rattle.relocations_rela.specs.Shape.{end}
use Rattle.relocations_bytes.specs.Patches.{patched}
use Rattle.relocations_bytes.specs.Sections.{sum_at, pair_distance, applied, after}
use Rattle.relocations_bytes.specs.Wholes.{touches, untouched}
use Rattle.relocations_bytes.proofs.Laws.Sections.{applied_store, applied_marker}

module _ (object order addresses : List ℕ) (x : Site) where
  length_applied : (j : ℕ) (s : List ℕ) → length (applied object order addresses x j s) ≡ length s
  length_applied j s = go (decision_at object x j) refl
    where
      go : (d : Decision) → decision_at object x j ≡ d → length (applied object order addresses x j s) ≡ length s
      go (Store r) e = ap length (applied_store object order addresses x j r s e) ∙ simp length-sets
      go Marker e = ap length (applied_marker object order addresses x j s (ap is_store e))
      go Align e = ap length (applied_marker object order addresses x j s (ap is_store e))
      go Refused e = ap length (applied_marker object order addresses x j s (ap is_store e))

  pub length_after : (j : ℕ) → length (after object order addresses x j) ≡ length (found object x)
  unfolding after
  length_after zero = refl
  length_after (suc j) = length_applied j (after object order addresses x j) ∙ length_after j

  -- a number that ends before the bytes that relocation j touches, or begins after them, stays the same
  pub applied_other : (j n at : ℕ) (s : List ℕ) → (at + n ≤ offset object x j) ⊎ (end object x j ≤ at) → le_at n (applied object order addresses x j s) at ≡ le_at n s at
  applied_other j n at s away = go (decision_at object x j) refl
    where
      go : (d : Decision) → decision_at object x j ≡ d → le_at n (applied object order addresses x j s) at ≡ le_at n s at
      go (Store r) e =
          let m : ℕ = r.size in
          let u : ℕ = patched (address_width object) r.calculation r.field (le_at m s (offset object x j)) (sum_at object order addresses x j) (P object x j) (pair_distance object order addresses x j) in
          let many : touched (decision_at object x j) ≡ m = ap touched e in
          let length : length (bytes m u) ≡ m = length_bytes m u in
          ap (λ l. le_at n l at) (applied_store object order addresses x j r s e)
          ∙ le_at_sets_other n s at (offset object x j) (bytes m u) (⊎_elim (λ l. inl l) (λ l. inr (omega arith)) away)
      go Marker e = ap (λ l. le_at n l at) (applied_marker object order addresses x j s (ap is_store e))
      go Align e = ap (λ l. le_at n l at) (applied_marker object order addresses x j s (ap is_store e))
      go Refused e = ap (λ l. le_at n l at) (applied_marker object order addresses x j s (ap is_store e))

  -- ---- theorem 1: a byte that no relocation touches is the object's own

  away_of : (a b c : ℕ) → (leb a b && ltb b c) ≡ false → (b + 1 ≤ a) ⊎ (c ≤ b)
  away_of a b c e = go (leb a b) refl e
    where
      go : (t : Bool) → leb a b ≡ t → (t && ltb b c) ≡ false → (b + 1 ≤ a) ⊎ (c ≤ b)
      go true q r = inr (ltb-false b c r)
      go false q r = inl (omega (arith, leb-false a b q))

  own_below : (b m : ℕ) → ((j : ℕ) → j < m → touches object x j b ≡ false) → get_or (after object order addresses x m) b 0 ≡ get_or (found object x) b 0
  unfolding after touches
  own_below b zero h = refl
  own_below b (suc m) h =
      let s : List ℕ = after object order addresses x m in
      sym (le_at_one (applied object order addresses x m s) b)
      ∙ applied_other m 1 b s (away_of (offset object x m) b (end object x m) (h m (omega arith)))
      ∙ le_at_one s b
      ∙ own_below b m (λ j l. h j (omega arith))

  pub untouched_own : (b : ℕ) → untouched object x b ≡ true → get_or (after object order addresses x (count object x)) b 0 ≡ get_or (found object x) b 0
  unfolding untouched
  untouched_own b e = own_below b (count object x) (λ j l. not-true _ (everywhere_at (λ j. not (touches object x j b)) (count object x) e j l))
