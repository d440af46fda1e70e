-- Laws of the search for the paired high half.
use Rattle.std.specs.Prelude.{None, Some}
use mathlib.Core.Path.{◌≡◌, refl, sym, ap, ◌∙◌}
use mathlib.Core.Bool.{Bool, true, false, cond}
use mathlib.Core.List.{List}
use Prim.Native.Nat.{ℕ, zero, suc, ◌+◌, ◌≤◌, ◌<◌}
use native.Mathlib.Omega.{arith}
use native.Mathlib.Decide.{dec_lt}
use lib.Dec.{eqb}
use borrow.Author.Tests.{eqb-true, ne_eqb}
use Rattle.numbers_definitions.specs.First.{first}
use Rattle.numbers_definitions.specs.Sums.{sum}
use Rattle.numbers_definitions.specs.declared.SectionOffset.{SectionOffset}
use Rattle.numbers_definitions.proofs.Laws.First.{first_is, first_at, first_below}
use Rattle.numbers_definitions.proofs.Laws.Sums.{sum_mono}
use Rattle.relocations_rela.specs.declared.sites.Site.{Site}
use Rattle.relocations_rela.specs.Sites.{count}
use Rattle.relocations_values.specs.Pairs.{is_pair, how_many, pair_of}

-- ---- at how many numbers a test holds

module _ (p : ℕ → Bool) where
  -- one more number
  more : (n : ℕ) → how_many p (suc n) ≡ how_many p n + cond (p n) 1 0
  unfolding how_many sum
  more n = refl

  pub none_holds : (n : ℕ) → ((k : ℕ) → k < n → p k ≡ false) → how_many p n ≡ 0
  unfolding how_many sum
  none_holds zero h = refl
  none_holds (suc n) h = rw (more n, none_holds n (λ k l. h k (omega arith)), h n (omega arith))

  pub one_holds : (n at : ℕ) → at < n → p at ≡ true → ((k : ℕ) → k < n → (k ≡ at → ⊥) → p k ≡ false) → how_many p n ≡ 1
  one_holds zero at l e h = absurd (omega arith)
  one_holds (suc n) at l e h = go (dec_lt at n) (one_holds n at)
    where
      go : Dec (at < n) → (at < n → p at ≡ true → ((k : ℕ) → k < n → (k ≡ at → ⊥) → p k ≡ false) → how_many p n ≡ 1) → how_many p (suc n) ≡ 1
      go (yes q) rest = rw (more n, rest q e (λ k m z. h k (omega arith) z), h n (omega arith) (λ z. omega arith))
      go (no q) rest =
          let same : at ≡ n = omega arith in
          rw (more n, none_holds n (λ k m. h k (omega arith) (λ z. omega arith)), ap p (sym same) ∙ e)

  some_holds : (n at : ℕ) → at < n → p at ≡ true → 1 ≤ how_many p n
  unfolding how_many
  some_holds n at l e =
      let here : how_many p (suc at) ≡ how_many p at + 1 = more at ∙ ap (λ b. how_many p at + cond b 1 0) e in
      omega (arith, here, sum_mono (λ k. cond (p k) 1 0) (suc at) n l)

  pub two_hold : (n a b : ℕ) → a < b → b < n → p a ≡ true → p b ≡ true → 2 ≤ how_many p n
  unfolding how_many
  two_hold n a b l m e f =
      let here : how_many p (suc b) ≡ how_many p b + 1 = more b ∙ ap (λ t. how_many p b + cond t 1 0) f in
      omega (arith, here, some_holds b a l e, sum_mono (λ k. cond (p k) 1 0) (suc b) n m)

-- ---- what the search gives

module _ (object : List ℕ) (x : Site) (value : SectionOffset) where
  -- one relocation is a pair, and no other
  pub pair_alone : (at : ℕ) → at < count object x → is_pair object x value at ≡ true → ((i : ℕ) → i < count object x → (i ≡ at → ⊥) → is_pair object x value i ≡ false)
      → pair_of object x value ≡ Some at
  unfolding pair_of
  pair_alone at l here alone =
      let one : how_many (is_pair object x value) (count object x) ≡ 1 = one_holds _ (count object x) at l here alone in
      let is : first (is_pair object x value) (count object x) ≡ at =
      first_is _ (count object x) at (omega arith) (λ k m. alone k (omega arith) (λ z. omega arith)) (λ _. here) in
      rw (one, is)

  pub pair_missing : ((i : ℕ) → i < count object x → is_pair object x value i ≡ false) → pair_of object x value ≡ None
  unfolding pair_of
  pair_missing h = rw (none_holds (is_pair object x value) (count object x) h)

  pub pair_twice : (a b : ℕ) → a < b → b < count object x → is_pair object x value a ≡ true → is_pair object x value b ≡ true → pair_of object x value ≡ None
  unfolding pair_of
  pair_twice a b l m e f =
      let many : eqb (how_many (is_pair object x value) (count object x)) 1 ≡ false =
      ne_eqb (how_many (is_pair object x value) (count object x)) 1 (λ z. omega (arith, two_hold (is_pair object x value) (count object x) a b l m e f)) in
      rw many

-- a pair that was found is one of the relocations, and a PCREL_HI20 at the offset
pub pair_there : (object : List ℕ) (x : Site) (value : SectionOffset) (k : ℕ) → pair_of object x value ≡ Some k → (k < count object x) × (is_pair object x value k ≡ true)
unfolding pair_of
pair_there object x value k e = go (eqb (how_many p (count object x)) 1) refl e
  where
    p : ℕ → Bool
    p = is_pair object x value

    some : how_many p (count object x) ≡ 1 → Dec (first p (count object x) < count object x) → first p (count object x) < count object x
    some one (yes l) = l
    some one (no l) =
        let none : how_many p (count object x) ≡ 0 = none_holds p (count object x) (λ i m. first_below p (count object x) i (omega arith)) in
        absurd (omega arith)

    go : (b : Bool) → eqb (how_many p (count object x)) 1 ≡ b → cond b (Some (first p (count object x))) None ≡ Some k → (k < count object x) × (p k ≡ true)
    go true q r =
        let same : first p (count object x) ≡ k = cc in
        let there : first p (count object x) < count object x = some (eqb-true (how_many p (count object x)) 1 q) (dec_lt (first p (count object x)) (count object x)) in
        (omega arith, ap p (sym same) ∙ first_at p (count object x) there)
    go false q r =
        let z : ◌≡◌ {A = ℕ} 0 1 = cc in
        absurd (omega arith)
