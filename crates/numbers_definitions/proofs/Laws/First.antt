-- The laws of `first`, `everywhere` and `tabulate`.
use mathlib.Core.Path.{◌≡◌, refl, sym, ap, ◌∙◌}
use Prim.Native.Nat.{ℕ, zero, suc, ◌≤◌, ◌<◌}
use mathlib.Core.Bool.{Bool, true, false, cond, not}
use native.Mathlib.Omega.{arith}
use mathlib.Core.List.{[], ◌∷◌, ◌++◌}
use lib.ListN.{length, get_or, set}
use borrow.Author.Tests.{eqb-true, eq-eqb, not-false}
use Rattle.numbers_definitions.specs.First.{first, everywhere, tabulate}

-- how to show that `first` is k: p holds nowhere below k, and p holds at k unless k is n
pub first_is : (p : ℕ → Bool) (n k : ℕ) → k ≤ n → ((j : ℕ) → j < k → p j ≡ false) → (k < n → p k ≡ true) → first p n ≡ k
unfolding first
first_is p zero zero h below at = refl
first_is p zero (suc k) h below at = absurd (omega arith)
first_is p (suc n) zero h below at = rw (at (omega arith))
first_is p (suc n) (suc k) h below at =
    rw (below 0 (omega arith))
    (ap suc (first_is (λ j. p (suc j)) n k (omega arith) (λ j l. below (suc j) (omega arith)) (λ l. at (omega arith))))

pub first_le : (p : ℕ → Bool) (n : ℕ) → first p n ≤ n
unfolding first
first_le p zero = omega arith
first_le p (suc n) = go (p zero) (first_le (λ j. p (suc j)) n)
  where
    go : (b : Bool) → first (λ j. p (suc j)) n ≤ n → cond b zero (suc (first (λ j. p (suc j)) n)) ≤ suc n
    go true h = omega arith
    go false h = omega arith

-- p does not hold below it
pub first_below : (p : ℕ → Bool) (n j : ℕ) → j < first p n → p j ≡ false
unfolding first
first_below p zero j h = absurd (omega arith)
first_below p (suc n) zero h = go (p zero) refl h
  where
    go : (b : Bool) → p zero ≡ b → zero < cond b zero (suc (first (λ j. p (suc j)) n)) → p zero ≡ false
    go true e l = absurd (omega arith)
    go false e l = e
first_below p (suc n) (suc j) h = go (p zero) h (first_below (λ k. p (suc k)) n j)
  where
    go : (b : Bool) → suc j < cond b zero (suc (first (λ k. p (suc k)) n)) → (j < first (λ k. p (suc k)) n → p (suc j) ≡ false) → p (suc j) ≡ false
    go true l rest = absurd (omega arith)
    go false l rest = rest (omega arith)

-- if there is such an index, p holds at it
pub first_at : (p : ℕ → Bool) (n : ℕ) → first p n < n → p (first p n) ≡ true
unfolding first
first_at p zero h = absurd (omega arith)
first_at p (suc n) h = go (p zero) refl h (first_at (λ j. p (suc j)) n)
  where
    F : ℕ
    F = first (λ j. p (suc j)) n

    go : (b : Bool) → p zero ≡ b → cond b zero (suc F) < suc n → (F < n → p (suc F) ≡ true) → p (cond b zero (suc F)) ≡ true
    go true e l rest = e
    go false e l rest = rest (omega arith)

-- ---- everywhere

pub everywhere_is : (p : ℕ → Bool) (n : ℕ) → ((j : ℕ) → j < n → p j ≡ true) → everywhere p n ≡ true
unfolding everywhere
everywhere_is p n all =
    eq-eqb _ _ (first_is (λ j. not (p j)) n n (omega arith) (λ j h. ap not (all j h)) (λ h. absurd (omega arith)))

pub everywhere_at : (p : ℕ → Bool) (n : ℕ) → everywhere p n ≡ true → (j : ℕ) → j < n → p j ≡ true
unfolding everywhere
everywhere_at p n e j h =
    let end : first (λ j. not (p j)) n ≡ n = eqb-true _ _ e in
    not-false (p j) (first_below (λ j. not (p j)) n j (omega arith))

pub everywhere_not : (p : ℕ → Bool) (n k : ℕ) → k < n → p k ≡ false → everywhere p n ≡ false
everywhere_not p n k h e = go (everywhere p n) refl
  where
    go : (b : Bool) → everywhere p n ≡ b → everywhere p n ≡ false
    go false t = t
    go true t =
        let z : ◌≡◌ {A = Bool} true false = sym (everywhere_at p n t k h) ∙ e in
        t ∙ z

-- ---- tabulate

pub length_tabulate : {A : Type 0} (f : ℕ → A) (n : ℕ) → length (tabulate f n) ≡ n
unfolding tabulate
length_tabulate f zero = refl
length_tabulate f (suc n) = ap suc (length_tabulate (λ j. f (suc j)) n)

pub get_d_tabulate : {A : Type 0} (f : ℕ → A) (n i : ℕ) (d : A) → i < n → get_or (tabulate f n) i d ≡ f i
unfolding tabulate
get_d_tabulate f zero i d h = absurd (omega arith)
get_d_tabulate f (suc n) zero d h = refl
get_d_tabulate f (suc n) (suc i) d h = get_d_tabulate (λ j. f (suc j)) n i d (omega arith)

pub tabulate_same : {A : Type 0} (f g : ℕ → A) (n : ℕ) → ((i : ℕ) → i < n → f i ≡ g i) → tabulate f n ≡ tabulate g n
unfolding tabulate
tabulate_same f g zero e = refl
tabulate_same f g (suc n) e =
    rw (e 0 (omega arith), tabulate_same (λ j. f (suc j)) (λ j. g (suc j)) n (λ i h. e (suc i) (omega arith)))

-- a store into a tabulated list gives the list of a function that differs from f at one place only
pub set_tabulate : {A : Type 0} (f g : ℕ → A) (n i : ℕ) → ((j : ℕ) → j < n → (j ≡ i → ⊥) → f j ≡ g j) → set (tabulate f n) i (g i) ≡ tabulate g n
unfolding tabulate
set_tabulate f g zero i e = refl
set_tabulate f g (suc n) zero e =
    rw (tabulate_same (λ j. f (suc j)) (λ j. g (suc j)) n (λ j h. e (suc j) (omega arith) (λ z. omega arith)))
set_tabulate f g (suc n) (suc i) e =
    rw (e 0 (omega arith) (λ z. omega arith), set_tabulate (λ j. f (suc j)) (λ j. g (suc j)) n i (λ j h z. e (suc j) (omega arith) (λ y. z (omega arith))))

-- one more value
pub tabulate_snoc : {A : Type 0} (f : ℕ → A) (n : ℕ) → tabulate f (suc n) ≡ tabulate f n ++ f n ∷ []
unfolding tabulate
tabulate_snoc f zero = refl
tabulate_snoc f (suc n) = ap (λ l. f 0 ∷ l) (tabulate_snoc (λ j. f (suc j)) n)
