-- Laws of the lowest fault.
use Rattle.std.specs.Prelude.{Err, None, Ok, Result, Some, ⊤}
use mathlib.Core.Path.{◌≡◌, refl, sym, ap, subst, ◌∙◌}
use mathlib.Core.Bool.{Bool, true, false, cond, ◌&&◌}
use mathlib.Core.List.{List}
use Prim.Native.Nat.{ℕ, ◌^◌, ◌<◌}
use native.Mathlib.Omega.{arith}
use native.Mathlib.Decide.{dec_lt}
use lib.Dec.{ltb, eqb}
use borrow.Author.Tests.{lt-ltb, le-ltb, ltb-true, eqb-true, eqb-false}
use Rattle.numbers_definitions.specs.declared.Class.{Class}
use Rattle.numbers_definitions.specs.First.{first}
use Rattle.numbers_definitions.proofs.Laws.First.{first_is, first_at, first_below}
use Rattle.order_format.specs.Orders.{entry_at, ascending}
use Rattle.order_lookup.specs.Values.{is_given, value_in}
use Rattle.order_format.proofs.Laws.Ascending.{ascending_lt}
use Rattle.placing_match.specs.Placements.{lowest}

pub lowest_at : (p : ℕ → Bool) (n k : ℕ) → k < n → ((j : ℕ) → j < k → p j ≡ false) → p k ≡ true → lowest p n ≡ Err k
unfolding lowest
lowest_at p n k h below here =
    let is : first p n ≡ k = first_is p n k (omega arith) below (λ _. here) in
    rw (is, lt-ltb k n h)

pub lowest_nowhere : (p : ℕ → Bool) (n : ℕ) → ((j : ℕ) → j < n → p j ≡ false) → lowest p n ≡ Ok tt
unfolding lowest
lowest_nowhere p n none =
    let is : first p n ≡ n = first_is p n n (omega arith) none (λ h. absurd (omega arith)) in
    rw (is, le-ltb n n (omega arith))

pub lowest_err : (p : ℕ → Bool) (n k : ℕ) → lowest p n ≡ Err k → (k < n) × ((j : ℕ) → j < k → p j ≡ false) × (p k ≡ true)
unfolding lowest
lowest_err p n k e = go (ltb (first p n) n) refl e
  where
    go : (b : Bool) → ltb (first p n) n ≡ b → ◌≡◌ {A = Result ⊤ ℕ} (cond b (Err (first p n)) (Ok tt)) (Err k)
        → (k < n) × ((j : ℕ) → j < k → p j ≡ false) × (p k ≡ true)
    go true h r =
        let is : first p n ≡ k = cc in
        let there : first p n < n = ltb-true (first p n) n h in
        subst (λ m. (m < n) × ((j : ℕ) → j < m → p j ≡ false) × (p m ≡ true)) is (there, first_below p n, first_at p n there)
    go false h r =
        let z : ◌≡◌ {A = ℕ} 0 1 = cc in
        absurd (omega arith)

-- ---- numbers that a list of entries names

module _ (c : Class) (s : List ℕ) (at n : ℕ) where
  -- a number has a value exactly where an entry names it
  given_is : (k : ℕ) → is_given (value_in c s at n k) ≡ ltb (first (λ j. eqb (entry_at c s at j).index k) n) n
  unfolding value_in
  given_is k = go (ltb (first (λ j. eqb (entry_at c s at j).index k) n) n)
    where
      go : (b : Bool) → is_given (cond b (Some (entry_at c s at (first (λ j. eqb (entry_at c s at j).index k) n)).value) None) ≡ b
      go true = refl
      go false = refl

  pub given_named : (k : ℕ) → is_given (value_in c s at n k) ≡ true → (j : ℕ) × (j < n) × ((entry_at c s at j).index ≡ k)
  given_named k e =
      let p : ℕ → Bool = λ j. eqb (entry_at c s at j).index k in
      let there : first p n < n = ltb-true _ _ (sym (given_is k) ∙ e) in
      (first p n, there, eqb-true _ _ (first_at p n there))

  pub named_given : (j : ℕ) → j < n → is_given (value_in c s at n (entry_at c s at j).index) ≡ true
  named_given j h = given_is (entry_at c s at j).index ∙ lt-ltb _ _ (inside (dec_lt (first p n) n))
    where
      p : ℕ → Bool
      p i = eqb (entry_at c s at i).index (entry_at c s at j).index

      inside : Dec (first p n < n) → first p n < n
      inside (yes l) = l
      inside (no l) = absurd (eqb-false (entry_at c s at j).index (entry_at c s at j).index (first_below p n j (omega arith)) refl)

  -- the lowest named number with a fault is the first in the list, which ascends
  module _ (up : ascending (λ i. (entry_at c s at i).index) n ≡ true) (q : ℕ → Bool) where
    -- an entry that names a lower number comes earlier
    earlier : (i j : ℕ) → i < n → j < n → (entry_at c s at i).index < (entry_at c s at j).index → i < j
    earlier i j hi hj l = go (dec_lt i j) (dec_lt j i)
      where
        go : Dec (i < j) → Dec (j < i) → i < j
        go (yes m) d = m
        go (no m) (yes d) = absurd (omega (arith, ascending_lt (λ x. (entry_at c s at x).index) n up j i d hi))
        go (no m) (no d) =
            let same : i ≡ j = omega arith in
            absurd (omega (arith, ap (λ x. (entry_at c s at x).index) same))

    pub named_below : (j : ℕ) → j < n → ((i : ℕ) → i < j → q (entry_at c s at i).index ≡ false)
        → (k : ℕ) → k < (entry_at c s at j).index → (is_given (value_in c s at n k) && q k) ≡ false
    named_below j h below k l = go (is_given (value_in c s at n k)) refl
      where
        go : (b : Bool) → is_given (value_in c s at n k) ≡ b → (b && q k) ≡ false
        go false e = refl
        go true e =
            let t = given_named k e in
            let named : (entry_at c s at t.0).index ≡ k = t.2 in
            ap q (sym named) ∙ below t.0 (earlier t.0 j t.1 h (omega arith))

    pub named_none : ((i : ℕ) → i < n → q (entry_at c s at i).index ≡ false) → (k : ℕ) → (is_given (value_in c s at n k) && q k) ≡ false
    named_none none k = go (is_given (value_in c s at n k)) refl
      where
        go : (b : Bool) → is_given (value_in c s at n k) ≡ b → (b && q k) ≡ false
        go false e = refl
        go true e =
            let t = given_named k e in
            ap q (sym t.2) ∙ none t.0 t.1

    pub lowest_named : (j : ℕ) → j < n → (entry_at c s at j).index < 2 ^ 32 → ((i : ℕ) → i < j → q (entry_at c s at i).index ≡ false)
        → q (entry_at c s at j).index ≡ true → lowest (λ k. is_given (value_in c s at n k) && q k) (2 ^ 32) ≡ Err (entry_at c s at j).index
    lowest_named j h b below here =
        lowest_at (λ k. is_given (value_in c s at n k) && q k) (2 ^ 32) (entry_at c s at j).index b (named_below j h below) (rw (named_given j h, here))

    pub lowest_unnamed : ((i : ℕ) → i < n → q (entry_at c s at i).index ≡ false) → lowest (λ k. is_given (value_in c s at n k) && q k) (2 ^ 32) ≡ Ok tt
    lowest_unnamed none = lowest_nowhere (λ k. is_given (value_in c s at n k) && q k) (2 ^ 32) (λ k h. named_none none k)
