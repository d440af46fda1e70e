-- The value that entries give to a number.
use Rattle.std.specs.Prelude.{None, Some}
use mathlib.Core.Path.{◌≡◌, refl, sym, ap, ◌∙◌}
use mathlib.Core.Bool.{Bool, true, false, cond}
use mathlib.Core.List.{List}
use Prim.Native.Nat.{ℕ, ◌+◌, ◌≤◌, ◌<◌}
use native.Mathlib.Omega.{arith}
use native.Mathlib.Decide.{dec_lt}
use lib.Dec.{ltb, eqb}
use borrow.Author.Tests.{lt-ltb, le-ltb, ltb-true, ltb-false, eq-eqb, ne_eqb}
use borrow.Author.Count.{below_more}
use Rattle.numbers_definitions.specs.First.{first}
use Rattle.numbers_definitions.specs.declared.Class.{Class}
use Rattle.numbers_definitions.proofs.Laws.First.{first_is, first_below, first_at, first_le}
use Rattle.order_format.specs.declared.Entry.{Entry}
use Rattle.order_format.specs.Orders.{entry_at, ascending, externals_start, external_count}
use Rattle.order_lookup.specs.Values.{value_in, external_value}
use Rattle.order_lookup.specs.Requires.{Reached}
use Rattle.order_format.proofs.Laws.Ascending.{ascending_lt, ascending_above}

module _ (c : Class) (s : List ℕ) (at n k : ℕ) where
  -- a number that no entry has is given no value
  pub value_in_none : ((j : ℕ) → j < n → (entry_at c s at j).index ≡ k → ⊥) → value_in c s at n k ≡ None
  unfolding value_in
  value_in_none none =
      let end : first (λ j. eqb (entry_at c s at j).index k) n ≡ n =
      first_is (λ j. eqb (entry_at c s at j).index k) n n (omega arith) (λ j h. ne_eqb _ _ (none j h)) (λ h. absurd (omega arith)) in
      rw (end, le-ltb n n (omega arith))

  -- nor is a number that lies above those before place m and below those from m on
  pub value_in_between : (m : ℕ) → ((j : ℕ) → j < m → (entry_at c s at j).index < k) → ((j : ℕ) → m ≤ j → j < n → k < (entry_at c s at j).index)
      → value_in c s at n k ≡ None
  value_in_between m below above = value_in_none (λ j h e. go j h e (ltb j m) refl)
    where
      go : (j : ℕ) → j < n → (entry_at c s at j).index ≡ k → (b : Bool) → ltb j m ≡ b → ⊥
      go j h e true l = omega (arith, below j (ltb-true j m l))
      go j h e false l = omega (arith, above j (ltb-false j m l) h)

  -- if the entries ascend, the one that has the number gives it its value
  pub value_in_at : ascending (λ i. (entry_at c s at i).index) n ≡ true → (i : ℕ) → i < n → (entry_at c s at i).index ≡ k
      → value_in c s at n k ≡ Some (entry_at c s at i).value
  unfolding value_in
  value_in_at a i h e =
      let here : first (λ j. eqb (entry_at c s at j).index k) n ≡ i =
      first_is (λ j. eqb (entry_at c s at j).index k) n i (omega arith)
      (λ j l. ne_eqb (entry_at c s at j).index k (λ z. omega (arith, ascending_lt (λ i. (entry_at c s at i).index) n a j i l h)))
      (λ l. eq-eqb _ _ e) in
      rw (here, lt-ltb i n h)

  -- the same for an entry that was read
  pub value_in_read : ascending (λ i. (entry_at c s at i).index) n ≡ true → (i : ℕ) (e : Entry) → e ≡ entry_at c s at i → e.index ≡ k → i < n
      → Some e.value ≡ value_in c s at n k
  value_in_read a i e here same h =
      ap (λ (e : Entry). Some e.value) here
      ∙ sym (value_in_at a i h (sym (ap (λ (e : Entry). e.index) here) ∙ same))

-- one more entry, which has another number, changes nothing
pub value_in_more : (c : Class) (s : List ℕ) (at n k : ℕ) → ((entry_at c s at n).index ≡ k → ⊥) → value_in c s at (n + 1) k ≡ value_in c s at n k
unfolding value_in
value_in_more c s at n k other = go (ltb f n) refl
  where
    p : ℕ → Bool
    p j = eqb (entry_at c s at j).index k

    f : ℕ
    f = first p n

    go : (b : Bool) → ltb f n ≡ b
        → cond (ltb (first p (n + 1)) (n + 1)) (Some (entry_at c s at (first p (n + 1))).value) None ≡ cond b (Some (entry_at c s at f).value) None
    go true e =
        let l : f < n = ltb-true f n e in
        let same : first p (n + 1) ≡ f = first_is p (n + 1) f (omega arith) (first_below p n) (λ h. first_at p n l) in
        rw (same, lt-ltb f (n + 1) (omega arith))
    go false e =
        let end : f ≡ n = omega (arith, ltb-false f n e, first_le p n) in
        let none : (j : ℕ) → j < n + 1 → p j ≡ false =
        below_more (λ j. p j ≡ false) n (λ j h. first_below p n j (omega arith)) (ne_eqb _ _ other) in
        let last : first p (n + 1) ≡ n + 1 = first_is p (n + 1) (n + 1) (omega arith) none (λ h. absurd (omega arith)) in
        rw (last, le-ltb (n + 1) (n + 1) (omega arith))

-- ---- from one symbol to the next

module _ (c : Class) (s : List ℕ) (from k : ℕ) (r : Reached c s from k) where
  -- behind the last external value
  pub reached_end : external_count c s ≤ from → (None ≡ external_value c s k) × Reached c s from (k + 1)
  unfolding external_value
  reached_end e = (
    sym (value_in_between c s (externals_start c s) (external_count c s) k from r.below (λ j h l. absurd (omega arith))),
    record { below = λ j h. omega (arith, r.below j h); above = λ j h l. absurd (omega arith) },
  )

  module _ (ascends : ascending (λ i. (entry_at c s (externals_start c s) i).index) (external_count c s) ≡ true) (there : from < external_count c s) (e : Entry) (read : e ≡ entry_at c s (externals_start c s) from) where
    index_is : e.index ≡ (entry_at c s (externals_start c s) from).index
    index_is = ap (λ (e : Entry). e.index) read

    -- the external value there is of a higher symbol
    pub reached_higher : (e.index ≡ k → ⊥) → (None ≡ external_value c s k) × Reached c s from (k + 1)
    unfolding external_value
    reached_higher other =
        let higher : k < (entry_at c s (externals_start c s) from).index = omega (arith, index_is, r.above from (omega arith) there) in
        let above = ascending_above (λ i. (entry_at c s (externals_start c s) i).index) (external_count c s) k from ascends higher in (
          sym (value_in_between c s (externals_start c s) (external_count c s) k from r.below above),
          record { below = λ j h. omega (arith, r.below j h); above = λ j h l. omega (arith, above j h l) },
        )

    -- it is of this symbol
    pub reached_here : e.index ≡ k → (Some e.value ≡ external_value c s k) × Reached c s (from + 1) (k + 1)
    unfolding external_value
    reached_here here = (
      value_in_read c s (externals_start c s) (external_count c s) k ascends from e read here there,
      record {
        below = λ j h. go j h (dec_lt j from);
        above = λ j h l. omega (arith, index_is, ascending_lt (λ i. (entry_at c s (externals_start c s) i).index) (external_count c s) ascends from j (omega arith) l);
      },
    )
      where
        go : (j : ℕ) → j < from + 1 → Dec (j < from) → (entry_at c s (externals_start c s) j).index < k + 1
        go j h (yes l) = omega (arith, r.below j l)
        go j h (no l) =
            let same : from ≡ j = omega arith in
            omega (arith, index_is, ap (λ j. (entry_at c s (externals_start c s) j).index) same)
