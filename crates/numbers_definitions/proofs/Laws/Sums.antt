-- Laws of sums.
use mathlib.Core.Path.{◌≡◌, refl}
use Prim.Native.Nat.{ℕ, zero, suc, ◌+◌, ◌*◌, ◌≤◌, ◌<◌}
use native.Mathlib.Nat.{mul-suc}
use native.Mathlib.Omega.{arith}
use mathlib.Core.Bool.{Bool, true, false}
use lib.Dec.{leb, ltb}
use borrow.Author.Tests.{leb-true, leb-false, ltb-true, ltb-false}
use Rattle.numbers_definitions.specs.First.{first}
use Rattle.numbers_definitions.specs.Sums.{sum}
use Rattle.numbers_definitions.proofs.Laws.First.{first_at, first_below}

pub sum_le : (f : ℕ → ℕ) (n b : ℕ) → ((j : ℕ) → j < n → f j ≤ b) → sum f n ≤ b * n
unfolding sum
sum_le f zero b h = omega arith
sum_le f (suc n) b h =
    rw mul-suc (omega (arith, sum_le f n b (λ j l. h j (omega arith)), h n (omega arith)))

pub sum_mono : (f : ℕ → ℕ) (m n : ℕ) → m ≤ n → sum f m ≤ sum f n
unfolding sum
sum_mono f m zero h = let z : m ≡ 0 = omega arith in rw z (omega arith)
sum_mono f m (suc n) h = go (leb m n) refl (sum_mono f m n)
  where
    go : (b : Bool) → leb m n ≡ b → (m ≤ n → sum f m ≤ sum f n) → sum f m ≤ sum f n + f n
    go true e rest = omega (arith, rest (leb-true m n e))
    go false e rest = let top : m ≡ suc n = omega (arith, leb-false m n e) in rw top (omega arith)

-- ---- the place up to which the sum passes k for the first time

abbrev pub passing : (ℕ → ℕ) → ℕ → ℕ → ℕ
passing f k n = first (λ j. ltb k (sum f (suc j))) n

-- if the whole sum is above k, there is such a place
passing_lt : (f : ℕ → ℕ) (k n : ℕ) → k < sum f n → passing f k n < n
unfolding sum
passing_lt f k zero h = absurd (omega arith)
passing_lt f k (suc n) h = go (ltb (passing f k (suc n)) (suc n)) refl
  where
    p : ℕ → Bool
    p j = ltb k (sum f (suc j))

    go : (b : Bool) → ltb (passing f k (suc n)) (suc n) ≡ b → passing f k (suc n) < suc n
    go true e = ltb-true _ _ e
    go false e =
        let out : suc n ≤ passing f k (suc n) = ltb-false _ _ e in
        let low : sum f (suc n) ≤ k = ltb-false k (sum f (suc n)) (first_below p (suc n) n (omega arith)) in
        absurd (omega arith)

-- the sum below any place up to it is at most k
below_passing : (f : ℕ → ℕ) (k n i : ℕ) → i ≤ passing f k n → sum f i ≤ k
unfolding sum
below_passing f k n zero h = omega arith
below_passing f k n (suc i) h = ltb-false k (sum f (suc i)) (first_below (λ j. ltb k (sum f (suc j))) n i h)

pub sum_locate : (f : ℕ → ℕ) (n k : ℕ) → k < sum f n → (passing f k n < n) × (sum f (passing f k n) ≤ k) × (k < sum f (suc (passing f k n)))
sum_locate f n k h =
    let there = passing_lt f k n h in
    (there, below_passing f k n (passing f k n) (omega arith), ltb-true _ _ (first_at (λ j. ltb k (sum f (suc j))) n there))
