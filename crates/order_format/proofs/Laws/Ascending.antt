-- Numbers that ascend.
use mathlib.Core.Path.{◌≡◌, refl, ap}
use mathlib.Core.Logic.{⊎_elim}
use mathlib.Core.Bool.{Bool, true, false}
use Prim.Native.Nat.{ℕ, zero, suc, ◌+◌, ◌-◌, ◌≤◌, ◌<◌}
use native.Mathlib.Nat.{eq-or-lt_of_le}
use native.Mathlib.Omega.{arith}
use lib.Dec.{ltb}
use borrow.Author.Count.{below_more}
use borrow.Author.Tests.{ltb-true, lt-ltb}
use Rattle.numbers_definitions.proofs.Laws.First.{everywhere_is, everywhere_at}
use Rattle.order_format.specs.Orders.{ascending}

-- numbers ascend if each is below the next one
pub ascending_is : (f : ℕ → ℕ) (n : ℕ) → ((i : ℕ) → suc i < n → f i < f (suc i)) → ascending f n ≡ true
unfolding ascending
ascending_is f n step =
    everywhere_is (λ i. ltb (f i) (f (suc i))) (n - 1) (λ i h. lt-ltb _ _ (step i (omega arith)))

pub ascending_step : (f : ℕ → ℕ) (n : ℕ) → ascending f n ≡ true → (i : ℕ) → suc i < n → f i < f (suc i)
unfolding ascending
ascending_step f n a i h = ltb-true _ _ (everywhere_at (λ i. ltb (f i) (f (suc i))) (n - 1) a i (omega arith))

-- of two numbers, the one at the higher place is higher
pub ascending_lt : (f : ℕ → ℕ) (n : ℕ) → ascending f n ≡ true → (i j : ℕ) → i < j → j < n → f i < f j
ascending_lt f n a i zero h l = absurd (omega arith)
ascending_lt f n a i (suc j) h l =
    let step : f j < f (suc j) = ascending_step f n a j l in
    let near : i ≤ j = omega arith in
    ⊎_elim (λ e. rw e step) (λ less. omega (arith, ascending_lt f n a i j less (omega arith))) (eq-or-lt_of_le near)

-- so the first few of them ascend
pub ascending_fewer : (f : ℕ → ℕ) (m n : ℕ) → m ≤ n → ascending f n ≡ true → ascending f m ≡ true
ascending_fewer f m n h a = ascending_is f m (λ i l. ascending_step f n a i (omega arith))

-- ---- a loop from 1 up, which compares each number with the one before it

pub steps_more : (f : ℕ → ℕ) (i : ℕ) → ((j : ℕ) → suc j < i → f j < f (suc j)) → 1 ≤ i → f (i - 1) < f i → (j : ℕ) → suc j < i + 1 → f j < f (suc j)
steps_more f i steps some step j h =
    let near : suc j ≤ i = omega arith in
    let here : suc j ≡ i → f j < f (suc j) =
    λ e. let before : i - 1 ≡ j = omega arith in omega (arith, ap f before, ap f e) in
    ⊎_elim here (steps j) (eq-or-lt_of_le near)

pub ascending_not : (f : ℕ → ℕ) (n i : ℕ) → 1 ≤ i → i < n → f i ≤ f (i - 1) → ascending f n ≡ false
ascending_not f n i some h l = go (ascending f n) refl
  where
    go : (b : Bool) → ascending f n ≡ b → b ≡ false
    go true a = absurd (omega (arith, ascending_lt f n a (i - 1) i (omega arith) h))
    go false a = refl

-- ---- a search by halves

-- up to a number below k, each is below k
pub ascending_below : (f : ℕ → ℕ) (n k m : ℕ) → ascending f n ≡ true → m < n → f m < k → (j : ℕ) → j < m + 1 → f j < k
ascending_below f n k m a h l =
    below_more (λ j. f j < k) m (λ j less. omega (arith, ascending_lt f n a j m less h)) l

-- from a number above k on, each is above k
pub ascending_above : (f : ℕ → ℕ) (n k m : ℕ) → ascending f n ≡ true → k < f m → (j : ℕ) → m ≤ j → j < n → k < f j
ascending_above f n k m a l j h less =
    ⊎_elim (λ e. rw e at l) (λ more. omega (arith, ascending_lt f n a m j more less)) (eq-or-lt_of_le h)
