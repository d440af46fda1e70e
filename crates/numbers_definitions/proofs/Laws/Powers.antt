-- Laws of powers of two.
use mathlib.Core.Path.{◌≡◌, refl, sym, ap, ◌∙◌}
use Prim.Native.Nat.{ℕ, zero, suc, ◌+◌, ◌-◌, ◌*◌, ◌/◌, ◌%◌, ◌^◌, ◌≤◌, ◌<◌}
use native.Mathlib.Nat.{pow-zero, pow-suc, mod-eq_of_lt, not-le_of_lt, lt_of_not-le, le_of_suc-le-suc}
use native.Mathlib.Omega.{arith}
use native.Mathlib.Decide.{dec_lt}
use mathlib.Core.Bool.{Bool, true, false}
use lib.Dec.{leb, ltb, eqb}
use lib.Pow.{pow_pos, pow_mono, pow-lt}
use lib.Count.{ones, ones_step, ones_cat, count_leading_zeros, leading_length}
use borrow.Author.Tests.{ltb-true, ltb-false, le-leb, lt-leb, eq-eqb, eqb-true, eqb-false, leb-true, leb-false}
use Rattle.numbers_definitions.specs.First.{first}
use Rattle.numbers_definitions.specs.Powers.{one_bit, ceil_log, ceil_power}
use Rattle.numbers_definitions.proofs.Laws.First.{first_is, first_le, first_at, first_below}

-- ---- exactly one bit

-- a power of two has one bit set
ones_power : (k : ℕ) → ones (2 ^ k) ≡ 1
ones_power k =
    let e : 1 * 2 ^ k + 0 ≡ 2 ^ k = omega arith in
    let one : ones 1 ≡ 1 = unfold ones in refl in
    let none : ones 0 ≡ 0 = unfold ones in refl in
    sym (ap ones e) ∙ ones_cat k 1 0 (pow_pos k) ∙ rw (one, none)

-- only 0 has no bit set
ones_none : (w n : ℕ) → n < 2 ^ w → ones n ≡ 0 → n ≡ 0
ones_none zero n h e = let b : n < 1 = rw pow-zero at h in omega arith
ones_none (suc w) n h e =
    let b : n < 2 ^ w * 2 = rw pow-suc at h in
    let s = ones_step n in
    let rest : n / 2 ≡ 0 = ones_none w (n / 2) (omega arith) (omega arith) in
    omega arith

-- a number with one bit set is a power of two
power_of_ones : (w n : ℕ) → n < 2 ^ w → ones n ≡ 1 → (k : ℕ) × (k < w) × (n ≡ 2 ^ k)
power_of_ones zero n h e =
    let b : n < 1 = rw pow-zero at h in
    let z : n ≡ 0 = omega arith in
    let none : ones 0 ≡ 0 = unfold ones in refl in
    absurd (omega (arith, sym (ap ones z) ∙ e, none))
power_of_ones (suc w) n h e =
    let b : n < 2 ^ w * 2 = rw pow-suc at h in
    go (n % 2) refl (ones_step n) (power_of_ones w (n / 2) (omega arith))
  where
    go : (d : ℕ) → n % 2 ≡ d → ones n ≡ n % 2 + ones (n / 2) → (ones (n / 2) ≡ 1 → (k : ℕ) × (k < w) × (n / 2 ≡ 2 ^ k)) → (k : ℕ) × (k < suc w) × (n ≡ 2 ^ k)
    go zero q s rest =
        let r = rest (omega arith) in
        let half = r.2 in
        (suc r.0, omega (arith, r.1), rw pow-suc (omega arith))
    go (suc d) q s rest =
        let b : n < 2 ^ w * 2 = rw pow-suc at h in
        let none : n / 2 ≡ 0 = ones_none w (n / 2) (omega arith) (omega arith) in
        (0, omega arith, rw pow-zero (omega arith))

-- counting the set bits recognises the powers of two below 2^w
pub one_bit_is : (w n : ℕ) → n < 2 ^ w → eqb (ones n) 1 ≡ one_bit w n
unfolding one_bit
one_bit_is w n h = go (eqb (ones n) 1) refl (ltb (first p w) w) refl
  where
    p : ℕ → Bool
    p k = eqb n (2 ^ k)

    go : (t : Bool) → eqb (ones n) 1 ≡ t → (u : Bool) → ltb (first p w) w ≡ u → t ≡ u
    go true e true f = refl
    go false e false f = refl
    go true e false f =
        let r = power_of_ones w n h (eqb-true _ _ e) in
        let out : w ≤ first p w = ltb-false _ _ f in
        absurd (eqb-false n (2 ^ r.0) (first_below p w r.0 (omega (arith, r.1))) r.2)
    go false e true f =
        let is : n ≡ 2 ^ first p w = eqb-true _ _ (first_at p w (ltb-true _ _ f)) in
        absurd (eqb-false _ _ e (ap ones is ∙ ones_power (first p w)))

pub one_bit_power : (w k : ℕ) → k < w → one_bit w (2 ^ k) ≡ true
one_bit_power w k h = sym (one_bit_is w (2 ^ k) (pow-lt h)) ∙ eq-eqb _ _ (ones_power k)

pub power_one_bit : (w n : ℕ) → n < 2 ^ w → one_bit w n ≡ true → (k : ℕ) × (k < w) × (n ≡ 2 ^ k)
power_one_bit w n h e = power_of_ones w n h (eqb-true _ _ (one_bit_is w n h ∙ e))

-- ---- the smallest power of two that is at least a number

-- m is the least k with n ≤ 2^k, said without a search
pub ceil_log_is : (w n m : ℕ) → 0 < n → m ≤ w → n ≤ 2 ^ m → 2 ^ m ≤ 2 * (n - 1) + 1 → ceil_log w n ≡ m
unfolding ceil_log
ceil_log_is w n m some h up low =
    first_is (λ k. leb n (2 ^ k)) w m h
    (λ j l. lt-leb n (2 ^ j) (let twice : 2 ^ j * 2 ≤ 2 ^ m = rw (← (pow-suc 2 j)) (pow_mono l) in omega arith))
    (λ l. le-leb n (2 ^ m) up)

-- it is at least the number, and no smaller power is
pub ceil_power_le : (w n : ℕ) → n ≤ 2 ^ w → n ≤ ceil_power w n
unfolding ceil_power ceil_log
ceil_power_le w n h = go (ltb (first p w) w) refl
  where
    p : ℕ → Bool
    p k = leb n (2 ^ k)

    go : (t : Bool) → ltb (first p w) w ≡ t → n ≤ 2 ^ first p w
    go true e = leb-true _ _ (first_at p w (ltb-true _ _ e))
    go false e =
        let top : w ≡ first p w = omega (arith, ltb-false (first p w) w e, first_le p w) in
        rw (← top) h

pub ceil_power_least : (w n k : ℕ) → 2 ^ k < ceil_power w n → 2 ^ k < n
unfolding ceil_power ceil_log
ceil_power_least w n k h =
    leb-false n (2 ^ k) (first_below (λ j. leb n (2 ^ j)) w k (below (dec_lt k (first (λ j. leb n (2 ^ j)) w))))
  where
    below : Dec (k < first (λ j. leb n (2 ^ j)) w) → k < first (λ j. leb n (2 ^ j)) w
    below (yes l) = l
    below (no l) = absurd (not-le_of_lt h (pow_mono (le_of_suc-le-suc (lt_of_not-le l))))

-- it is 1, shifted left by the length of n - 1 in bits
pub shift_ceil : (n : ℕ) → 0 < n → n < 2 ^ 32 → 1 * 2 ^ (32 - count_leading_zeros 32 (n - 1)) % 2 ^ 64 ≡ ceil_power 32 n
unfolding ceil_power
shift_ceil n some h =
    let s = leading_length 32 (n - 1) (omega arith) in
    let sum = s.1 in
    let above = s.2 in
    let m : 32 - count_leading_zeros 32 (n - 1) ≡ s.0 = omega arith in
    let log : ceil_log 32 n ≡ s.0 = ceil_log_is 32 n s.0 some (omega arith) (omega arith) s.3 in
    let one : 1 * 2 ^ s.0 ≡ 2 ^ s.0 = omega arith in
    let few : s.0 < 64 = omega arith in
    rw (m, log, one) (mod-eq_of_lt (pow-lt few))

pub ceil_log_le : (w n : ℕ) → ceil_log w n ≤ w
unfolding ceil_log
ceil_log_le w n = first_le (λ k. leb n (2 ^ k)) w
