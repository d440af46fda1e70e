-- Laws of decimals and of an answer's line.
use mathlib.Core.Path.{◌≡◌, refl, ap}
use Prim.Native.Nat.{ℕ, zero, suc, ◌*◌, ◌/◌, ◌%◌, ◌^◌, ◌-◌, ◌≤◌, ◌<◌}
use native.Mathlib.Omega.{arith}
use native.Mathlib.Numerals.{unary_clauses}
use native.Mathlib.Nat.{mod-eq_of_lt, pow-suc, pow-le-pow_right, div-lt_iff_lt-mul, le-div_iff_mul-le}
use mathlib.Core.Bool.{Bool, true, false}
use lib.Dec.{leb}
use mathlib.Core.List.{List, [], ◌∷◌, ◌++◌}
use borrow.Author.Tests.{lt-ltb, le-ltb, leb-true, leb-false}
use Rattle.io.specs.Digits.{hex_digit_ascii, last_digits, IsDigitCount}
use Rattle.plan_pieces.specs.Answers.{Answer}
use Rattle.program_text.specs.Lines.{decimal_in, decimal, line}

-- ---- decimals

-- the fewest digits are the decimal
pub digits_decimal : (most k n : ℕ) → k ≤ most → IsDigitCount 10 1 n k → last_digits 10 k n ≡ decimal_in most n
unfolding decimal_in
digits_decimal most zero n h f = absurd (omega arith)
digits_decimal zero (suc k) n h f = absurd (omega arith)
digits_decimal (suc most) (suc zero) n h f =
    let small : n < 10 = f.1 in
    rw (mod-eq_of_lt small, lt-ltb n 10 small)
digits_decimal (suc most) (suc (suc k)) n h f =
    let large : 10 ^ k * 10 ≤ n = simp unary_clauses at (f.2 (omega arith)) in
    let below : n < 10 ^ suc k * 10 = rw (pow-suc 10 (suc k)) at f.1 in
    let rest : IsDigitCount 10 1 (n / 10) (suc k) = (omega arith, (div-lt_iff_lt-mul {k = 10} {x = n} {y = 10 ^ suc k} (omega arith)).1 below, λ _. simp unary_clauses ((le-div_iff_mul-le {k = 10} {x = 10 ^ k} {y = n} (omega arith)).1 large)) in
    let ten : 10 ≤ n = omega (arith, pow-le-pow_right {n = 10} (omega arith) {i = 0} {j = k} (omega arith)) in
    rw (le-ltb n 10 ten) (ap (λ (l : List ℕ). l ++ hex_digit_ascii (n % 10) ∷ []) (digits_decimal most (suc k) (n / 10) (omega arith) rest))

-- a number of 64 bits has at most 20
pub fewest_most : (n k : ℕ) → n < 2 ^ 64 → IsDigitCount 10 1 n k → k ≤ 20
fewest_most n k h f = go (leb k 20) refl
  where
    go : (b : Bool) → leb k 20 ≡ b → k ≤ 20
    go true e = leb-true k 20 e
    go false e =
        let more : 20 < k = leb-false k 20 e in
        absurd (omega (arith, pow-le-pow_right {n = 10} (omega arith) {i = 20} {j = k - 1} (omega arith), f.2 (omega arith)))

-- ---- the line of an answer

-- six pieces, each after the one before
pub line_of : (a : Answer) {s₀ s₁ s₂ s₃ s₄ s₅ s₆ : List ℕ}
    → s₀ ≡ [] → s₁ ≡ s₀ ++ decimal a.number → s₂ ≡ s₁ ++ 32 ∷ [] → s₃ ≡ s₂ ++ decimal a.place → s₄ ≡ s₃ ++ 32 ∷ []
    → s₅ ≡ s₄ ++ decimal a.reason → s₆ ≡ s₅ ++ 10 ∷ [] → s₆ ≡ line a
unfolding line
line_of a e p q r t u v = rw (v, u, t, r, q, p, e)
