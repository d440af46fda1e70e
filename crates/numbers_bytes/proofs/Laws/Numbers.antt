-- std's conversions between numbers and bytes, by `le` and `bytes`.
use mathlib.Core.Path.{◌≡◌, refl, sym, ap, ◌∙◌}
use mathlib.Core.List.{List}
use Prim.Native.Nat.{ℕ, zero, suc, ◌+◌, ◌*◌, ◌/◌, ◌%◌, ◌^◌}
use native.Mathlib.Nat.{pow-suc, div-div-eq-div-mul, mul_comm}
use native.Mathlib.Omega.{arith}
use lib.ListN.{get_or, take, drop}
use Rattle.std.specs.Int.{byte_worth, bytes_low_first, sum_through}
use Rattle.numbers_definitions.specs.Bytes.{le, le_at, bytes, part}
use Rattle.numbers_definitions.proofs.Laws.Bytes.{le_split, le_at_one, le_at_take}

-- the bytes of x from byte i on are those of what is left of x above the lower ones
low_first : (i n x : ℕ) → bytes_low_first i n x ≡ bytes n (x / 256 ^ i)
unfolding bytes
low_first zero zero x = refl
low_first (suc i) zero x = refl
low_first zero (suc n) x =
    let above : x / 256 ^ 1 ≡ x / 256 ^ 0 / 256 = omega arith in
    let here : x % 256 ≡ x / 256 ^ 0 % 256 = omega arith in
    rw (low_first 1 n x, above, here)
low_first (suc i) (suc n) x =
    let above : x / 256 ^ suc (suc i) ≡ x / 256 ^ suc i / 256 = ap (λ p. x / p) (pow-suc 256 (suc i)) ∙ sym (div-div-eq-div-mul x (256 ^ suc i) 256) in
    rw (low_first (suc (suc i)) n x, above)

pub all_bytes : (n x : ℕ) → bytes_low_first 0 n x ≡ bytes n x
all_bytes n x = let all : x / 256 ^ 0 ≡ x = omega arith in low_first 0 n x ∙ ap (bytes n) all

-- one byte more
grown : (n : ℕ) (l : List ℕ) → le (suc n) l ≡ le n l + get_or l n 0 * 256 ^ n
unfolding le_at
grown n l =
    let one_more : suc n ≡ n + 1 = omega arith in
    ap (λ m. le m l) one_more
    ∙ le_split n 1 l
    ∙ ap (λ d. le n l + d) (mul_comm (256 ^ n) (le 1 (drop n l)) ∙ ap (λ d. d * 256 ^ n) (le_at_one l n))

-- what the bytes of a list are worth together is the number that they spell
worth : (n : ℕ) (l : List ℕ) → sum_through (λ i. byte_worth i (get_or l i 0)) n ≡ le (suc n) l
worth zero l = unfold le in omega arith
worth (suc n) l = ap (λ m. m + get_or l (suc n) 0 * 256 ^ suc n) (worth n l) ∙ sym (grown (suc n) l)

pub all_worth : (n : ℕ) (s : List ℕ) (i : ℕ) → sum_through (λ j. byte_worth j (get_or (part s i (suc n)) j 0)) n ≡ le_at (suc n) s i
unfolding part le_at
all_worth n s i = worth n (take (suc n) (drop i s)) ∙ le_at_take (suc n) (suc n) (drop i s) 0 (omega arith)
