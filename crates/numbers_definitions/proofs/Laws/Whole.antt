-- Laws of whole numbers modulo 2^w, over w.
use mathlib.Core.Path.{◌≡◌, refl, sym, ap, ◌∙◌, subst}
use Prim.Native.Nat.{ℕ, zero, suc, ◌+◌, ◌-◌, ◌*◌, ◌/◌, ◌%◌, ◌^◌, ◌≤◌, ◌<◌}
use native.Mathlib.Nat.{mod-lt, mod-eq_of_lt, mod-mod, add-mod_right, mod-add-mod, add-mod-mod, add-mul-mod_self_right, add_assoc, add-zero, suc-mul, div-add-mod'}
use native.Mathlib.Omega.{arith}
use mathlib.Core.Bool.{Bool, true, false, cond}
use lib.Dec.{ltb}
use lib.Pow.{pow_pos, mod-mod-pow}
use lib.IntN.{ℤ, pos, negsuc, sub_ℕ, ◌+ℤ◌, ◌-ℤ◌, -ℤ-+ℤ_cancel}
use borrow.Author.Tests.{ltb-true, ltb-false, lt-ltb, le-ltb, eqb-true, leb-true}
use Rattle.numbers_definitions.specs.Whole.{residue, signed, within, even, plus, minus}
use Rattle.numbers_definitions.proofs.Laws.Modulo.{mod_sum, mod_unique}

-- ---- a whole number as a difference of two natural numbers

abbrev up : ℤ → ℕ
up (pos n) = n
up (negsuc n) = 0

abbrev down : ℤ → ℕ
down (pos n) = 0
down (negsuc n) = suc n

-- for a difference
sub_up_down : (a b : ℕ) → up (sub_ℕ a b) + b ≡ down (sub_ℕ a b) + a
sub_up_down a b = go (ltb a b) refl
  where
    go : (t : Bool) → ltb a b ≡ t → up (cond t (negsuc (b - suc a)) (pos (a - b))) + b ≡ down (cond t (negsuc (b - suc a)) (pos (a - b))) + a
    go true e = omega (arith, ltb-true a b e)
    go false e = omega (arith, ltb-false a b e)

-- for a sum
sum_up_down : (x y : ℤ) → up (x +ℤ y) + (down x + down y) ≡ down (x +ℤ y) + (up x + up y)
sum_up_down (pos a) (pos b) = omega arith
sum_up_down (pos a) (negsuc b) = omega (arith, sub_up_down a (suc b))
sum_up_down (negsuc a) (pos b) = omega (arith, sub_up_down b (suc a))
sum_up_down (negsuc a) (negsuc b) = omega arith

-- ---- residues

pub residue_lt : (w : ℕ) (z : ℤ) → residue w z < 2 ^ w
unfolding residue
residue_lt w (pos n) = mod-lt n (pow_pos w)
residue_lt w (negsuc n) = omega (arith, pow_pos w)

-- the equation that makes it the residue
residue_law : (w : ℕ) (z : ℤ) → (residue w z + down z) % 2 ^ w ≡ up z % 2 ^ w
unfolding residue
residue_law w (pos n) = rw (add-zero, mod-mod)
residue_law w (negsuc n) =
    let m : ℕ = 2 ^ w in
    let low : n % 2 ^ w < 2 ^ w = mod-lt n (pow_pos w) in
    let sum : 2 ^ w - suc (n % 2 ^ w) + suc n ≡ 0 + suc (n / 2 ^ w) * 2 ^ w = rw suc-mul (omega (arith, div-add-mod' n (2 ^ w))) in
    rw (sum, add-mul-mod_self_right)

-- the residue of a sum is the sum of the residues, modulo 2^w
pub residue_add : (w : ℕ) (x y : ℤ) → residue w (x +ℤ y) ≡ (residue w x + residue w y) % 2 ^ w
residue_add w x y =
    let m : ℕ = 2 ^ w in
    let r : ℕ = residue w (x +ℤ y) in
    let s : ℕ = residue w x + residue w y in
    let d : ℕ = down x + down y in
    let D : ℕ = down (x +ℤ y) in
    let left : (r + (D + d)) % m ≡ (D + (up x + up y)) % m =
    ap (λ n. n % m) (sym (add_assoc r D d))
    ∙ mod_sum m (r + D) (up (x +ℤ y)) d d (residue_law w (x +ℤ y)) refl
    ∙ ap (λ n. n % m) (sum_up_down x y) in
    let apart : s + (D + d) ≡ D + ((residue w x + down x) + (residue w y + down y)) = omega arith in
    let right : (s % m + (D + d)) % m ≡ (D + (up x + up y)) % m =
    mod-add-mod s m (D + d)
    ∙ ap (λ n. n % m) apart
    ∙ mod_sum m D D _ _ refl (mod_sum m _ _ _ _ (residue_law w x) (residue_law w y)) in
    mod_unique m r (s % m) (D + d) (residue_lt w (x +ℤ y)) (mod-lt s (pow_pos w)) (left ∙ sym right)

-- a difference, plus what was subtracted, gives the first number
pub residue_sub : (w : ℕ) (x y : ℤ) → (residue w (x -ℤ y) + residue w y) % 2 ^ w ≡ residue w x
residue_sub w x y = sym (residue_add w (x -ℤ y) y) ∙ ap (residue w) (-ℤ-+ℤ_cancel x y)

-- a number whose sum with b is a, modulo 2^w, is the difference
pub minus_unique : (w a b r : ℕ) → r < 2 ^ w → (r + b) % 2 ^ w ≡ a % 2 ^ w → r ≡ minus w a b
unfolding minus residue
minus_unique w a b r h e =
    mod_unique (2 ^ w) r (residue w (pos a -ℤ pos b)) b h (residue_lt w (pos a -ℤ pos b))
    (e ∙ sym (residue_sub w (pos a) (pos b)) ∙ add-mod-mod (residue w (pos a -ℤ pos b)) b (2 ^ w))

-- it has w bits
pub minus_lt : (w a b : ℕ) → minus w a b < 2 ^ w
unfolding minus
minus_lt w a b = residue_lt w (pos a -ℤ pos b)

-- a difference is known by what its two numbers are modulo 2^w
pub minus_mod : (w a b m n : ℕ) → a % 2 ^ w ≡ m % 2 ^ w → b % 2 ^ w ≡ n % 2 ^ w → minus w a b ≡ minus w m n
unfolding minus residue
minus_mod w a b m n ea eb =
    let r : ℕ = residue w (pos a -ℤ pos b) in
    minus_unique w m n r (residue_lt w (pos a -ℤ pos b))
    (mod_sum (2 ^ w) r r n b refl (sym eb) ∙ sym (add-mod-mod r b (2 ^ w)) ∙ residue_sub w (pos a) (pos b) ∙ ea)

-- a residue at a smaller width
pub residue_narrow : (j k : ℕ) (z : ℤ) → residue (j + k) z % 2 ^ k ≡ residue k z
residue_narrow j k z =
    let m : ℕ = 2 ^ k in
    let R : ℕ = residue (j + k) z in
    let left : (R % m + down z) % m ≡ up z % m =
    mod-add-mod R m (down z)
    ∙ sym (mod-mod-pow (R + down z) j k)
    ∙ ap (λ n. n % m) (residue_law (j + k) z)
    ∙ mod-mod-pow (up z) j k in
    mod_unique m (R % m) (residue k z) (down z) (mod-lt R (pow_pos k)) (residue_lt k z) (left ∙ sym (residue_law k z))

-- ---- differences

pub sub_is : (a b : ℕ) → pos a -ℤ pos b ≡ sub_ℕ a b
sub_is a zero = rw (le-ltb a 0 (omega arith)) (ap pos (omega arith))
sub_is a (suc b) = refl

pub sub_ahead : (a b : ℕ) → b ≤ a → pos a -ℤ pos b ≡ pos (a - b)
sub_ahead a b h = sub_is a b ∙ rw (le-ltb a b h)

pub sub_back : (a b : ℕ) → a < b → pos a -ℤ pos b ≡ negsuc (b - suc a)
sub_back a b h = sub_is a b ∙ rw (lt-ltb a b h)

-- ---- two's complement

-- the numbers that w bits spell
abbrev pub Spelt : ℕ → ℤ → Type 0
Spelt w (pos n) = 2 * n < 2 ^ w
Spelt w (negsuc n) = 2 * suc n ≤ 2 ^ w

pub spelt_sub : (w a b : ℕ) → 2 * a < 2 * b + 2 ^ w → 2 * b ≤ 2 * a + 2 ^ w → Spelt w (pos a -ℤ pos b)
spelt_sub w a b ahead back = go (ltb a b) refl
  where
    go : (t : Bool) → ltb a b ≡ t → Spelt w (pos a -ℤ pos b)
    go true e =
        let less : a < b = ltb-true a b e in
        let small : 2 * suc (b - suc a) ≤ 2 ^ w = omega arith in
        subst (Spelt w) (sym (sub_back a b less)) small
    go false e =
        let more : b ≤ a = ltb-false a b e in
        let small : 2 * (a - b) < 2 ^ w = omega arith in
        subst (Spelt w) (sym (sub_ahead a b more)) small

pub residue_signed : (w u : ℕ) → u < 2 ^ w → residue w (signed w u) ≡ u
unfolding signed residue minus
residue_signed w u h = go (ltb (2 * u) (2 ^ w))
  where
    go : (t : Bool) → residue w (cond t (pos u) (pos u -ℤ pos (2 ^ w))) ≡ u
    go true = mod-eq_of_lt h
    go false = sym (minus_unique w u (2 ^ w) u h (add-mod_right u (2 ^ w)))

pub signed_residue : (w : ℕ) (z : ℤ) → Spelt w z → signed w (residue w z) ≡ z
unfolding signed residue
signed_residue w (pos n) h =
    let small : n % 2 ^ w ≡ n = mod-eq_of_lt (omega arith) in
    rw (small, lt-ltb (2 * n) (2 ^ w) h)
signed_residue w (negsuc n) h =
    let small : n % 2 ^ w ≡ n = mod-eq_of_lt (omega arith) in
    let u : ℕ = 2 ^ w - suc n in
    let back : 2 ^ w - suc u ≡ n = omega arith in
    rw (small, le-ltb (2 * (2 ^ w - suc n)) (2 ^ w) (omega arith)) (sub_back u (2 ^ w) (omega arith) ∙ ap negsuc back)

-- sign extension from w to v bits: a number below half of 2^w stays, and one from there on grows by 2^v - 2^w
pub extend_low : (v w u : ℕ) → 2 * u < 2 ^ w → u < 2 ^ v → residue v (signed w u) ≡ u
unfolding signed residue
extend_low v w u low h = rw (lt-ltb (2 * u) (2 ^ w) low) (mod-eq_of_lt h)

pub extend_high : (v w u d : ℕ) → 2 ^ w ≤ 2 * u → u + d < 2 ^ v → d + 2 ^ w ≡ 2 ^ v → residue v (signed w u) ≡ u + d
unfolding signed minus
extend_high v w u d high h e =
    let grown : u + d + 2 ^ w ≡ u + 2 ^ v = omega arith in
    rw (le-ltb (2 * u) (2 ^ w) high) (sym (minus_unique v u (2 ^ w) (u + d) h (rw (grown, add-mod_right))))

-- ---- wrapping at the width of a field

-- adding or subtracting the residue of a whole number at a greater width is adding or subtracting the number itself
pub plus_residue : (j k v : ℕ) (z : ℤ) → plus k v (residue (j + k) z) ≡ residue k (pos v +ℤ z)
unfolding plus
plus_residue j k v z =
    sym (add-mod-mod v (residue (j + k) z) (2 ^ k))
    ∙ ap (λ n. (v + n) % 2 ^ k) (residue_narrow j k z)
    ∙ sym (mod-add-mod v (2 ^ k) (residue k z))
    ∙ unfold residue in sym (residue_add k (pos v) z)

pub minus_residue : (j k v : ℕ) (z : ℤ) → minus k v (residue (j + k) z) ≡ residue k (pos v -ℤ z)
minus_residue j k v z =
    sym
    (minus_unique k v (residue (j + k) z) (residue k (pos v -ℤ z)) (residue_lt k (pos v -ℤ z))
    (sym (add-mod-mod (residue k (pos v -ℤ z)) (residue (j + k) z) (2 ^ k))
    ∙ ap (λ n. (residue k (pos v -ℤ z) + n) % 2 ^ k) (residue_narrow j k z)
    ∙ residue_sub k (pos v) z
    ∙ unfold residue in refl))

-- a number in two's complement of j + k bits is added, taken away and cut at k bits as the whole number that it spells
pub plus_signed : (j k v x : ℕ) → x < 2 ^ (j + k) → plus k v x ≡ residue k (pos v +ℤ signed (j + k) x)
plus_signed j k v x h = ap (plus k v) (sym (residue_signed (j + k) x h)) ∙ plus_residue j k v (signed (j + k) x)

pub minus_signed : (j k v x : ℕ) → x < 2 ^ (j + k) → minus k v x ≡ residue k (pos v -ℤ signed (j + k) x)
minus_signed j k v x h = ap (minus k v) (sym (residue_signed (j + k) x h)) ∙ minus_residue j k v (signed (j + k) x)

pub cut_signed : (j k x : ℕ) → x < 2 ^ (j + k) → x % 2 ^ k ≡ residue k (signed (j + k) x)
cut_signed j k x h = ap (λ n. n % 2 ^ k) (sym (residue_signed (j + k) x h)) ∙ residue_narrow j k (signed (j + k) x)

-- ---- even numbers

even_lowest : (z : ℤ) → even z ≡ true → residue 1 z ≡ 0
unfolding even residue
even_lowest (pos n) e = eqb-true _ _ e
even_lowest (negsuc n) e = let none : suc n % 2 ≡ 0 = eqb-true _ _ e in omega arith

-- an even number's residue is even
pub even_residue : (j : ℕ) (z : ℤ) → even z ≡ true → residue (j + 1) z % 2 ≡ 0
even_residue j z e = residue_narrow j 1 z ∙ even_lowest z e

-- ---- ranges

-- a number within a range is one that w bits spell, if they spell the whole range
pub within_spelt : (w back ahead : ℕ) (z : ℤ) → 2 * back ≤ 2 ^ w → 2 * ahead < 2 ^ w → within back ahead z ≡ true → Spelt w z
unfolding within
within_spelt w back ahead (pos n) b a e = let h : n ≤ ahead = leb-true n ahead e in omega arith
within_spelt w back ahead (negsuc n) b a e = let h : suc n ≤ back = leb-true (suc n) back e in omega arith

-- ---- sums that wrap, modulo a smaller power

narrow_mod : (j k n : ℕ) → n % 2 ^ (j + k) % 2 ^ k ≡ n % 2 ^ k
unfolding residue
narrow_mod j k n = residue_narrow j k (pos n)

pub plus_narrow : (a b c w k : ℕ) → k ≤ w → plus w (plus w a b) c % 2 ^ k ≡ (a + b + c) % 2 ^ k
unfolding plus
plus_narrow a b c w k h =
    let j : (w - k) + k ≡ w = omega arith in
    ap (λ n. n % 2 ^ k) (mod-add-mod (a + b) (2 ^ w) c) ∙ subst (λ w. (a + b + c) % 2 ^ w % 2 ^ k ≡ (a + b + c) % 2 ^ k) j (narrow_mod (w - k) k (a + b + c))
