-- Laws of the halves, over the width w of an address, which is k + 12 bits.
use mathlib.Core.Path.{◌≡◌, refl, sym, ap, ◌∙◌, subst}
use Prim.Native.Nat.{ℕ, suc, ◌+◌, ◌-◌, ◌*◌, ◌/◌, ◌%◌, ◌^◌, ◌≤◌, ◌<◌}
use mathlib.Core.Logic.{◌⊎◌, inl, inr, ⊎_elim}
use mathlib.Core.Bool.{Bool, true, false, cond}
use native.Mathlib.Nat.{mod_self, mod-lt, mod-add-mod, mod-eq_of_lt, add_comm, add-sub_cancel, mul-mod_right, mul-div_right, add-zero}
use native.Mathlib.Omega.{arith}
use native.Mathlib.Decide.{dec_lt}
use lib.Arith.{mod-mul}
use lib.Dec.{lit<, ltb}
use borrow.Author.Tests.{ltb-true, ltb-false, leb-true}
use lib.Pow.{pow_pos, pow-add, pow_mono}
use lib.IntN.{ℤ, pos, ◌+ℤ◌, ◌-ℤ◌}
use Rattle.numbers_definitions.specs.Whole.{residue, signed, within, minus}
use Rattle.numbers_definitions.proofs.Laws.Whole.{Spelt, spelt_sub, sub_back, residue_lt, residue_add, residue_sub, residue_narrow, residue_signed, signed_residue, minus_unique}
use Rattle.instructions_riscv.specs.Halves.{high, low}

-- the residue of the low half is that of x - 4096 · high
low_residue : (w x : ℕ) → residue w (low w x) ≡ residue w (pos x -ℤ pos (4096 * high w x))
unfolding low
low_residue w x = residue_signed w (residue w (pos x -ℤ pos (4096 * high w x))) (residue_lt w (pos x -ℤ pos (4096 * high w x)))

-- high · 4096 + low is x modulo 2^w
pub halves_sum : (w x : ℕ) → residue w (pos (4096 * high w x) +ℤ low w x) ≡ x % 2 ^ w
unfolding residue
halves_sum w x =
    residue_add w (pos (4096 * high w x)) (low w x)
    ∙ ap (λ n. (residue w (pos (4096 * high w x)) + n) % 2 ^ w) (low_residue w x)
    ∙ ap (λ n. n % 2 ^ w) (add_comm (residue w (pos (4096 * high w x))) (residue w (pos x -ℤ pos (4096 * high w x))))
    ∙ residue_sub w (pos x) (pos (4096 * high w x))

-- subtracting a multiple of 4096 does not change the low twelve bits
sub_multiple : (x q : ℕ) → residue 12 (pos x -ℤ pos (4096 * q)) ≡ x % 4096
unfolding residue
sub_multiple x q =
    let z : ℤ = pos x -ℤ pos (4096 * q) in
    sym (mod-eq_of_lt (residue_lt 12 z))
    ∙ ap (λ n. n % 4096) (sym (add-zero (residue 12 z)))
    ∙ ap (λ n. (residue 12 z + n) % 4096) (sym (mul-mod_right 4096 q))
    ∙ residue_sub 12 (pos x) (pos (4096 * q))

-- the twelve bits of the low half are the low twelve bits of x
pub low_bits : (k x : ℕ) → residue 12 (low (k + 12) x) ≡ x % 4096
low_bits k x =
    sym (residue_narrow k 12 (low (k + 12) x))
    ∙ ap (λ n. n % 2 ^ 12) (low_residue (k + 12) x)
    ∙ residue_narrow k 12 (pos x -ℤ pos (4096 * high (k + 12) x))
    ∙ sub_multiple x (high (k + 12) x)

-- x less 4096 times the quotient, which is not reduced, is from -2,048 to 2,047
abbrev rest : ℕ → ℤ
rest x = pos x -ℤ pos (4096 * ((x + 2048) / 4096))

rest_spelt : (k x : ℕ) → Spelt (k + 12) (rest x)
rest_spelt k x =
    let wide : 2 ^ 12 ≤ 2 ^ (k + 12) = pow_mono {i = 12} {j = k + 12} (omega arith) in
    spelt_sub (k + 12) x (4096 * ((x + 2048) / 4096)) (omega arith) (omega arith)

-- 4096 · high is 4096 times the quotient, modulo 2^w
high_multiple : (k x : ℕ) → 4096 * high (k + 12) x ≡ 4096 * ((x + 2048) / 4096) % 2 ^ (k + 12)
unfolding high
high_multiple k x =
    let q : ℕ = (x + 2048) / 4096 in
    let digits : 4096 * q % (2 ^ k * 4096) ≡ 4096 * q / 4096 % 2 ^ k * 4096 + 4096 * q % 4096 = mod-mul (4096 * q) (pow_pos k) (lit< tt) in
    rw (add-sub_cancel k 12, pow-add 2 k 12, digits, mul-div_right q (lit< tt), mul-mod_right 4096 q) (omega arith)

-- so the low half is that rest
low_rest : (k x : ℕ) → low (k + 12) x ≡ rest x
unfolding low minus
low_rest k x =
    let w : ℕ = k + 12 in
    let sum : (residue w (rest x) + 4096 * high w x) % 2 ^ w ≡ x % 2 ^ w =
    rw high_multiple (unfold residue in residue_sub w (pos x) (pos (4096 * ((x + 2048) / 4096)))) in
    ap (signed w) (sym (minus_unique w x (4096 * high w x) (residue w (rest x)) (residue_lt w (rest x)) sum))
    ∙ signed_residue w (rest x) (rest_spelt k x)

-- from -2,048 to 2,047: what twelve bits of x spell
pub low_is : (k x : ℕ) → low (k + 12) x ≡ signed 12 (x % 4096)
low_is k x =
    low_rest k x
    ∙ sym (signed_residue 12 (rest x) (rest_spelt 0 x))
    ∙ ap (signed 12) (sub_multiple x ((x + 2048) / 4096))

pub low_spelt : (k x : ℕ) → Spelt 12 (low (k + 12) x)
low_spelt k x = subst (Spelt 12) (sym (low_rest k x)) (rest_spelt 0 x)

-- ---- at every width that is wide enough

-- a law of all widths k + n holds for every width w that is at least n
pub at_least : (P : ℕ → Type 0) (n w : ℕ) → n ≤ w → ((k : ℕ) → P (k + n)) → P w
at_least P n w h law = let same : w - n + n ≡ w = omega arith in subst P same (law (w - n))

pub narrowed : (w n : ℕ) (z : ℤ) → n ≤ w → residue w z % 2 ^ n ≡ residue n z
narrowed w n z h = at_least (λ w. residue w z % 2 ^ n ≡ residue n z) n w h (λ k. residue_narrow k n z)

pub low_half_spelt : (w x : ℕ) → 12 ≤ w → Spelt 12 (low w x)
low_half_spelt w x h = at_least (λ w. Spelt 12 (low w x)) 12 w h (λ k. low_spelt k x)

pub high_lt : (w x : ℕ) → 12 ≤ w → 4096 * high w x < 2 ^ w
high_lt w x h = at_least (λ w. 4096 * high w x < 2 ^ w) 12 w h (λ k. rw (high_multiple k x) (mod-lt (4096 * ((x + 2048) / 4096)) (pow_pos (k + 12))))

-- ---- a high half that 32 bits hold, which are extended by their sign

-- the high half of x is a signed number of 32 bits
abbrev pub HighSpelt : ℕ → ℕ → Type 0
HighSpelt w x = Spelt 32 (signed w (4096 * high w x))

spelt_32 : (w u : ℕ) → u < 2 ^ w → (2 * u < 2 ^ w → 2 * u < 2 ^ 32) → (2 ^ w ≤ 2 * u → 2 * 2 ^ w ≤ 2 * u + 2 ^ 32) → Spelt 32 (signed w u)
unfolding signed
spelt_32 w u h ahead back = go (ltb (2 * u) (2 ^ w)) refl
  where
    go : (t : Bool) → ltb (2 * u) (2 ^ w) ≡ t → Spelt 32 (cond t (pos u) (pos u -ℤ pos (2 ^ w)))
    go true e = ahead (ltb-true _ _ e)
    go false e = spelt_sub 32 u (2 ^ w) (omega arith) (back (ltb-false _ _ e))

-- at 32 bits every high half is one
pub high_spelt_32 : (x : ℕ) → HighSpelt 32 x
high_spelt_32 x = spelt_32 32 (4096 * high 32 x) (high_lt 32 x (omega arith)) (λ l. l) (λ l. omega arith)

-- at a greater width the high halves of the numbers from -2,147,485,696 to 2,147,481,599 are (document 02, Ticket 1, asks for these at 64 bits)
near_ahead : (k x : ℕ) → 20 ≤ k → x ≤ 2147481599 → 4096 * high (k + 12) x < 2 ^ 31
unfolding high
near_ahead k x h near =
    let wide : 2 ^ 20 ≤ 2 ^ k = pow_mono h in
    let small : (x + 2048) / 4096 < 2 ^ k = omega arith in
    rw (add-sub_cancel k 12, mod-eq_of_lt small) (omega arith)

near_back : (k x : ℕ) → x < 2 ^ (k + 12) → 2 ^ (k + 12) ≤ x + 2147485696 → (high (k + 12) x ≡ 0) ⊎ (2 ^ (k + 12) ≤ 4096 * high (k + 12) x + 2 ^ 31)
unfolding high
near_back k x h near =
    let size : 2 ^ (k + 12) ≡ 2 ^ k * 4096 = pow-add 2 k 12 in
    rw (add-sub_cancel k 12) (go size (dec_lt ((x + 2048) / 4096) (2 ^ k)))
  where
    go : 2 ^ (k + 12) ≡ 2 ^ k * 4096 → Dec ((x + 2048) / 4096 < 2 ^ k)
        → ((x + 2048) / 4096 % 2 ^ k ≡ 0) ⊎ (2 ^ (k + 12) ≤ 4096 * ((x + 2048) / 4096 % 2 ^ k) + 2 ^ 31)
    go size (yes l) = inr (rw (mod-eq_of_lt l) (omega arith))
    go size (no l) = let all : (x + 2048) / 4096 ≡ 2 ^ k = omega arith in inl (ap (λ n. n % 2 ^ k) all ∙ mod_self (2 ^ k))

spelt_ahead : (w u : ℕ) → 32 ≤ w → u < 2 ^ 31 → Spelt 32 (signed w u)
spelt_ahead w u wide h = let big : 2 ^ 32 ≤ 2 ^ w = pow_mono wide in spelt_32 w u (omega arith) (λ l. omega arith) (λ l. omega arith)

spelt_back : (w u : ℕ) → 32 ≤ w → u < 2 ^ w → 2 ^ w ≤ u + 2 ^ 31 → Spelt 32 (signed w u)
spelt_back w u wide h near = let big : 2 ^ 32 ≤ 2 ^ w = pow_mono wide in spelt_32 w u h (λ l. omega arith) (λ l. omega arith)

near_either : (k x : ℕ) → 32 ≤ k + 12 → x < 2 ^ (k + 12) → (t : Bool) → within 2147485696 2147481599 (cond t (pos x) (pos x -ℤ pos (2 ^ (k + 12)))) ≡ true → HighSpelt (k + 12) x
unfolding within
near_either k x wide small true e = spelt_ahead (k + 12) (4096 * high (k + 12) x) wide (near_ahead k x (omega arith) (leb-true _ _ e))
near_either k x wide small false e =
    let m : ℕ = 2 ^ (k + 12) in
    let far : suc (m - suc x) ≤ 2147485696 = leb-true _ _ (ap (within 2147485696 2147481599) (sym (sub_back x m small)) ∙ e) in
    ⊎_elim (λ z. spelt_ahead (k + 12) (4096 * high (k + 12) x) wide (omega (arith, z))) (λ l. spelt_back (k + 12) (4096 * high (k + 12) x) wide (high_lt (k + 12) x (omega arith)) l)
    (near_back k x small (omega arith))

pub near_spelt : (w x : ℕ) → 32 ≤ w → x < 2 ^ w → within 2147485696 2147481599 (signed w x) ≡ true → HighSpelt w x
unfolding signed
near_spelt w x wide small e =
    at_least (λ w. 32 ≤ w → x < 2 ^ w → within 2147485696 2147481599 (signed w x) ≡ true → HighSpelt w x) 12 w (omega arith)
    (λ k wide small e. near_either k x wide small (ltb (2 * x) (2 ^ (k + 12))) e) wide small e

-- then the sign extension of its low 32 bits is the high half again
pub high_extended : (w x : ℕ) → 32 ≤ w → HighSpelt w x → residue w (signed 32 (4096 * high w x % 2 ^ 32)) ≡ 4096 * high w x
high_extended w x h s =
    let u : ℕ = 4096 * high w x in
    let whole : residue w (signed w u) ≡ u = residue_signed w u (high_lt w x (omega arith)) in
    let cut : u % 2 ^ 32 ≡ residue 32 (signed w u) = ap (λ n. n % 2 ^ 32) (sym whole) ∙ narrowed w 32 (signed w u) h in
    ap (λ n. residue w (signed 32 n)) cut
    ∙ ap (residue w) (signed_residue 32 (signed w u) s)
    ∙ whole

-- what is the high half modulo 2^w, and the low half, add up to x
pub halves_whole : (w x : ℕ) (u z : ℤ) → x < 2 ^ w → residue w u ≡ 4096 * high w x → z ≡ low w x → residue w (u +ℤ z) ≡ x
unfolding residue
halves_whole w x u z h p q =
    residue_add w u z
    ∙ ap (λ n. (n + residue w z) % 2 ^ w) p
    ∙ ap (λ y. (4096 * high w x + residue w y) % 2 ^ w) q
    ∙ sym (mod-add-mod (4096 * high w x) (2 ^ w) (residue w (low w x)))
    ∙ sym (residue_add w (pos (4096 * high w x)) (low w x))
    ∙ halves_sum w x
    ∙ mod-eq_of_lt h
