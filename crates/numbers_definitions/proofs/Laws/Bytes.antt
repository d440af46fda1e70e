-- Laws of little-endian numbers, over the number of bytes.
use mathlib.Core.Path.{◌≡◌, refl, sym, ap, ap₂}
use mathlib.Core.Logic.{◌⊎◌, ⊎_elim}
use Prim.Native.Nat.{ℕ, zero, suc, ◌+◌, ◌*◌, ◌/◌, ◌%◌, ◌^◌, ◌≤◌, ◌<◌}
use native.Mathlib.Nat.{zero-add, suc-add, pow-zero, pow-suc, mul_comm, mul_assoc, div-one, mod-one, mod-eq_of_lt, div-div-eq-div-mul}
use native.Mathlib.Numerals.{one-add}
use native.Mathlib.Omega.{arith}
use mathlib.Core.List.{List, [], ◌∷◌, ◌++◌}
use lib.ListN.{length, get_or, take, drop, length-drop}
use lib.Seq.{sets, drop-drop, drop_at, get_or-drop, get_or-take}
use lib.Arith.{mod-mul}
use lib.Dec.{lit<}
use Rattle.numbers_definitions.specs.Bytes.{le, le_at, bytes, part}
use Rattle.numbers_definitions.proofs.Laws.Lists.{drop_sets_at, get_d_sets_other, sets_append}

-- ---- one byte

pub le_at_one : (s : List ℕ) (i : ℕ) → le_at 1 s i ≡ get_or s i 0
unfolding le_at le
le_at_one s i =
    let here : i + 0 ≡ i = omega arith in
    rw (get_or-drop, here) (omega arith)

-- ---- a number in two parts

swap : (p z : ℕ) → p * 256 * z ≡ 256 * (p * z)
swap p z = rw (mul_comm p 256, mul_assoc)

pub le_split : (m n : ℕ) (s : List ℕ) → le (m + n) s ≡ le m s + 256 ^ m * le n (drop m s)
unfolding le
le_split zero n s = rw (zero-add n, pow-zero) (omega arith)
le_split (suc m) n s =
    rw (suc-add m n, pow-suc 256 m, le_split m n (drop 1 s), drop-drop m 1 s, one-add m, swap (256 ^ m) (le n (drop (suc m) s)))
    (omega arith)

pub le_at_split : (m n : ℕ) (s : List ℕ) (i : ℕ) → le_at (m + n) s i ≡ le_at m s i + 256 ^ m * le_at n s (i + m)
unfolding le_at
le_at_split m n s i = rw (le_split m n (drop i s), drop-drop m i s)

pub bytes_split : (m n x : ℕ) → bytes (m + n) x ≡ bytes m x ++ bytes n (x / 256 ^ m)
unfolding bytes
bytes_split zero n x = rw (zero-add n, pow-zero, div-one)
bytes_split (suc m) n x =
    rw (suc-add m n, pow-suc 256 m, bytes_split m n (x / 256), div-div-eq-div-mul, mul_comm 256 (256 ^ m))

pub length_bytes : (n x : ℕ) → length (bytes n x) ≡ n
unfolding bytes
length_bytes zero x = refl
length_bytes (suc n) x = ap suc (length_bytes n (x / 256))

radix_pos : (k : ℕ) → 0 < 256 ^ k
radix_pos zero = rw pow-zero (omega arith)
radix_pos (suc k) = rw pow-suc (omega (arith, radix_pos k))

-- bytes hold a number modulo 256^n
pub bytes_mod : (n x : ℕ) → bytes n (x % 256 ^ n) ≡ bytes n x
unfolding bytes
bytes_mod zero x = refl
bytes_mod (suc n) x =
    let digits : x % (256 ^ n * 256) ≡ x / 256 % 256 ^ n * 256 + x % 256 = mod-mul x (radix_pos n) (lit< tt) in
    let low : x % (256 ^ n * 256) % 256 ≡ x % 256 = omega arith in
    let high : x % (256 ^ n * 256) / 256 ≡ x / 256 % 256 ^ n = omega arith in
    rw (pow-suc 256 n, low, high, bytes_mod n (x / 256))

-- a number stored as its two halves
pub sets_halves : (n : ℕ) (s : List ℕ) (i x : ℕ) → sets (sets s i (bytes n (x % 256 ^ n))) (i + n) (bytes n (x / 256 ^ n)) ≡ sets s i (bytes (n + n) x)
sets_halves n s i x =
    rw (bytes_mod n x, bytes_split n n x)
    (sym (sets_append s i (bytes n x) (bytes n (x / 256 ^ n)) (i + n) (rw length_bytes refl)))

-- ---- reading and writing are inverse to each other

pub le_bytes : (n x : ℕ) (t : List ℕ) → le n (bytes n x ++ t) ≡ x % 256 ^ n
unfolding le bytes
le_bytes zero x t = rw (pow-zero, mod-one)
le_bytes (suc n) x t =
    let digits : x % (256 ^ n * 256) ≡ x / 256 % 256 ^ n * 256 + x % 256 = mod-mul x (radix_pos n) (lit< tt) in
    rw (le_bytes n (x / 256) t, pow-suc 256 n, digits) (omega arith)

-- every element is a byte
abbrev pub Bytes : List ℕ → Type 0
Bytes s = (i : ℕ) → get_or s i 0 < 256

pub bytes_le : (n : ℕ) (s : List ℕ) → Bytes s → n ≤ length s → bytes n (le n s) ≡ take n s
unfolding le bytes
bytes_le zero s b h = refl
bytes_le (suc n) [] b h = absurd (omega arith)
bytes_le (suc n) (x ∷ s) b h =
    let small : x < 256 = b 0 in
    let low : (x + 256 * le n s) % 256 ≡ x = omega arith in
    let high : (x + 256 * le n s) / 256 ≡ le n s = omega arith in
    rw (low, high, bytes_le n s (λ i. b (suc i)) (omega arith))

-- the same for the bytes from place i on
pub bytes_le_at : (n : ℕ) (s : List ℕ) (i : ℕ) → Bytes s → i + n ≤ length s → bytes n (le_at n s i) ≡ part s i n
unfolding le_at part
bytes_le_at n s i b h =
    bytes_le n (drop i s) (λ j. rw get_or-drop (b (i + j))) (simp length-drop (omega arith))

-- a number that stands after a stretch of bytes
pub le_at_bytes : (n x : ℕ) (s a t : List ℕ) (i : ℕ) → s ≡ a ++ (bytes n x ++ t) → length a ≡ i → x < 256 ^ n → le_at n s i ≡ x
unfolding le_at
le_at_bytes n x s a t i e l h = rw (e, drop_at a (bytes n x ++ t) i l, le_bytes n x t) (mod-eq_of_lt h)

pub le_lt : (n : ℕ) (s : List ℕ) → Bytes s → le n s < 256 ^ n
unfolding le
le_lt zero s b = rw pow-zero (omega arith)
le_lt (suc n) s b =
    rw pow-suc (omega (arith, b 0, le_lt n (drop 1 s) (λ i. rw get_or-drop (b (1 + i)))))

-- a number in the rest of a list
pub le_at_drop : (n a : ℕ) (s : List ℕ) (i : ℕ) → le_at n (drop a s) i ≡ le_at n s (a + i)
unfolding le_at
le_at_drop n a s i = rw drop-drop

-- bytes that spell 0 are zeros
pub le_zero : (n : ℕ) (s : List ℕ) → n ≤ length s → le n s ≡ 0 → s ≡ bytes n 0 ++ drop n s
unfolding le bytes
le_zero zero s h e = refl
le_zero (suc n) [] h e = absurd (omega arith)
le_zero (suc n) (x ∷ s) h e =
    let head : x ≡ 0 = omega arith in
    let tail : s ≡ bytes n 0 ++ drop n s = le_zero n s (omega arith) (omega arith) in
    ap₂ ◌∷◌ head tail

-- ---- after a run of stores

-- reading back what was written
pub le_at_sets : (n : ℕ) (s : List ℕ) (i x : ℕ) → i + n ≤ length s → le_at n (sets s i (bytes n x)) i ≡ x % 256 ^ n
unfolding le_at
le_at_sets n s i x h =
    let fits : i + length (bytes n x) ≤ length s = rw length_bytes h in
    rw (drop_sets_at s i (bytes n x) fits) (le_bytes n x (drop (i + length (bytes n x)) s))

-- equal bytes spell equal numbers
pub le_ext : (n : ℕ) (s t : List ℕ) → ((i : ℕ) → i < n → get_or s i 0 ≡ get_or t i 0) → le n s ≡ le n t
unfolding le
le_ext zero s t e = refl
le_ext (suc n) s t e =
    rw (e 0 (omega arith), le_ext n (drop 1 s) (drop 1 t) (λ i h. rw (get_or-drop, get_or-drop) (e (1 + i) (omega arith))))

-- nothing else changes: a number that ends before the stores, or begins after them, is as it was
pub le_at_sets_other : (n : ℕ) (s : List ℕ) (j i : ℕ) (v : List ℕ) → (j + n ≤ i) ⊎ (i + length v ≤ j) → le_at n (sets s i v) j ≡ le_at n s j
unfolding le_at
le_at_sets_other n s j i v apart =
    le_ext n (drop j (sets s i v)) (drop j s)
    (λ k h. rw (get_or-drop, get_or-drop) (get_d_sets_other s i v (j + k) (λ a b. ⊎_elim (λ l. omega arith) (λ l. omega arith) apart)))

-- a number in the first bytes of a list
pub le_at_take : (n m : ℕ) (s : List ℕ) (i : ℕ) → i + n ≤ m → le_at n (take m s) i ≡ le_at n s i
unfolding le_at
le_at_take n m s i h =
    le_ext n (drop i (take m s)) (drop i s) (λ k l. rw (get_or-drop, get_or-drop) (get_or-take m s (i + k) 0 (omega arith)))
