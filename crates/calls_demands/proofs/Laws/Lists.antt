-- Lists by their places and parts, and lists of bytes.
use mathlib.Core.Logic.{◌⊎◌, inl, inr, ⊎_elim}
use mathlib.Core.Path.{◌≡◌, sym, ap, subst, ◌∙◌}
use mathlib.Core.List.{List}
use Prim.Native.Nat.{ℕ, zero, suc, ◌+◌, ◌-◌, ◌^◌, ◌≤◌, ◌<◌}
use native.Mathlib.Omega.{arith}
use native.Mathlib.Decide.{dec_lt}
use lib.ListN.{length, get_or, take, drop, length-take, get_or-eq_default}
use lib.Seq.{get_or-drop, get_or-take}
use Rattle.numbers_definitions.specs.Bytes.{le_at, bytes, part}
use Rattle.numbers_definitions.proofs.Laws.Bytes.{Bytes, bytes_le_at, le_lt}

-- two numbers are equal or not equal
pub equal : (i n : ℕ) → (i ≡ n) ⊎ (i ≡ n → ⊥)
equal i n = go (dec_lt i n) (dec_lt n i)
  where
    go : Dec (i < n) → Dec (n < i) → (i ≡ n) ⊎ (i ≡ n → ⊥)
    go (yes h) d = inr (λ e. omega arith)
    go (no g) (yes h) = inr (λ e. omega arith)
    go (no g) (no h) = inl (omega arith)

-- if each number below n either has a property or does not have it, then one of them has it or none has it
pub search_below : (P : ℕ → Type 0) (n : ℕ) → ((i : ℕ) → i < n → P i ⊎ (P i → ⊥)) → ((i : ℕ) × P i) ⊎ ((i : ℕ) → i < n → P i → ⊥)
search_below P zero d = inr (λ i l p. omega arith)
search_below P (suc n) d = go (search_below P n (λ i l. d i (omega arith))) (d n (omega arith))
  where
    go : ((i : ℕ) × P i) ⊎ ((i : ℕ) → i < n → P i → ⊥) → P n ⊎ (P n → ⊥) → ((i : ℕ) × P i) ⊎ ((i : ℕ) → i < suc n → P i → ⊥)
    go (inl p) e = inl p
    go (inr none) (inl p) = inl (n, p)
    go (inr none) (inr out) = inr (λ i l p. ⊎_elim (λ (same : i ≡ n). out (subst P same p)) (λ other. none i (omega arith) p) (equal i n))

-- ---- by parts

-- a byte of a part
pub get_d_part : (s : List ℕ) (i n b : ℕ) → b < n → get_or (part s i n) b 0 ≡ get_or s (i + b) 0
unfolding part
get_d_part s i n b h = get_or-take n (drop i s) b 0 h ∙ get_or-drop i s b 0

pub part_same : (s t : List ℕ) (i n : ℕ) → part s i n ≡ part t i n → (b : ℕ) → i ≤ b → b < i + n → get_or s b 0 ≡ get_or t b 0
part_same s t i n e b low high =
    let there : i + (b - i) ≡ b = omega arith in
    ap (λ k. get_or s k 0) (sym there)
    ∙ sym (get_d_part s i n (b - i) (omega arith))
    ∙ ap (λ l. get_or l (b - i) 0) e
    ∙ get_d_part t i n (b - i) (omega arith)
    ∙ ap (λ k. get_or t k 0) there

pub drop_same : (s t : List ℕ) (i : ℕ) → drop i s ≡ drop i t → (b : ℕ) → i ≤ b → get_or s b 0 ≡ get_or t b 0
drop_same s t i e b low =
    let there : i + (b - i) ≡ b = omega arith in
    ap (λ k. get_or s k 0) (sym there)
    ∙ sym (get_or-drop i s (b - i) 0)
    ∙ ap (λ l. get_or l (b - i) 0) e
    ∙ get_or-drop i t (b - i) 0
    ∙ ap (λ k. get_or t k 0) there

-- ---- lists of bytes

bytes_drop : (s : List ℕ) (i : ℕ) → Bytes s → Bytes (drop i s)
bytes_drop s i b k = rw (get_or-drop i s k 0) (b (i + k))

bytes_take : (s : List ℕ) (n : ℕ) → Bytes s → Bytes (take n s)
bytes_take s n b k = go (dec_lt k n)
  where
    go : Dec (k < n) → get_or (take n s) k 0 < 256
    go (yes h) = rw (get_or-take n s k 0 h) (b k)
    go (no h) = let short : length (take n s) ≤ k = simp length-take (omega arith) in rw (get_or-eq_default (take n s) 0 {n = k} short) (omega arith)

pub bytes_part : (s : List ℕ) (i n : ℕ) → Bytes s → Bytes (part s i n)
unfolding part
bytes_part s i n b = bytes_take (drop i s) n (bytes_drop s i b)

-- bytes that spell the same number are the same
pub same_number : (s t : List ℕ) (i n b : ℕ) → Bytes s → Bytes t → i + n ≤ length s → i + n ≤ length t → le_at n s i ≡ le_at n t i → i ≤ b → b < i + n
    → get_or s b 0 ≡ get_or t b 0
same_number s t i n b bs bt hs ht e low high = part_same s t i n (sym (bytes_le_at n s i bs hs) ∙ ap (bytes n) e ∙ bytes_le_at n t i bt ht) b low high

pub spelt_lt : (n : ℕ) (s : List ℕ) (i : ℕ) → Bytes s → le_at n s i < 256 ^ n
unfolding le_at
spelt_lt n s i b = le_lt n (drop i s) (bytes_drop s i b)
