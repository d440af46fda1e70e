-- Laws of `sets`, a run of stores, and of `part`.
use mathlib.Core.Logic.{◌⊎◌, inl, inr}
use mathlib.Core.Path.{◌≡◌, refl, sym, ap, ◌∙◌}
use Prim.Native.Nat.{ℕ, suc, ◌+◌, ◌≤◌, ◌<◌}
use native.Mathlib.Numerals.{add-one}
use native.Mathlib.Omega.{arith}
use mathlib.Core.Bool.{Bool, true, false}
use mathlib.Core.List.{List, [], ◌∷◌, ◌++◌, append_assoc}
use lib.ListN.{length, take, drop, set, get_or, replicate, length-append, length-drop, length-replicate, get_or-replicate, get_or-eq_default}
use lib.Seq.{sets, sets-eq, length-sets, take_at, drop_at, take-set-le, drop-set-lt, take-suc, get_or-drop, get_or-take, get_or-set_other, ext_get_or, length-take-le, take-add, take_all, drop-drop}
use lib.Dec.{ltb}
use borrow.Author.Tests.{ltb-true, ltb-false}
use Rattle.numbers_definitions.specs.Bytes.{part}

-- ---- sets

-- a part of a list, replaced by as many other elements
pub splice : (a b c d : List ℕ) (i : ℕ) → length a ≡ i → length b ≡ length c → sets (a ++ (b ++ d)) i c ≡ a ++ (c ++ d)
splice a b c d i ea eb =
    let fits : i + length c ≤ length (a ++ (b ++ d)) = simp length-append (omega arith) in
    let end : length (a ++ b) ≡ i + length c = simp length-append (omega arith) in
    let rest : drop (i + length c) (a ++ (b ++ d)) ≡ d = rw (← (append_assoc a b d)) (drop_at (a ++ b) d (i + length c) end) in
    sets-eq c (a ++ (b ++ d)) i fits ∙ rw (take_at a (b ++ d) i ea, rest) (append_assoc a c d)

pub take_sets : (n : ℕ) (l : List ℕ) (i : ℕ) (v : List ℕ) → n ≤ i → take n (sets l i v) ≡ take n l
take_sets n l i [] h = refl
take_sets n l i (x ∷ v) h = take_sets n (set l i x) (suc i) v (omega arith) ∙ take-set-le n l i x h

pub drop_sets : (n : ℕ) (l : List ℕ) (i : ℕ) (v : List ℕ) → i + length v ≤ n → drop n (sets l i v) ≡ drop n l
drop_sets n l i [] h = refl
drop_sets n l i (x ∷ v) h = drop_sets n (set l i x) (suc i) v (omega arith) ∙ drop-set-lt n l i x (omega arith)

-- what was stored, and what stands after it
pub drop_sets_at : (l : List ℕ) (i : ℕ) (v : List ℕ) → i + length v ≤ length l → drop i (sets l i v) ≡ v ++ drop (i + length v) l
drop_sets_at l i v h =
    ap (drop i) (sets-eq v l i h ∙ append_assoc (take i l) v (drop (i + length v) l))
    ∙ drop_at (take i l) (v ++ drop (i + length v) l) i (length-take-le i l (omega arith))

-- a place outside the run is as it was
pub get_d_sets_other : (l : List ℕ) (i : ℕ) (v : List ℕ) (j : ℕ) → (i ≤ j → j < i + length v → ⊥) → get_or (sets l i v) j 0 ≡ get_or l j 0
get_d_sets_other l i [] j out = refl
get_d_sets_other l i (x ∷ v) j out =
    get_d_sets_other (set l i x) (suc i) v j (λ a b. out (omega arith) (omega arith))
    ∙ get_or-set_other l i j x 0 (λ e. out (omega arith) (omega arith))

-- one more store after a run of stores
pub sets_snoc : (l : List ℕ) (i : ℕ) (v : List ℕ) (a n : ℕ) → length v ≡ n → set (sets l i v) (i + n) a ≡ sets l i (v ++ a ∷ [])
sets_snoc l i [] a n e = let z : i + n ≡ i = omega arith in rw z
sets_snoc l i (x ∷ v) a n e =
    let z : i + n ≡ suc i + length v = omega arith in
    rw z (sets_snoc (set l i x) (suc i) v a (length v) refl)

-- a run of stores, split in two
pub sets_append : (l : List ℕ) (i : ℕ) (a b : List ℕ) (n : ℕ) → i + length a ≡ n → sets l i (a ++ b) ≡ sets (sets l i a) n b
sets_append l i [] b n e = let z : n ≡ i = omega arith in rw z
sets_append l i (x ∷ a) b n e = sets_append (set l i x) (suc i) a b n (omega arith)

-- ---- part

-- a part has as many bytes as asked for
pub length_part : (s : List ℕ) (i n : ℕ) → i + n ≤ length s → length (part s i n) ≡ n
unfolding part
length_part s i n h = length-take-le n (drop i s) (simp length-drop (omega arith))

-- one more byte of a part
pub part_snoc : (s : List ℕ) (i n : ℕ) → i + n < length s → part s i (n + 1) ≡ part s i n ++ get_or s (i + n) 0 ∷ []
unfolding part
part_snoc s i n h =
    let inside : n < length (drop i s) = simp length-drop (omega arith) in
    rw (add-one n, take-suc (drop i s) n 0 inside, get_or-drop)

-- two parts, one after the other
pub part_append : (s : List ℕ) (i m j n : ℕ) → i + m ≡ j → part s i m ++ part s j n ≡ part s i (m + n)
unfolding part
part_append s i m j n e = rw (take-add m n (drop i s), drop-drop m i s, e)

pub part_whole : (s : List ℕ) (n : ℕ) → length s ≡ n → part s 0 n ≡ s
unfolding part
part_whole s n e = take_all n s (omega arith)

-- a part of the first bytes
pub part_take : (m : ℕ) (s : List ℕ) (i n : ℕ) → i + n ≤ m → m ≤ length s → part (take m s) i n ≡ part s i n
unfolding part
part_take m s i n h l =
    let short : length (part (take m s) i n) ≡ n = length_part (take m s) i n (rw (length-take-le m s l) h) in
    let long : length (part s i n) ≡ n = length_part s i n (omega arith) in
    ext_get_or 0 _ _ (short ∙ sym long)
    (λ k b. rw (get_or-take n (drop i (take m s)) k 0 (omega arith), get_or-take n (drop i s) k 0 (omega arith), get_or-drop, get_or-drop)
    (get_or-take m s (i + k) 0 (omega arith)))

-- a part after a run of stores: the run itself, and what lies before or behind it
pub part_stored : (l : List ℕ) (i : ℕ) (v : List ℕ) (n : ℕ) → length v ≡ n → i + n ≤ length l → part (sets l i v) i n ≡ v
unfolding part
part_stored l i v n e h = ap (take n) (drop_sets_at l i v (omega arith)) ∙ take_at v (drop (i + length v) l) n e

pub part_other : (l : List ℕ) (i : ℕ) (v : List ℕ) (j n : ℕ) → i ≤ length l → (j + n ≤ i) ⊎ (i + length v ≤ j) → part (sets l i v) j n ≡ part l j n
unfolding part
part_other l i v j n h (inl b) =
    sym (part_take i (sets l i v) j n b (omega (arith, length-sets l i v)))
    ∙ ap (λ s. part s j n) (take_sets i l i v (omega arith))
    ∙ part_take i l j n b h
part_other l i v j n h (inr b) = ap (take n) (drop_sets j l i v b)

-- ---- replicate

-- zeros are 0 at each place, past their end too
abbrev zeros : ℕ → List ℕ
zeros n = replicate {A = ℕ} n 0

pub zeros_length : (n : ℕ) → length (replicate {A = ℕ} n 0) ≡ n
zeros_length n = length-replicate {A = ℕ} n 0

pub zeros_at : (n k : ℕ) → get_or (replicate {A = ℕ} n 0) k 0 ≡ 0
zeros_at n k = go (ltb k n) refl
  where
    go : (b : Bool) → ltb k n ≡ b → get_or (zeros n) k 0 ≡ 0
    go true e = get_or-replicate n k 0 0 (ltb-true k n e)
    go false e = get_or-eq_default (zeros n) 0 (rw (zeros_length n) (ltb-false k n e))
