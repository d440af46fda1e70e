-- Laws of the ranges of distances.
use mathlib.Core.Path.{◌≡◌, refl, sym, ap, ◌∙◌}
use Prim.Native.Nat.{ℕ, zero, suc, ◌-◌, ◌+◌, ◌*◌, ◌%◌, ◌^◌, ◌≤◌, ◌<◌}
use mathlib.Core.Bool.{Bool, true, false, cond, ◌&&◌, ◌||◌}
use lib.Dec.{ltb, leb, eqb}
use borrow.Author.Tests.{ltb-true, ltb-false, lt-ltb, le-ltb, eqb-true, eqb-false, eq-eqb, ne_eqb}
use native.Mathlib.Nat.{mod-eq_of_lt, mod_self, add_comm, mul-mod_left}
use native.Mathlib.Omega.{arith}
use lib.Pow.{pow-add}
use lib.IntN.{ℤ, pos, neg_ℤ, ◌+ℤ◌, ◌-ℤ◌, nat_abs}
use Rattle.numbers_definitions.specs.declared.Class.TheVariants.{Elf64}
use Rattle.numbers_definitions.specs.Whole.{residue, signed, within, even, plus, minus}
use Rattle.numbers_definitions.proofs.Laws.Tests.{and_left, and_right, same_test}
use Rattle.numbers_definitions.proofs.Laws.Whole.{residue_lt, residue_add, residue_sub, residue_signed, even_residue, within_spelt, sub_back, minus_unique}
use Rattle.instructions_fields.specs.declared.Field.{Field}
use Rattle.instructions_fields.specs.declared.Field.TheVariants.{B, J, Cb, Cj}
use Rattle.instructions_fields.specs.Layouts.{read, put}
use Rattle.instructions_fields.specs.Fields.{layout, value_bits, unit}
use Rattle.instructions_riscv.specs.declared.ranges.Range.{Range}
use Rattle.instructions_riscv.specs.Ranges.{distance, branch, jal, rvc_branch, rvc_jump, reaches, keeps_alignment, halves_reach}
use Rattle.instructions_fields.proofs.Laws.Fields.{reads_back_signed}
use Rattle.instructions_riscv.proofs.Laws.Halves.{at_least}

-- both ends are reached; two steps further out and one step further in, which is odd, nothing is
pub record Ends (r : Range) (back ahead : ℕ) : Type 0 where
  pub ahead_in : reaches r (pos ahead) ≡ true
  pub ahead_odd : reaches r (pos (ahead - 1)) ≡ false
  pub ahead_out : reaches r (pos (ahead + 2)) ≡ false
  pub back_in : reaches r (neg_ℤ (pos back)) ≡ true
  pub back_odd : reaches r (neg_ℤ (pos (back - 1))) ≡ false
  pub back_out : reaches r (neg_ℤ (pos (back + 2))) ≡ false

pub branch_ends : Ends branch 4096 4094
unfolding reaches within even
branch_ends = record { ahead_in = refl; ahead_odd = refl; ahead_out = refl; back_in = refl; back_odd = refl; back_out = refl }

pub jal_ends : Ends jal 1048576 1048574
unfolding reaches within even
jal_ends = record { ahead_in = refl; ahead_odd = refl; ahead_out = refl; back_in = refl; back_odd = refl; back_out = refl }

pub rvc_branch_ends : Ends rvc_branch 256 254
unfolding reaches within even
rvc_branch_ends = record { ahead_in = refl; ahead_odd = refl; ahead_out = refl; back_in = refl; back_odd = refl; back_out = refl }

pub rvc_jump_ends : Ends rvc_jump 2048 2046
unfolding reaches within even
rvc_jump_ends = record { ahead_in = refl; ahead_odd = refl; ahead_out = refl; back_in = refl; back_odd = refl; back_out = refl }

-- a distance that is reached, and put into its field modulo 2^w, is read back whole
reached_reads_back : (f : Field) (r : Range) (w b : ℕ) (z : ℤ) → value_bits f ≤ w → 1 ≤ w → unit f ≡ 2 → 2 * r.back ≤ 2 ^ value_bits f → 2 * r.ahead < 2 ^ value_bits f
    → reaches r z ≡ true → signed (value_bits f) (read (layout f) (put (layout f) b (residue w z))) ≡ z
unfolding reaches
reached_reads_back f r w b z wide one two back ahead e =
    let is_even : residue w z % 2 ≡ 0 = at_least (λ w. residue w z % 2 ≡ 0) 1 w one (λ k. even_residue k z (and_left (even z) _ e)) in
    at_least (λ w. residue w z % 2 ≡ 0 → signed (value_bits f) (read (layout f) (put (layout f) b (residue w z))) ≡ z) (value_bits f) w wide
    (λ j low. reads_back_signed f b j z (within_spelt (value_bits f) r.back r.ahead z back ahead (and_right (even z) _ e)) (rw two low))
    is_even

-- every jump and branch gives its distance when it is read as the manual says
pub branch_reads_back : (w b : ℕ) (z : ℤ) → 32 ≤ w → reaches branch z ≡ true → signed 13 (read (layout B) (put (layout B) b (residue w z))) ≡ z
branch_reads_back w b z h e = reached_reads_back B branch w b z (omega arith) (omega arith) refl (omega arith) (omega arith) e

pub jal_reads_back : (w b : ℕ) (z : ℤ) → 32 ≤ w → reaches jal z ≡ true → signed 21 (read (layout J) (put (layout J) b (residue w z))) ≡ z
jal_reads_back w b z h e = reached_reads_back J jal w b z (omega arith) (omega arith) refl (omega arith) (omega arith) e

pub rvc_branch_reads_back : (w b : ℕ) (z : ℤ) → 32 ≤ w → reaches rvc_branch z ≡ true → signed 9 (read (layout Cb) (put (layout Cb) b (residue w z))) ≡ z
rvc_branch_reads_back w b z h e = reached_reads_back Cb rvc_branch w b z (omega arith) (omega arith) refl (omega arith) (omega arith) e

pub rvc_jump_reads_back : (w b : ℕ) (z : ℤ) → 32 ≤ w → reaches rvc_jump z ≡ true → signed 12 (read (layout Cj) (put (layout Cj) b (residue w z))) ≡ z
rvc_jump_reads_back w b z h e = reached_reads_back Cj rvc_jump w b z (omega arith) (omega arith) refl (omega arith) (omega arith) e

-- ---- a distance modulo 2^w, ahead and back

-- what is left of d to 2^w
left_over : (w d : ℕ) → 0 < d → d < 2 ^ w → minus w 0 d ≡ 2 ^ w - d
left_over w d some h =
    let full : 2 ^ w - d + d ≡ 2 ^ w = omega arith in
    let none : 0 % 2 ^ w ≡ 0 = mod-eq_of_lt (omega arith) in
    sym (minus_unique w 0 d (2 ^ w - d) (omega arith) (ap (λ n. n % 2 ^ w) full ∙ mod_self (2 ^ w) ∙ sym none))

none_left : (w : ℕ) → 0 < 2 ^ w → minus w 0 0 ≡ 0
none_left w some = sym (minus_unique w 0 0 0 some refl)

-- read as signed, it is d where d is less than what is left
pub nearer_ahead : (w d : ℕ) → d < 2 ^ w → d < minus w 0 d → signed w d ≡ pos d
unfolding signed
nearer_ahead w zero h near = rw (lt-ltb 0 (2 ^ w) h)
nearer_ahead w (suc d) h near =
    let left : minus w 0 (suc d) ≡ 2 ^ w - suc d = left_over w (suc d) (omega arith) h in
    rw (lt-ltb (2 * suc d) (2 ^ w) (omega arith))

-- and what is left, back, where it is not
pub nearer_back : (w d : ℕ) → d < 2 ^ w → minus w 0 d ≤ d → signed w d ≡ neg_ℤ (pos (minus w 0 d))
unfolding signed
nearer_back w zero h near = rw (lt-ltb 0 (2 ^ w) h, none_left w h)
nearer_back w (suc d) h near =
    let left : minus w 0 (suc d) ≡ 2 ^ w - suc d = left_over w (suc d) (omega arith) h in
    let one_more : 2 ^ w - suc d ≡ suc (2 ^ w - suc (suc d)) = omega arith in
    rw (le-ltb (2 * suc d) (2 ^ w) (omega arith)) (sub_back (suc d) (2 ^ w) h ∙ ap (λ n. neg_ℤ (pos n)) (sym (left ∙ one_more)))

-- a distance back is within a range as far as the range has it back
pub reaches_back : (r : Range) (n : ℕ) → reaches r (neg_ℤ (pos n)) ≡ (eqb (n % 2) 0 && leb n r.back)
unfolding reaches within even
reaches_back r zero = same_test 0 r.ahead 0 r.back (λ l. omega arith) (λ l. omega arith)
reaches_back r (suc n) = refl

-- P and the distance lead to T
pub distance_leads : (w t p : ℕ) → t < 2 ^ w → residue w (pos p +ℤ distance w t p) ≡ t
unfolding minus residue
distance_leads w t p h =
    let d : ℕ = residue w (pos t -ℤ pos p) in
    residue_add w (pos p) (signed w d)
    ∙ ap (λ n. (residue w (pos p) + n) % 2 ^ w) (residue_signed w d (residue_lt w (pos t -ℤ pos p)))
    ∙ ap (λ n. n % 2 ^ w) (add_comm (residue w (pos p)) d)
    ∙ residue_sub w (pos t) (pos p)
    ∙ mod-eq_of_lt h

-- ---- a distance and its residue keep the alignment alike

four_divides : (w : ℕ) → 2 ≤ w → 2 ^ w % 4 ≡ 0
four_divides w h = at_least (λ w. 2 ^ w % 4 ≡ 0) 2 w h (λ k. rw (pow-add 2 k 2) (mul-mod_left (2 ^ k) 4))

-- where m is a multiple of 4, m - d is one exactly if d is
left_fours : (m d : ℕ) → m % 4 ≡ 0 → d < m → eqb (suc (m - suc d) % 4) 0 ≡ eqb (d % 4) 0
left_fours m d fours h = go (eqb (d % 4) 0) refl
  where
    go : (b : Bool) → eqb (d % 4) 0 ≡ b → eqb (suc (m - suc d) % 4) 0 ≡ b
    go true e = let is : d % 4 ≡ 0 = eqb-true _ _ e in eq-eqb (suc (m - suc d) % 4) 0 (omega arith)
    go false e = let is : d % 4 ≡ 0 → ⊥ = eqb-false _ _ e in ne_eqb (suc (m - suc d) % 4) 0 (λ n. is (omega arith))

pub aligned_signed : (rvc : Bool) (w d : ℕ) → 2 ≤ w → d < 2 ^ w → keeps_alignment rvc (signed w d) ≡ keeps_alignment rvc (pos d)
unfolding keeps_alignment signed
aligned_signed rvc w d wide h = ap (λ b. rvc || b) (go (ltb (2 * d) (2 ^ w)))
  where
    go : (b : Bool) → eqb (nat_abs (cond b (pos d) (pos d -ℤ pos (2 ^ w))) % 4) 0 ≡ eqb (d % 4) 0
    go true = refl
    go false = ap (λ z. eqb (nat_abs z % 4) 0) (sub_back d (2 ^ w) h) ∙ left_fours (2 ^ w) d (four_divides w wide) h

-- ---- the range of two halves, as one comparison

halves_ahead : (v : ℕ) → 2 * v < 2 ^ 64 → leb ((v + 2147485696) % 2 ^ 64) 4294967295 ≡ leb v 2147481599
halves_ahead v h =
    let whole : (v + 2147485696) % 2 ^ 64 ≡ v + 2147485696 = mod-eq_of_lt (omega arith) in
    same_test ((v + 2147485696) % 2 ^ 64) 4294967295 v 2147481599 (λ l. omega arith) (λ l. omega arith)

halves_back : (v : ℕ) → v < 2 ^ 64 → 2 ^ 64 ≤ 2 * v → leb ((v + 2147485696) % 2 ^ 64) 4294967295 ≡ leb (suc (2 ^ 64 - suc v)) 2147485696
halves_back v h far = same_test ((v + 2147485696) % 2 ^ 64) 4294967295 (suc (2 ^ 64 - suc v)) 2147485696 (λ l. omega arith) (λ l. omega arith)

pub halves_compared : (v : ℕ) → v < 2 ^ 64 → leb (plus 64 v 2147485696) 4294967295 ≡ within 2147485696 2147481599 (signed 64 v)
unfolding plus within signed
halves_compared v h = go (ltb (2 * v) (2 ^ 64)) refl
  where
    go : (b : Bool) → ltb (2 * v) (2 ^ 64) ≡ b → leb ((v + 2147485696) % 2 ^ 64) 4294967295 ≡ within 2147485696 2147481599 (cond b (pos v) (pos v -ℤ pos (2 ^ 64)))
    go true e = halves_ahead v (ltb-true _ _ e)
    go false e = halves_back v h (ltb-false _ _ e) ∙ sym (ap (within 2147485696 2147481599) (sub_back v (2 ^ 64) h))

-- both ends of the range are reached, and the numbers one further out are not
pub halves_ends : (halves_reach Elf64 2147481599 ≡ true) × (halves_reach Elf64 2147481600 ≡ false)
    × (halves_reach Elf64 (2 ^ 64 - 2147485696) ≡ true) × (halves_reach Elf64 (2 ^ 64 - 2147485697) ≡ false)
unfolding within signed
halves_ends = (refl, refl, refl, refl)
