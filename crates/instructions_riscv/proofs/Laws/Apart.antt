-- A high part and a low part are determined by their sum.
use mathlib.Core.Path.{◌≡◌, sym, ap, ◌∙◌}
use Prim.Native.Nat.{ℕ, ◌+◌, ◌%◌, ◌^◌, ◌≤◌, ◌<◌}
use native.Mathlib.Nat.{mod-eq_of_lt, mod-add-mod, zero-add}
use lib.IntN.{ℤ, pos, ◌+ℤ◌}
use Rattle.numbers_definitions.specs.Whole.{residue, signed}
use Rattle.numbers_definitions.proofs.Laws.Modulo.{mod_unique}
use Rattle.numbers_definitions.proofs.Laws.Whole.{residue_add, residue_narrow, residue_signed}
use Rattle.instructions_riscv.proofs.Laws.Halves.{narrowed}

-- the lowest twelve bits of the sum are those of the low part
lowest : (a x : ℕ) → a % 4096 ≡ 0 → x < 2 ^ 12 → residue 32 (pos a +ℤ signed 12 x) % 4096 ≡ x
unfolding residue
lowest a x none h =
    residue_narrow 20 12 (pos a +ℤ signed 12 x)
    ∙ residue_add 12 (pos a) (signed 12 x)
    ∙ rw (none, residue_signed 12 x h, zero-add) (mod-eq_of_lt h)

-- the sum of the parts is the sum of their residues
whole : (a x : ℕ) → (a + residue 32 (signed 12 x)) % 2 ^ 32 ≡ residue 32 (pos a +ℤ signed 12 x)
whole a x =
    sym (mod-add-mod a (2 ^ 32) (residue 32 (signed 12 x))) ∙ unfold residue in sym (residue_add 32 (pos a) (signed 12 x))

-- a multiple of 4,096 below 2^32 and a signed number of twelve bits are determined by their sum modulo 2^32
apart_32 : (a b x y : ℕ) → a % 4096 ≡ 0 → b % 4096 ≡ 0 → a < 2 ^ 32 → b < 2 ^ 32 → x < 2 ^ 12 → y < 2 ^ 12
    → residue 32 (pos a +ℤ signed 12 x) ≡ residue 32 (pos b +ℤ signed 12 y) → (a ≡ b) × (x ≡ y)
apart_32 a b x y none none' ha hb hx hy e =
    let low : x ≡ y = sym (lowest a x none hx) ∙ ap (λ n. n % 4096) e ∙ lowest b y none' hy in
    let part : ℕ = residue 32 (signed 12 x) in
    let sum : (a + part) % 2 ^ 32 ≡ (b + part) % 2 ^ 32 = whole a x ∙ e ∙ rw low (sym (whole b y)) in
    (mod_unique (2 ^ 32) a b part ha hb sum, low)

-- at a greater width, where the first is sign-extended, the sum has the same low 32 bits
cut : (w a : ℕ) (z : ℤ) → 32 ≤ w → a < 2 ^ 32 → residue w (signed 32 a +ℤ z) % 2 ^ 32 ≡ residue 32 (pos a +ℤ z)
cut w a z h ha =
    narrowed w 32 (signed 32 a +ℤ z) h
    ∙ residue_add 32 (signed 32 a) z
    ∙ ap (λ n. (n + residue 32 z) % 2 ^ 32) (residue_signed 32 a ha)
    ∙ sym (mod-add-mod a (2 ^ 32) (residue 32 z))
    ∙ unfold residue in sym (residue_add 32 (pos a) z)

-- so the two parts are determined by their sum at a greater width too
pub parts_apart : (w a b x y : ℕ) → 32 ≤ w → a % 4096 ≡ 0 → b % 4096 ≡ 0 → a < 2 ^ 32 → b < 2 ^ 32 → x < 2 ^ 12 → y < 2 ^ 12
    → residue w (signed 32 a +ℤ signed 12 x) ≡ residue w (signed 32 b +ℤ signed 12 y) → (a ≡ b) × (x ≡ y)
parts_apart w a b x y h none none' ha hb hx hy e =
    apart_32 a b x y none none' ha hb hx hy (sym (cut w a (signed 12 x) h ha) ∙ ap (λ n. n % 2 ^ 32) e ∙ cut w b (signed 12 y) h hb)

-- a 32-bit number is determined by its sign extension
pub extended_known : (w a b : ℕ) → 32 ≤ w → a < 2 ^ 32 → b < 2 ^ 32 → residue w (signed 32 a) ≡ residue w (signed 32 b) → a ≡ b
extended_known w a b h ha hb e =
    sym (residue_signed 32 a ha)
    ∙ sym (narrowed w 32 (signed 32 a) h)
    ∙ ap (λ n. n % 2 ^ 32) e
    ∙ narrowed w 32 (signed 32 b) h
    ∙ residue_signed 32 b hb
