-- What is put into a field is read back, for every field. What data fields hold.
use mathlib.Core.Path.{◌≡◌, sym, ap, ◌∙◌}
use Prim.Native.Nat.{ℕ, suc, ◌+◌, ◌*◌, ◌/◌, ◌%◌, ◌^◌}
use native.Mathlib.Nat.{pow-zero, div-one, sub-zero}
use native.Mathlib.Omega.{arith}
use mathlib.Core.List.{List, [], ◌∷◌}
use lib.Pow.{mod-pow-add}
use lib.IntN.{ℤ}
use Rattle.numbers_definitions.specs.Whole.{residue, signed}
use Rattle.numbers_definitions.proofs.Laws.Whole.{Spelt, residue_narrow, signed_residue}
use Rattle.instructions_fields.specs.declared.Width.TheVariants.{W6, W8, W16, W32, W64}
use Rattle.instructions_fields.specs.declared.Field.{Field}
use Rattle.instructions_fields.specs.declared.Field.TheVariants.{U, I, S, B, J, Cb, Cj, Call, Data}
use Rattle.instructions_fields.specs.Layouts.{Bits, imm, keep, read, put}
use Rattle.instructions_fields.specs.Fields.{layout, value_bits, unit}
use Rattle.instructions_fields.proofs.Laws.Layouts.{held, read_put}

-- one more digit of a value: n bits from bit k on, above the lower ones
digit : (v n k : ℕ) → v / 2 ^ k % 2 ^ n * 2 ^ k + v % 2 ^ k ≡ v % 2 ^ (n + k)
digit v n k = sym (mod-pow-add v n k)

-- digits from the lowest up, each with what lies below it, make what lies below the next. A format has them in an order of its own.
order_b : (a b c d r₀ r₁ r₂ r₃ r₄ : ℕ) → r₀ ≡ 0 → a + r₀ ≡ r₁ → b + r₁ ≡ r₂ → c + r₂ ≡ r₃ → d + r₃ ≡ r₄ → c + (a + (b + (d + 0))) ≡ r₄
order_b a b c d r₀ r₁ r₂ r₃ r₄ z e₁ e₂ e₃ e₄ = omega arith

order_j : (a b c d r₀ r₁ r₂ r₃ r₄ : ℕ) → r₀ ≡ 0 → a + r₀ ≡ r₁ → b + r₁ ≡ r₂ → c + r₂ ≡ r₃ → d + r₃ ≡ r₄ → c + (b + (a + (d + 0))) ≡ r₄
order_j a b c d r₀ r₁ r₂ r₃ r₄ z e₁ e₂ e₃ e₄ = omega arith

order_cb : (a b c d e r₀ r₁ r₂ r₃ r₄ r₅ : ℕ) → r₀ ≡ 0 → a + r₀ ≡ r₁ → b + r₁ ≡ r₂ → c + r₂ ≡ r₃ → d + r₃ ≡ r₄ → e + r₄ ≡ r₅
    → c + (a + (d + (b + (e + 0)))) ≡ r₅
order_cb a b c d e r₀ r₁ r₂ r₃ r₄ r₅ z e₁ e₂ e₃ e₄ e₅ = omega arith

order_cj : (a b c d e f g h r₀ r₁ r₂ r₃ r₄ r₅ r₆ r₇ r₈ : ℕ) → r₀ ≡ 0 → a + r₀ ≡ r₁ → b + r₁ ≡ r₂ → c + r₂ ≡ r₃ → d + r₃ ≡ r₄ → e + r₄ ≡ r₅
    → f + r₅ ≡ r₆ → g + r₆ ≡ r₇ → h + r₇ ≡ r₈ → c + (a + (e + (d + (g + (f + (b + (h + 0))))))) ≡ r₈
order_cj a b c d e f g h r₀ r₁ r₂ r₃ r₄ r₅ r₆ r₇ r₈ z e₁ e₂ e₃ e₄ e₅ e₆ e₇ e₈ = omega arith

-- the bits that a field holds are its value's, where the value is a multiple of the field's unit
held_is : (f : Field) (v : ℕ) → v % unit f ≡ 0 → held (layout f) v ≡ v % 2 ^ value_bits f
unfolding held
held_is U v h = omega (arith, digit v 20 12)
held_is I v h = omega arith
held_is S v h = omega (arith, digit v 7 5)
held_is B v h = order_b _ _ _ _ _ _ _ _ _ h (digit v 4 1) (digit v 6 5) (digit v 1 11) (digit v 1 12)
held_is J v h = order_j _ _ _ _ _ _ _ _ _ h (digit v 10 1) (digit v 1 11) (digit v 8 12) (digit v 1 20)
held_is Cb v h = order_cb _ _ _ _ _ _ _ _ _ _ _ h (digit v 2 1) (digit v 2 3) (digit v 1 5) (digit v 2 6) (digit v 1 8)
held_is Cj v h =
    order_cj _ _ _ _ _ _ _ _ _ _ _ _ _ _ _ _ _ h (digit v 3 1) (digit v 1 4) (digit v 1 5) (digit v 1 6) (digit v 1 7) (digit v 2 8) (digit v 1 10) (digit v 1 11)
held_is Call v h = omega (arith, digit v 20 12)
held_is (Data W6) v h = omega arith
held_is (Data W8) v h = omega arith
held_is (Data W16) v h = omega arith
held_is (Data W32) v h = omega arith
held_is (Data W64) v h = omega arith

-- a value that is put in is read back
pub reads_back : (f : Field) (w v : ℕ) → v % unit f ≡ 0 → read (layout f) (put (layout f) w v) ≡ v % 2 ^ value_bits f
reads_back f w v h = read_put (layout f) w v ∙ held_is f v h

-- a signed value is read back as signed: every whole number that the field's bits spell, and that is a multiple of its unit
pub reads_back_signed : (f : Field) (w j : ℕ) (z : ℤ) → Spelt (value_bits f) z → residue (j + value_bits f) z % unit f ≡ 0
    → signed (value_bits f) (read (layout f) (put (layout f) w (residue (j + value_bits f) z))) ≡ z
reads_back_signed f w j z s h =
    ap (signed (value_bits f)) (reads_back f w (residue (j + value_bits f) z) h ∙ residue_narrow j (value_bits f) z)
    ∙ signed_residue (value_bits f) z s

-- a field of whole bytes
pub read_whole : (h v : ℕ) → read (imm h 0 ∷ []) v ≡ v % 2 ^ suc h
unfolding read
read_whole h v = rw (sub-zero, pow-zero) (omega arith)

pub put_whole : (h v x : ℕ) → put (imm h 0 ∷ []) v x ≡ x % 2 ^ suc h
unfolding put
put_whole h v x = rw (sub-zero, pow-zero, div-one) (omega arith)

-- six bits of a byte
abbrev pub six : List Bits
six = imm 5 0 ∷ keep 2 ∷ []

pub read_six : (v : ℕ) → read six v ≡ v % 64
unfolding read
read_six v = omega arith
