-- What a relocation leaves depends on S + A modulo 2^64 alone.
use mathlib.Core.Path.{◌≡◌, refl, sym, ap, ◌∙◌}
use mathlib.Core.Bool.{true}
use Prim.Native.Nat.{ℕ, ◌+◌, ◌%◌, ◌^◌, ◌≤◌}
use lib.IntN.{ℤ, pos, ◌+ℤ◌, ◌-ℤ◌}
use Rattle.numbers_definitions.specs.Whole.{residue, plus, minus}
use Rattle.numbers_definitions.proofs.Laws.Whole.{residue_narrow, plus_residue, minus_residue}
use Rattle.instructions_fields.specs.declared.Width.TheVariants.{W6, W8, W16, W32, W64}
use Rattle.instructions_fields.specs.declared.Field.{Field}
use Rattle.instructions_fields.specs.declared.Field.TheVariants.{U, I, S, B, J, Cb, Cj, Call, Data}
use Rattle.instructions_fields.specs.Layouts.{read, put}
use Rattle.instructions_fields.specs.Fields.{layout, value_bits}
use Rattle.relocations_types.specs.declared.Calculation.{Calculation}
use Rattle.relocations_types.specs.declared.Calculation.TheVariants.{Of, Add, Sub, Set}
use Rattle.relocations_types.specs.declared.Operand.{Operand}
use Rattle.relocations_types.specs.declared.Operand.TheVariants.{Absolute, PcRelative, Paired}
use Rattle.instructions_riscv.proofs.Laws.Halves.{narrowed}
use Rattle.relocations_decisions.specs.Decisions.{is_paired, takes_pair}
use Rattle.relocations_bytes.specs.Patches.{operand_of, part_of, calculated, patched}

-- ---- numbers that are equal modulo 2^(j + k) are so modulo 2^k

narrow : (j k : ℕ) (y z : ℤ) → residue (j + k) y ≡ residue (j + k) z → residue k y ≡ residue k z
narrow j k y z e = sym (residue_narrow j k y) ∙ ap (λ n. n % 2 ^ k) e ∙ residue_narrow j k z

narrow_sum : (j k v : ℕ) (y z : ℤ) → residue (j + k) y ≡ residue (j + k) z → residue k (pos v +ℤ y) ≡ residue k (pos v +ℤ z)
narrow_sum j k v y z e = sym (plus_residue j k v y) ∙ ap (plus k v) e ∙ plus_residue j k v z

narrow_difference : (j k v : ℕ) (y z : ℤ) → residue (j + k) y ≡ residue (j + k) z → residue k (pos v -ℤ y) ≡ residue k (pos v -ℤ z)
narrow_difference j k v y z e = sym (minus_residue j k v y) ∙ ap (minus k v) e ∙ minus_residue j k v z

-- how many of 64 bits a field's value leaves unused
abbrev rest : Field → ℕ
rest U = 32
rest I = 52
rest S = 52
rest B = 51
rest J = 43
rest Cb = 55
rest Cj = 52
rest Call = 32
rest (Data W6) = 58
rest (Data W8) = 56
rest (Data W16) = 48
rest (Data W32) = 32
rest (Data W64) = 0

whole : (f : Field) → rest f + value_bits f ≡ 64
whole U = refl
whole I = refl
whole S = refl
whole B = refl
whole J = refl
whole Cb = refl
whole Cj = refl
whole Call = refl
whole (Data W6) = refl
whole (Data W8) = refl
whole (Data W16) = refl
whole (Data W32) = refl
whole (Data W64) = refl

-- addresses of w bits, where w is at most 64
module _ (w : ℕ) (h : w ≤ 64) where
  cut : (y z : ℤ) → residue 64 y ≡ residue 64 z → residue w y ≡ residue w z
  cut y z q = sym (narrowed 64 w y h) ∙ ap (λ n. n % 2 ^ w) q ∙ narrowed 64 w z h

  same_operand : (o : Operand) (y z : ℤ) (p d e : ℕ) → residue 64 y ≡ residue 64 z → (is_paired o ≡ true → d ≡ e)
      → operand_of w o (residue w y) p d ≡ operand_of w o (residue w z) p e
  same_operand Absolute y z p d e q r = cut y z q
  same_operand PcRelative y z p d e q r = ap (λ t. minus w t p) (cut y z q)
  same_operand Paired y z p d e q r = r refl

  same_value : (c : Calculation) (f : Field) (v : ℕ) (y z : ℤ) (p d e : ℕ) → residue 64 y ≡ residue 64 z → (takes_pair c ≡ true → d ≡ e)
      → calculated w c (value_bits f) v y p d ≡ calculated w c (value_bits f) v z p e
  same_value (Of part o) f v y z p d e q r = ap (part_of w part) (same_operand o y z p d e q r)
  same_value Add f v y z p d e q r = narrow_sum (rest f) (value_bits f) v y z (rw (whole f) q)
  same_value Sub f v y z p d e q r = narrow_difference (rest f) (value_bits f) v y z (rw (whole f) q)
  same_value Set f v y z p d e q r = narrow (rest f) (value_bits f) y z (rw (whole f) q)

  pub same_patch : (c : Calculation) (f : Field) (b : ℕ) (y z : ℤ) (p d e : ℕ) → residue 64 y ≡ residue 64 z → (takes_pair c ≡ true → d ≡ e)
      → patched w c f b y p d ≡ patched w c f b z p e
  unfolding patched
  same_patch c f b y z p d e q r = ap (put (layout f) b) (same_value c f (read (layout f) b) y z p d e q r)
