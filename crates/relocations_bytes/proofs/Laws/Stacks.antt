-- ADD, SUB and SET on a field, as one whole number.
use mathlib.Core.Path.{◌≡◌, refl, sym, ap, ◌∙◌}
use mathlib.Core.Bool.{true}
use Prim.Native.Nat.{ℕ, ◌+◌, ◌%◌, ◌^◌, ◌<◌}
use native.Mathlib.Nat.{mod-eq_of_lt, mod-lt, mod-one}
use lib.Pow.{pow_pos}
use lib.IntN.{ℤ, pos, ◌+ℤ◌, ◌-ℤ◌}
use Rattle.numbers_definitions.proofs.Laws.Tests.{never}
use Rattle.numbers_definitions.specs.Whole.{residue}
use Rattle.numbers_definitions.proofs.Laws.Modulo.{mod_unique}
use Rattle.numbers_definitions.proofs.Laws.Whole.{residue_lt, residue_add, residue_sub}
use Rattle.instructions_fields.specs.declared.Width.{Width}
use Rattle.instructions_fields.specs.declared.Width.TheVariants.{W6, W8, W16, W32, W64}
use Rattle.instructions_fields.specs.declared.Field.{Field}
use Rattle.instructions_fields.specs.declared.Field.TheVariants.{U, I, S, B, J, Cb, Cj, Call, Data}
use Rattle.instructions_fields.specs.Layouts.{read, put}
use Rattle.instructions_fields.specs.Fields.{layout, value_bits, bits as bits_of, data_layout}
use Rattle.instructions_fields.proofs.Laws.Fields.{reads_back, read_whole, read_six}
use Rattle.relocations_types.specs.declared.Calculation.{Calculation}
use Rattle.relocations_types.specs.declared.Calculation.TheVariants.{Of, Add, Sub, Set}
use Rattle.relocations_decisions.specs.Decisions.{stacks}
use Rattle.relocations_decisions.specs.Widths.{is_data_field}
use Rattle.relocations_bytes.specs.Patches.{calculated, patched}
use Rattle.relocations_bytes.specs.Promises.{stack_step}

-- reducing in between does not change the reduced result
residue_again : (w : ℕ) (z : ℤ) → residue w (pos (residue w z)) ≡ residue w z
unfolding residue
residue_again w z = mod-eq_of_lt (residue_lt w z)

sum_again : (w : ℕ) (z x : ℤ) → residue w (pos (residue w z) +ℤ x) ≡ residue w (z +ℤ x)
sum_again w z x =
    residue_add w (pos (residue w z)) x ∙ ap (λ r. (r + residue w x) % 2 ^ w) (residue_again w z) ∙ sym (residue_add w z x)

difference_again : (w : ℕ) (z x : ℤ) → residue w (pos (residue w z) -ℤ x) ≡ residue w (z -ℤ x)
difference_again w z x =
    mod_unique (2 ^ w) (residue w (pos (residue w z) -ℤ x)) (residue w (z -ℤ x)) (residue w x) (residue_lt w (pos (residue w z) -ℤ x)) (residue_lt w (z -ℤ x))
    (residue_sub w (pos (residue w z)) x ∙ residue_again w z ∙ sym (residue_sub w z x))

-- one more relocation of a stack
step_again : (w : ℕ) (c : Calculation) (bits v : ℕ) (z x : ℤ) (p d : ℕ) → stacks c ≡ true → v ≡ residue bits z → calculated w c bits v x p d ≡ residue bits (stack_step c z x)
step_again w Add bits v z x p d s e = ap (λ n. residue bits (pos n +ℤ x)) e ∙ sum_again bits z x
step_again w Sub bits v z x p d s e = ap (λ n. residue bits (pos n -ℤ x)) e ∙ difference_again bits z x
step_again w Set bits v z x p d s e = refl
step_again w (Of part operand) bits v z x p d s e = never s

-- the value of a data field has at most as many bits as the field
data_lt : (n : Width) (w : ℕ) → read (data_layout n) w < 2 ^ bits_of n
data_lt W6 w = rw (read_six w) (mod-lt w (pow_pos 6))
data_lt W8 w = rw (read_whole 7 w) (mod-lt w (pow_pos 8))
data_lt W16 w = rw (read_whole 15 w) (mod-lt w (pow_pos 16))
data_lt W32 w = rw (read_whole 31 w) (mod-lt w (pow_pos 32))
data_lt W64 w = rw (read_whole 63 w) (mod-lt w (pow_pos 64))

pub field_lt : (f : Field) (w : ℕ) → is_data_field f ≡ true → read (layout f) w < 2 ^ value_bits f
field_lt (Data n) w e = data_lt n w
field_lt U w e = never e
field_lt I w e = never e
field_lt S w e = never e
field_lt B w e = never e
field_lt J w e = never e
field_lt Cb w e = never e
field_lt Cj w e = never e
field_lt Call w e = never e

data_back : (f : Field) (w v : ℕ) → is_data_field f ≡ true → v < 2 ^ value_bits f → read (layout f) (put (layout f) w v) ≡ v
data_back (Data n) w v e l = reads_back (Data n) w v (mod-one v) ∙ mod-eq_of_lt l
data_back U w v e l = never e
data_back I w v e l = never e
data_back S w v e l = never e
data_back B w v e l = never e
data_back J w v e l = never e
data_back Cb w v e l = never e
data_back Cj w v e l = never e
data_back Call w v e l = never e

-- if a field holds the stack's number modulo 2 to the power of its width, it still does after the next relocation of the stack
pub stacked : (w : ℕ) (c : Calculation) (f : Field) (b : ℕ) (z x : ℤ) (p d : ℕ) → stacks c ≡ true → is_data_field f ≡ true → read (layout f) b ≡ residue (value_bits f) z
    → read (layout f) (patched w c f b x p d) ≡ residue (value_bits f) (stack_step c z x)
unfolding patched
stacked w c f b z x p d s e h =
    let v : ℕ = calculated w c (value_bits f) (read (layout f) b) x p d in
    let is : v ≡ residue (value_bits f) (stack_step c z x) = step_again w c (value_bits f) (read (layout f) b) z x p d s h in
    let small : v < 2 ^ value_bits f = rw is (residue_lt (value_bits f) (stack_step c z x)) in
    data_back f b v e small ∙ is
