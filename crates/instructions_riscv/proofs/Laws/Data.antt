-- Laws of data fields, over the width.
use mathlib.Core.Path.{◌≡◌, refl, sym, ap, ◌∙◌}
use Prim.Native.Nat.{ℕ, ◌+◌, ◌%◌, ◌^◌, ◌<◌}
use native.Mathlib.Nat.{mod-eq_of_lt, mod-mod, mod-add-mod}
use native.Mathlib.Omega.{arith}
use lib.Pow.{mod-mod-pow}
use lib.IntN.{pos, ◌+ℤ◌, ◌-ℤ◌}
use Rattle.numbers_definitions.specs.Whole.{residue, signed, plus, minus}
use Rattle.numbers_definitions.proofs.Laws.Whole.{residue_lt, residue_narrow, minus_mod, plus_signed, minus_signed, cut_signed}
use Rattle.instructions_fields.specs.declared.Width.{Width}
use Rattle.instructions_fields.specs.declared.Width.TheVariants.{W6, W8, W16, W32, W64}
use Rattle.instructions_fields.specs.Layouts.{read, put}
use Rattle.instructions_fields.specs.Fields.{bits, data_layout}
use Rattle.instructions_fields.proofs.Laws.Fields.{read_whole, put_whole, read_six}
use Rattle.instructions_riscv.specs.Data.{added, subtracted, replaced}

-- a field holds as many of its word's lowest bits as it is wide
held : (n : Width) (v : ℕ) → read (data_layout n) v ≡ v % 2 ^ bits n
held W6 v = read_six v
held W8 v = read_whole 7 v
held W16 v = read_whole 15 v
held W32 v = read_whole 31 v
held W64 v = read_whole 63 v

-- only as many bits of what is put in count
cut : (n : Width) (v a b : ℕ) → a % 2 ^ bits n ≡ b % 2 ^ bits n → put (data_layout n) v a ≡ put (data_layout n) v b
unfolding put
cut W6 v a b e = omega arith
cut W8 v a b e = put_whole 7 v a ∙ e ∙ sym (put_whole 7 v b)
cut W16 v a b e = put_whole 15 v a ∙ e ∙ sym (put_whole 15 v b)
cut W32 v a b e = put_whole 31 v a ∙ e ∙ sym (put_whole 31 v b)
cut W64 v a b e = put_whole 63 v a ∙ e ∙ sym (put_whole 63 v b)

-- a sum and a difference of j + k bits, cut at k bits
plus_cut : (j k v x : ℕ) → plus (j + k) v x % 2 ^ k ≡ plus k (v % 2 ^ k) x
unfolding plus
plus_cut j k v x = mod-mod-pow (v + x) j k ∙ sym (mod-add-mod v (2 ^ k) x)

minus_cut : (j k v x : ℕ) → minus (j + k) v x % 2 ^ k ≡ minus k (v % 2 ^ k) x
unfolding minus
minus_cut j k v x = residue_narrow j k (pos v -ℤ pos x) ∙ minus_mod k v x (v % 2 ^ k) x (sym (mod-mod v (2 ^ k))) refl

-- what is put in is S + A, or the sum or the difference, at a width that the field's lies below by j bits
add_by : (j : ℕ) (n : Width) (v x : ℕ) → x < 2 ^ (j + bits n) → put (data_layout n) v (plus (j + bits n) v x) ≡ added n v (signed (j + bits n) x)
unfolding added
add_by j n v x h =
    let k : ℕ = bits n in
    cut n v (plus (j + k) v x) (residue k (pos (read (data_layout n) v) +ℤ signed (j + k) x))
    (plus_cut j k v x
    ∙ plus_signed j k (v % 2 ^ k) x h
    ∙ ap (λ m. residue k (pos m +ℤ signed (j + k) x)) (sym (held n v))
    ∙ sym (mod-eq_of_lt (residue_lt k (pos (read (data_layout n) v) +ℤ signed (j + k) x))))

sub_by : (j : ℕ) (n : Width) (v x : ℕ) → x < 2 ^ (j + bits n) → put (data_layout n) v (minus (j + bits n) v x) ≡ subtracted n v (signed (j + bits n) x)
unfolding subtracted
sub_by j n v x h =
    let k : ℕ = bits n in
    cut n v (minus (j + k) v x) (residue k (pos (read (data_layout n) v) -ℤ signed (j + k) x))
    (minus_cut j k v x
    ∙ minus_signed j k (v % 2 ^ k) x h
    ∙ ap (λ m. residue k (pos m -ℤ signed (j + k) x)) (sym (held n v))
    ∙ sym (mod-eq_of_lt (residue_lt k (pos (read (data_layout n) v) -ℤ signed (j + k) x))))

set_by : (j : ℕ) (n : Width) (v x : ℕ) → x < 2 ^ (j + bits n) → put (data_layout n) v x ≡ replaced n v (signed (j + bits n) x)
unfolding replaced
set_by j n v x h =
    let k : ℕ = bits n in
    cut n v x (residue k (signed (j + k) x)) (cut_signed j k x h ∙ sym (mod-eq_of_lt (residue_lt k (signed (j + k) x))))

-- at every width, 64 bits are enough
pub add_data : (n : Width) (v x : ℕ) → x < 2 ^ 64 → put (data_layout n) v (plus 64 v x) ≡ added n v (signed 64 x)
add_data W6 = add_by 58 W6
add_data W8 = add_by 56 W8
add_data W16 = add_by 48 W16
add_data W32 = add_by 32 W32
add_data W64 = add_by 0 W64

pub sub_data : (n : Width) (v x : ℕ) → x < 2 ^ 64 → put (data_layout n) v (minus 64 v x) ≡ subtracted n v (signed 64 x)
sub_data W6 = sub_by 58 W6
sub_data W8 = sub_by 56 W8
sub_data W16 = sub_by 48 W16
sub_data W32 = sub_by 32 W32
sub_data W64 = sub_by 0 W64

pub set_data : (n : Width) (v x : ℕ) → x < 2 ^ 64 → put (data_layout n) v x ≡ replaced n v (signed 64 x)
set_data W6 = set_by 58 W6
set_data W8 = set_by 56 W8
set_data W16 = set_by 48 W16
set_data W32 = set_by 32 W32
set_data W64 = set_by 0 W64
