-- Laws of the table of compressed jumps.
use mathlib.Core.Path.{◌≡◌, sym, ap, ◌∙◌}
use mathlib.Core.Bool.{Bool, true, cond}
use mathlib.Core.List.{List, [], ◌∷◌}
use Prim.Native.Nat.{ℕ, suc, ◌+◌, ◌-◌, ◌*◌, ◌/◌, ◌%◌, ◌^◌, ◌<◌}
use native.Mathlib.Nat.{mod-eq_of_lt, zero-mod, zero-div, mul-add, div-div-eq-div-mul, mul-div-mul_left}
use native.Mathlib.Omega.{arith}
use lib.Dec.{eqb}
use lib.IntN.{ℤ, pos, ◌-ℤ◌}
use lib.ListN.{length, get_or}
use lib.Pow.{field, mod-mod-pow}
use borrow.Author.Tests.{eqb-true}
use Rattle.numbers_definitions.specs.Whole.{residue, signed, within, even}
use Rattle.numbers_definitions.proofs.Laws.Tests.{same_test}
use Rattle.numbers_definitions.proofs.Laws.Whole.{residue_lt, residue_signed, signed_residue, even_residue, within_spelt}
use Rattle.instructions_fields.specs.declared.Field.TheVariants.{Cj}
use Rattle.instructions_fields.specs.Layouts.{Bits, keep, imm, format_cj, read, put, outside}
use Rattle.instructions_fields.proofs.Laws.Fields.{reads_back}
use Rattle.instructions_table.specs.Jumps.{distance_at, field_at}
use Rattle.instructions_table.proofs.Laws.Table.{every, each}

-- ---- the table

-- what the whole table is tested for: x is right at place h
unfoldable pub right : ℕ → ℕ → Bool
right h x = eqb x (field_at h)

-- a list that passes the test has the field of its distance at each place
pub entry : (xs : List ℕ) → every right 0 xs ≡ true → (h : ℕ) → h < length xs → get_or xs h 0 ≡ field_at h
unfolding right
entry xs e h inside = eqb-true (get_or xs h 0) (field_at h) (each right xs e h inside)

-- ---- places and distances

distance_is : (h : ℕ) → distance_at h ≡ signed 12 (2 * h)
unfolding signed
distance_is h =
    ap (λ t. cond t (pos (2 * h)) (pos (2 * h) -ℤ pos 4096))
    (same_test (suc h) 1024 (suc (2 * (2 * h))) 4096 (λ l. omega arith) (λ l. omega arith))

distance_bits : (h : ℕ) → h < 2048 → residue 12 (distance_at h) ≡ 2 * h
distance_bits h inside = ap (residue 12) (distance_is h) ∙ residue_signed 12 (2 * h) (omega arith)

-- every even distance from -2,048 to 2,046 has a place
pub has_place : (z : ℤ) → even z ≡ true → within 2048 2046 z ≡ true → (h : ℕ) × (h < 2048) × (distance_at h ≡ z)
has_place z is_even near =
    let bits : ℕ = residue 12 z in
    let small : bits < 4096 = residue_lt 12 z in
    let twice : bits % 2 ≡ 0 = even_residue 11 z is_even in
    let whole : 2 * (bits / 2) ≡ bits = omega arith in
    let spelt : signed 12 bits ≡ z = signed_residue 12 z (within_spelt 12 2048 2046 z (omega arith) (omega arith) near) in
    (bits / 2, omega arith, distance_is (bits / 2) ∙ ap (signed 12) whole ∙ spelt)

-- the manual reads at each place the distance itself
pub reads_distance : (h : ℕ) → h < 2048 → signed 12 (read format_cj (field_at h)) ≡ distance_at h
reads_distance h inside =
    ap (λ v. signed 12 (read format_cj (put format_cj 0 v))) (distance_bits h inside)
    ∙ ap (signed 12) (reads_back Cj 0 (2 * h) (omega arith) ∙ mod-eq_of_lt (omega arith))
    ∙ sym (distance_is h)

-- ---- a value that is put in

-- the kept bits are those of the instruction, and the others do not depend on it
put_apart : (runs : List Bits) (w v : ℕ) → put runs w v ≡ outside runs w + put runs 0 v
unfolding put outside
put_apart [] w v = omega arith
put_apart (keep n ∷ runs) w v = rw (put_apart runs (w / 2 ^ n) v, mul-add, zero-mod, zero-div) (omega arith)
put_apart (imm high low ∷ runs) w v =
    rw (put_apart runs (w / 2 ^ (suc high - low)) v, mul-add, zero-div) (omega arith)

-- n bits of a value from bit k + 1 on are those of its half from bit k on, also where that is cut above them
digit : (v j n k : ℕ) → v / (2 * 2 ^ k) % 2 ^ n ≡ 2 * (v / 2 % 2 ^ (j + n + k)) / (2 * 2 ^ k) % 2 ^ n
digit v j n k =
    let half : ℕ = v / 2 % 2 ^ (j + n + k) in
    let cut : half / 2 ^ k % 2 ^ n ≡ v / 2 / 2 ^ k % 2 ^ n = ap (λ x. x % 2 ^ n) (field (v / 2) (j + n) k) ∙ mod-mod-pow (v / 2 / 2 ^ k) j n in
    rw (← div-div-eq-div-mul v 2 (2 ^ k), mul-div-mul_left {m = 2} half (2 ^ k) (omega arith)) (sym cut)

-- what is put in are bits 1 to 11 of the value
field_bits : (v : ℕ) → put format_cj 0 v ≡ put format_cj 0 (2 * (v / 2 % 2048))
unfolding put
field_bits v =
    rw (digit v 6 1 4, digit v 8 3 0, digit v 4 1 6, digit v 5 1 5, digit v 1 1 9, digit v 2 2 7, digit v 7 1 3, digit v 0 1 10)

-- a value of any bits is put in by the table
pub put_by_table : (w v : ℕ) → put format_cj w v ≡ outside format_cj w + field_at (v / 2 % 2048)
put_by_table w v =
    put_apart format_cj w v
    ∙ ap (λ n. outside format_cj w + n) (field_bits v ∙ ap (put format_cj 0) (sym (distance_bits (v / 2 % 2048) (omega arith))))
