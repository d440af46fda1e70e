-- Laws of layouts: what is put in is read back, and the bits outside the field stay.
use mathlib.Core.Path.{◌≡◌, refl}
use Prim.Native.Nat.{ℕ, suc, ◌+◌, ◌-◌, ◌*◌, ◌/◌, ◌%◌, ◌^◌, ◌<◌}
use native.Mathlib.Nat.{mod-lt, mul_comm, mul_assoc, mul-add, one-mul, add_comm, add_assoc, zero-add, div-one, div-div-eq-div-mul}
use native.Mathlib.Omega.{arith}
use mathlib.Core.List.{List, [], ◌∷◌, ◌++◌}
use lib.Arith.{digits_div, digits_mod, digits_lt}
use lib.Pow.{pow_pos, pow-add}
use Rattle.instructions_fields.specs.Layouts.{Bits, keep, imm, size, read, put, outside}

-- ---- one digit of a number in mixed radix

-- a digit d below 2^n, and the rest above it
pub digit_low : (n d rest : ℕ) → d < 2 ^ n → (d + 2 ^ n * rest) % 2 ^ n ≡ d
digit_low n d rest h = rw (add_comm d (2 ^ n * rest), mul_comm (2 ^ n) rest) (digits_mod rest h)

pub digit_high : (n d rest : ℕ) → d < 2 ^ n → (d + 2 ^ n * rest) / 2 ^ n ≡ rest
digit_high n d rest h = rw (add_comm d (2 ^ n * rest), mul_comm (2 ^ n) rest) (digits_div rest h)

-- ---- the laws, for every layout

-- the bits of a value that a layout has room for, each at its place
unfoldable pub held : List Bits → ℕ → ℕ
held [] v = 0
held (keep n ∷ runs) v = held runs v
held (imm high low ∷ runs) v = v / 2 ^ low % 2 ^ (suc high - low) * 2 ^ low + held runs v

pub read_put : (runs : List Bits) (w v : ℕ) → read runs (put runs w v) ≡ held runs v
unfolding read put held
read_put [] w v = refl
read_put (keep n ∷ runs) w v =
    rw (digit_high n (w % 2 ^ n) (put runs (w / 2 ^ n) v) (mod-lt w (pow_pos n))) (read_put runs (w / 2 ^ n) v)
read_put (imm high low ∷ runs) w v =
    let n : ℕ = suc high - low in
    let d : ℕ = v / 2 ^ low % 2 ^ n in
    let rest : ℕ = put runs (w / 2 ^ n) v in
    let small : d < 2 ^ n = mod-lt (v / 2 ^ low) (pow_pos n) in
    rw (digit_low n d rest small, digit_high n d rest small, read_put runs (w / 2 ^ n) v)

pub outside_put : (runs : List Bits) (w v : ℕ) → outside runs (put runs w v) ≡ outside runs w
unfolding outside put
outside_put [] w v = refl
outside_put (keep n ∷ runs) w v =
    let small : w % 2 ^ n < 2 ^ n = mod-lt w (pow_pos n) in
    let rest : ℕ = put runs (w / 2 ^ n) v in
    rw (digit_low n (w % 2 ^ n) rest small, digit_high n (w % 2 ^ n) rest small, outside_put runs (w / 2 ^ n) v)
outside_put (imm high low ∷ runs) w v =
    let n : ℕ = suc high - low in
    let d : ℕ = v / 2 ^ low % 2 ^ n in
    let rest : ℕ = put runs (w / 2 ^ n) v in
    let small : d < 2 ^ n = mod-lt (v / 2 ^ low) (pow_pos n) in
    rw (digit_high n d rest small, outside_put runs (w / 2 ^ n) v)

-- how many bits a layout has
unfoldable pub total : List Bits → ℕ
total [] = 0
total (run ∷ runs) = total runs + size run

pub put_lt : (runs : List Bits) (w v : ℕ) → put runs w v < 2 ^ total runs
unfolding put total
put_lt [] w v = omega arith
put_lt (keep n ∷ runs) w v =
    rw (pow-add 2 (total runs) n, add_comm (w % 2 ^ n) (2 ^ n * put runs (w / 2 ^ n) v), mul_comm (2 ^ n) (put runs (w / 2 ^ n) v))
    (digits_lt (put_lt runs (w / 2 ^ n) v) (mod-lt w (pow_pos n)))
put_lt (imm high low ∷ runs) w v =
    let n : ℕ = suc high - low in
    let d : ℕ = v / 2 ^ low % 2 ^ n in
    rw (pow-add 2 (total runs) n, add_comm d (2 ^ n * put runs (w / 2 ^ n) v), mul_comm (2 ^ n) (put runs (w / 2 ^ n) v))
    (digits_lt (put_lt runs (w / 2 ^ n) v) (mod-lt (v / 2 ^ low) (pow_pos n)))

-- ---- one layout above another

pub read_append : (xs ys : List Bits) (w : ℕ) → read (xs ++ ys) w ≡ read xs w + read ys (w / 2 ^ total xs)
unfolding read total
read_append [] ys w = rw (div-one, zero-add)
read_append (keep n ∷ xs) ys w =
    rw (read_append xs ys (w / 2 ^ n), div-div-eq-div-mul, pow-add 2 (total xs) n, mul_comm (2 ^ total xs) (2 ^ n))
read_append (imm high low ∷ xs) ys w =
    let n : ℕ = suc high - low in
    rw (read_append xs ys (w / 2 ^ n), div-div-eq-div-mul, pow-add 2 (total xs) n, mul_comm (2 ^ total xs) (2 ^ n), add_assoc)

pub put_append : (xs ys : List Bits) (w v : ℕ) → put (xs ++ ys) w v ≡ put xs w v + 2 ^ total xs * put ys (w / 2 ^ total xs) v
unfolding put total
put_append [] ys w v = rw (div-one, one-mul, zero-add)
put_append (keep n ∷ xs) ys w v =
    rw (put_append xs ys (w / 2 ^ n) v, div-div-eq-div-mul, pow-add 2 (total xs) n, mul_comm (2 ^ total xs) (2 ^ n), mul-add, mul_assoc, add_assoc)
put_append (imm high low ∷ xs) ys w v =
    let n : ℕ = suc high - low in
    rw (put_append xs ys (w / 2 ^ n) v, div-div-eq-div-mul, pow-add 2 (total xs) n, mul_comm (2 ^ total xs) (2 ^ n), mul-add, mul_assoc, add_assoc)
