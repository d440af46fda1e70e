-- The value of a field has the field's bits. Together with the bits outside the field it determines the whole.
use mathlib.Core.Path.{◌≡◌, sym, ap, ap₂, ◌∙◌}
use Prim.Native.Nat.{ℕ, suc, ◌+◌, ◌-◌, ◌*◌, ◌/◌, ◌%◌, ◌^◌, ◌<◌}
use native.Mathlib.Nat.{mod-lt}
use native.Mathlib.Omega.{arith}
use mathlib.Core.List.{List, [], ◌∷◌}
use lib.Pow.{pow_pos, shr_lt, split}
use Rattle.instructions_fields.specs.declared.Width.TheVariants.{W6, W8, W16, W32, W64}
use Rattle.instructions_fields.specs.declared.Field.{Field}
use Rattle.instructions_fields.specs.declared.Field.TheVariants.{U, I, S, B, J, Cb, Cj, Call, Data}
use Rattle.instructions_fields.specs.Layouts.{Bits, keep, imm, read, outside}
use Rattle.instructions_fields.specs.Fields.{layout, value_bits}
use Rattle.instructions_fields.proofs.Laws.Layouts.{digit_low, digit_high, total}

-- ---- for every layout

-- two numbers have the same digits where the value lies
abbrev Agree : List Bits → ℕ → ℕ → Type 0
Agree [] w v = Unit {0}
Agree (keep n ∷ runs) w v = Agree runs (w / 2 ^ n) (v / 2 ^ n)
Agree (imm high low ∷ runs) w v =
    (w % 2 ^ (suc high - low) ≡ v % 2 ^ (suc high - low)) × Agree runs (w / 2 ^ (suc high - low)) (v / 2 ^ (suc high - low))

-- a number is determined by its lowest digit and the rest
whole : (n w v : ℕ) → w % 2 ^ n ≡ v % 2 ^ n → w / 2 ^ n ≡ v / 2 ^ n → w ≡ v
whole n w v low high = sym (split w n) ∙ ap₂ (λ q r. q * 2 ^ n + r) high low ∙ split v n

-- if two sums of a digit and the rest above it are equal, so are the digits and the rests
low_same : (n a b x y : ℕ) → a < 2 ^ n → b < 2 ^ n → a + 2 ^ n * x ≡ b + 2 ^ n * y → a ≡ b
low_same n a b x y ha hb e = sym (digit_low n a x ha) ∙ ap (λ s. s % 2 ^ n) e ∙ digit_low n b y hb

high_same : (n a b x y : ℕ) → a < 2 ^ n → b < 2 ^ n → a + 2 ^ n * x ≡ b + 2 ^ n * y → x ≡ y
high_same n a b x y ha hb e = sym (digit_high n a x ha) ∙ ap (λ s. s / 2 ^ n) e ∙ digit_high n b y hb

-- two numbers with the same digits there and the same bits outside are the same
agreed : (runs : List Bits) (w v : ℕ) → w < 2 ^ total runs → v < 2 ^ total runs → outside runs w ≡ outside runs v → Agree runs w v → w ≡ v
unfolding outside total
agreed [] w v hw hv o a = omega arith
agreed (keep n ∷ runs) w v hw hv o a =
    let lw : w % 2 ^ n < 2 ^ n = mod-lt w (pow_pos n) in
    let lv : v % 2 ^ n < 2 ^ n = mod-lt v (pow_pos n) in
    whole n w v (low_same n _ _ _ _ lw lv o)
    (agreed runs (w / 2 ^ n) (v / 2 ^ n) (shr_lt (total runs) n hw) (shr_lt (total runs) n hv) (high_same n _ _ _ _ lw lv o) a)
agreed (imm high low ∷ runs) w v hw hv o a =
    let n : ℕ = suc high - low in
    whole n w v a.0
    (agreed runs (w / 2 ^ n) (v / 2 ^ n) (shr_lt (total runs) n hw) (shr_lt (total runs) n hv)
    (high_same n 0 0 _ _ (pow_pos n) (pow_pos n) (ap (λ s. 0 + s) o)) a.1)

-- ---- for every field

-- equal sums of digits, each at its place, have equal digits: from the highest down, each is what `omega` sees at once
digits_s : (a b a' b' : ℕ) → a % 32 * 1 + (b % 128 * 32 + 0) ≡ a' % 32 * 1 + (b' % 128 * 32 + 0)
    → (a % 32 ≡ a' % 32) × ((b % 128 ≡ b' % 128) × Unit {0})
digits_s a b a' b' q =
    let b₁ : b % 128 ≡ b' % 128 = omega arith in
    let a₁ : a % 32 ≡ a' % 32 = omega arith in
    (a₁, (b₁, tt))

digits_b : (c a b d c' a' b' d' : ℕ)
    → c % 2 * 2048 + (a % 16 * 2 + (b % 64 * 32 + (d % 2 * 4096 + 0)))
    ≡ c' % 2 * 2048 + (a' % 16 * 2 + (b' % 64 * 32 + (d' % 2 * 4096 + 0)))
    → (c % 2 ≡ c' % 2) × ((a % 16 ≡ a' % 16) × ((b % 64 ≡ b' % 64) × ((d % 2 ≡ d' % 2) × Unit {0})))
digits_b c a b d c' a' b' d' q =
    let d₁ : d % 2 ≡ d' % 2 = omega arith in
    let c₁ : c % 2 ≡ c' % 2 = omega arith in
    let b₁ : b % 64 ≡ b' % 64 = omega arith in
    let a₁ : a % 16 ≡ a' % 16 = omega arith in
    (c₁, (a₁, (b₁, (d₁, tt))))

digits_j : (c b a d c' b' a' d' : ℕ)
    → c % 256 * 4096 + (b % 2 * 2048 + (a % 1024 * 2 + (d % 2 * 1048576 + 0)))
    ≡ c' % 256 * 4096 + (b' % 2 * 2048 + (a' % 1024 * 2 + (d' % 2 * 1048576 + 0)))
    → (c % 256 ≡ c' % 256) × ((b % 2 ≡ b' % 2) × ((a % 1024 ≡ a' % 1024) × ((d % 2 ≡ d' % 2) × Unit {0})))
digits_j c b a d c' b' a' d' q =
    let d₁ : d % 2 ≡ d' % 2 = omega arith in
    let c₁ : c % 256 ≡ c' % 256 = omega arith in
    let b₁ : b % 2 ≡ b' % 2 = omega arith in
    let a₁ : a % 1024 ≡ a' % 1024 = omega arith in
    (c₁, (b₁, (a₁, (d₁, tt))))

digits_cb : (c a d b e c' a' d' b' e' : ℕ)
    → c % 2 * 32 + (a % 4 * 2 + (d % 4 * 64 + (b % 4 * 8 + (e % 2 * 256 + 0))))
    ≡ c' % 2 * 32 + (a' % 4 * 2 + (d' % 4 * 64 + (b' % 4 * 8 + (e' % 2 * 256 + 0))))
    → (c % 2 ≡ c' % 2) × ((a % 4 ≡ a' % 4) × ((d % 4 ≡ d' % 4) × ((b % 4 ≡ b' % 4) × ((e % 2 ≡ e' % 2) × Unit {0}))))
digits_cb c a d b e c' a' d' b' e' q =
    let e₁ : e % 2 ≡ e' % 2 = omega arith in
    let d₁ : d % 4 ≡ d' % 4 = omega arith in
    let c₁ : c % 2 ≡ c' % 2 = omega arith in
    let b₁ : b % 4 ≡ b' % 4 = omega arith in
    let a₁ : a % 4 ≡ a' % 4 = omega arith in
    (c₁, (a₁, (d₁, (b₁, (e₁, tt)))))

digits_cj : (c a e d g f b h c' a' e' d' g' f' b' h' : ℕ)
    → c % 2 * 32 + (a % 8 * 2 + (e % 2 * 128 + (d % 2 * 64 + (g % 2 * 1024 + (f % 4 * 256 + (b % 2 * 16 + (h % 2 * 2048 + 0)))))))
    ≡ c' % 2 * 32 + (a' % 8 * 2 + (e' % 2 * 128 + (d' % 2 * 64 + (g' % 2 * 1024 + (f' % 4 * 256 + (b' % 2 * 16 + (h' % 2 * 2048 + 0)))))))
    → (c % 2 ≡ c' % 2) × ((a % 8 ≡ a' % 8) × ((e % 2 ≡ e' % 2) × ((d % 2 ≡ d' % 2) × ((g % 2 ≡ g' % 2) × ((f % 4 ≡ f' % 4) × ((b % 2 ≡ b' % 2) × ((h % 2 ≡ h' % 2) × Unit {0})))))))
digits_cj c a e d g f b h c' a' e' d' g' f' b' h' q =
    let h₁ : h % 2 ≡ h' % 2 = omega arith in
    let g₁ : g % 2 ≡ g' % 2 = omega arith in
    let f₁ : f % 4 ≡ f' % 4 = omega arith in
    let e₁ : e % 2 ≡ e' % 2 = omega arith in
    let d₁ : d % 2 ≡ d' % 2 = omega arith in
    let c₁ : c % 2 ≡ c' % 2 = omega arith in
    let b₁ : b % 2 ≡ b' % 2 = omega arith in
    let a₁ : a % 8 ≡ a' % 8 = omega arith in
    (c₁, (a₁, (e₁, (d₁, (g₁, (f₁, (b₁, (h₁, tt))))))))

digits_call : (b a b' a' : ℕ) → b % 1048576 * 4096 + (a % 4096 * 1 + 0) ≡ b' % 1048576 * 4096 + (a' % 4096 * 1 + 0)
    → (b % 1048576 ≡ b' % 1048576) × ((a % 4096 ≡ a' % 4096) × Unit {0})
digits_call b a b' a' q =
    let b₁ : b % 1048576 ≡ b' % 1048576 = omega arith in
    let a₁ : a % 4096 ≡ a' % 4096 = omega arith in
    (b₁, (a₁, tt))

-- equal values have equal digits
agree : (f : Field) (w v : ℕ) → read (layout f) w ≡ read (layout f) v → Agree (layout f) w v
unfolding read
agree U w v e = (omega arith, tt)
agree I w v e = (omega arith, tt)
agree S w v e = digits_s _ _ _ _ e
agree B w v e = digits_b _ _ _ _ _ _ _ _ e
agree J w v e = digits_j _ _ _ _ _ _ _ _ e
agree Cb w v e = digits_cb _ _ _ _ _ _ _ _ _ _ e
agree Cj w v e = digits_cj _ _ _ _ _ _ _ _ _ _ _ _ _ _ _ _ e
agree Call w v e = digits_call _ _ _ _ e
agree (Data W6) w v e = (omega arith, tt)
agree (Data W8) w v e = (omega arith, tt)
agree (Data W16) w v e = (omega arith, tt)
agree (Data W32) w v e = (omega arith, tt)
agree (Data W64) w v e = (omega arith, tt)

-- an instruction or datum is determined by the value of its field and the bits outside
pub determined : (f : Field) (w v : ℕ) → w < 2 ^ total (layout f) → v < 2 ^ total (layout f) → outside (layout f) w ≡ outside (layout f) v
    → read (layout f) w ≡ read (layout f) v → w ≡ v
determined f w v hw hv o e = agreed (layout f) w v hw hv o (agree f w v e)

-- the value that is read has the field's bits
pub read_lt : (f : Field) (w : ℕ) → read (layout f) w < 2 ^ value_bits f
unfolding read
read_lt U w = omega arith
read_lt I w = omega arith
read_lt S w = omega arith
read_lt B w = omega arith
read_lt J w = omega arith
read_lt Cb w = omega arith
read_lt Cj w = omega arith
read_lt Call w = omega arith
read_lt (Data W6) w = omega arith
read_lt (Data W8) w = omega arith
read_lt (Data W16) w = omega arith
read_lt (Data W32) w = omega arith
read_lt (Data W64) w = omega arith
