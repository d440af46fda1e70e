-- If check 8 passes, the span lies inside the image.
use Rattle.std.specs.Prelude.{Ok}
use mathlib.Core.Path.{◌≡◌, refl, sym, subst}
use Prim.Native.Nat.{ℕ, zero, suc, ◌+◌, ◌-◌, ◌≤◌, ◌<◌, min, max}
use native.Mathlib.Omega.{arith}
use native.Mathlib.Decide.{dec_lt}
use mathlib.Core.Bool.{Bool, true, false, cond}
use mathlib.Core.List.{List}
use Rattle.numbers_definitions.proofs.Laws.Tests.{never}
use Rattle.elf_read.specs.Headers.{section_count}
use Rattle.elf_read.specs.Sections.{section_at}
use Rattle.placing_check.specs.Placing.{end_of, has_bytes, placing_check}
use Rattle.placing_check.proofs.Laws.Theorems.{inside_image}
use Rattle.placing_span.specs.Spans.{highest, lowest_byte, span_of}

lowered_le : (b : Bool) (a l top : ℕ) → l ≤ top → cond b (min a l) l ≤ top
lowered_le true a l top h = omega arith
lowered_le false a l top h = h

-- the lowest laid byte is at most the top
pub lowest_byte_le : (object addresses : List ℕ) (base top n : ℕ) → lowest_byte object addresses base top n ≤ top
unfolding lowest_byte
lowest_byte_le object addresses base top zero = omega arith
lowest_byte_le object addresses base top (suc i) = lowered_le (has_bytes (section_at object i)) _ _ top (lowest_byte_le object addresses base top i)

lowered_top : (b : Bool) (a l big top : ℕ) → l ≡ min big top → cond b (min a l) l ≡ min (cond b (min a big) big) top
lowered_top true a l big top e = omega (arith, e)
lowered_top false a l big top e = e

-- a top that is applied at the end is one from the start
pub lowest_byte_top : (object addresses : List ℕ) (base big top n : ℕ) → top ≤ big → lowest_byte object addresses base top n ≡ min (lowest_byte object addresses base big n) top
unfolding lowest_byte
lowest_byte_top object addresses base big top zero h = omega arith
lowest_byte_top object addresses base big top (suc i) h = lowered_top (has_bytes (section_at object i)) _ _ _ top (lowest_byte_top object addresses base big top i h)

raised_le : (b : Bool) (a l top : ℕ) → (b ≡ true → a ≤ top) → l ≤ top → cond b (max a l) l ≤ top
raised_le true a l top f h = omega (arith, f refl)
raised_le false a l top f h = h

-- if each laid section ends at or below `top`, so does the highest
highest_le : (object addresses : List ℕ) (base top n : ℕ) → ((i : ℕ) → i < n → has_bytes (section_at object i) ≡ true → end_of object addresses i - base ≤ top)
    → highest object addresses base n ≤ top
unfolding highest
highest_le object addresses base top zero f = omega arith
highest_le object addresses base top (suc i) f =
    raised_le (has_bytes (section_at object i)) _ _ top (f i (omega arith)) (highest_le object addresses base top i (λ j h. f j (omega arith)))

raised_end : (b : Bool) (a l : ℕ) → b ≡ true → a ≤ cond b (max a l) l
raised_end true a l e = omega arith
raised_end false a l e = never e

raised_more : (b : Bool) (a l : ℕ) → l ≤ cond b (max a l) l
raised_more true a l = omega arith
raised_more false a l = omega arith

-- each laid section ends at or below the highest
pub highest_end : (object addresses : List ℕ) (base n i : ℕ) → i < n → has_bytes (section_at object i) ≡ true → end_of object addresses i - base ≤ highest object addresses base n
unfolding highest
highest_end object addresses base zero i h e = absurd (omega arith)
highest_end object addresses base (suc n) i h e = go (dec_lt i n) (λ l. highest_end object addresses base n i l e)
  where
    go : Dec (i < n) → (i < n → end_of object addresses i - base ≤ highest object addresses base n) → end_of object addresses i - base ≤ cond (has_bytes (section_at object n)) (max (end_of object addresses n - base) (highest object addresses base n)) (highest object addresses base n)
    go (yes l) f =
        omega (arith, f l, raised_more (has_bytes (section_at object n)) (end_of object addresses n - base) (highest object addresses base n))
    go (no l) f =
        let same : i ≡ n = omega arith in
        subst (λ k. has_bytes (section_at object k) ≡ true → end_of object addresses k - base ≤ cond (has_bytes (section_at object n)) (max (end_of object addresses n - base) (highest object addresses base n)) (highest object addresses base n)) (sym same)
        (raised_end (has_bytes (section_at object n)) (end_of object addresses n - base) (highest object addresses base n)) e

module _ (object addresses : List ℕ) (base len : ℕ) (fine : placing_check object addresses base len ≡ Ok tt) where
  -- where check 8 passes, the highest laid byte ends inside the image, and with it the span
  pub highest_inside : highest object addresses base (section_count object) ≤ len
  unfolding end_of
  highest_inside =
      highest_le object addresses base len (section_count object)
      (λ i h e. let in_image = inside_image object addresses base len fine i h e in omega (arith, in_image.0, in_image.1))

  pub span_inside : (span_of object addresses base).start + (span_of object addresses base).size ≤ len
  unfolding span_of
  span_inside = omega (arith, highest_inside, lowest_byte_le object addresses base (highest object addresses base (section_count object)) (section_count object))
