-- Laws of tests joined by `&&` and `||`.
use mathlib.Core.Logic.{◌⊎◌, inl, inr}
use mathlib.Core.Path.{◌≡◌, refl, sym, ap, ◌∙◌}
use Prim.Native.Nat.{ℕ, ◌≤◌, ◌<◌}
use mathlib.Core.Bool.{Bool, true, false, not, cond, ◌&&◌, ◌||◌}
use native.Mathlib.Omega.{arith}
use lib.Dec.{leb}
use borrow.Author.Tests.{le-leb, lt-leb, leb-true, leb-false}

-- a test cannot both fail and hold
pub never : {A : Type 0} → ◌≡◌ {A = Bool} false true → A
never e =
    let z : ◌≡◌ {A = ℕ} 0 1 = ap (λ b. cond b 1 0) e in
    absurd (omega arith)

pub clash : {A : Type 0} (b : Bool) → b ≡ false → b ≡ true → A
clash b p q = never (sym p ∙ q)

-- the two halves of a test that holds
pub and_left : (a b : Bool) → a && b ≡ true → a ≡ true
and_left true b e = refl
and_left false b e = e

pub and_right : (a b : Bool) → a && b ≡ true → b ≡ true
and_right true b e = e
and_right false b e = cc

pub both : (a b : Bool) → a ≡ true → b ≡ true → a && b ≡ true
both a b p q = rw (p, q)

-- if an `||` holds, one of its halves holds
pub one_of_two : (a b : Bool) → (a || b) ≡ true → (a ≡ true) ⊎ (b ≡ true)
one_of_two true b e = inl refl
one_of_two false b e = inr e

pub or_two : (a b : Bool) → (a ≡ true) ⊎ (b ≡ true) → (a || b) ≡ true
or_two true b h = refl
or_two false b (inl e) = never e
or_two false b (inr e) = e

-- tests that are an implication
pub given : (a b : Bool) → (not a || b) ≡ true → a ≡ true → b ≡ true
given true b e h = e
given false b e h = never h

pub implied : (a b : Bool) → (a ≡ true → b ≡ true) → (not a || b) ≡ true
implied true b h = h refl
implied false b h = refl

pub implies : (a b : Bool) → (a && not b) ≡ false → a ≡ true → b ≡ true
implies true true e h = refl
implies true false e h = never (sym e)
implies false b e h = never h

-- two tests are equal if neither holds without the other
pub same_tests : (a b : Bool) → ((a && not b) || (b && not a)) ≡ false → a ≡ b
same_tests true true e = refl
same_tests false false e = refl
same_tests true false e = never (sym e)
same_tests false true e = never (sym e)

-- the half that holds where the other fails
pub or_right : (a b : Bool) → a ≡ false → a || b ≡ true → b ≡ true
or_right true b f e = cc
or_right false b f e = e

-- the two halves of a test that fails
pub neither_left : (a b : Bool) → a || b ≡ false → a ≡ false
neither_left true b e = e
neither_left false b e = refl

pub neither_right : (a b : Bool) → a || b ≡ false → b ≡ false
neither_right true b e = cc
neither_right false b e = e

-- a half that is decided
pub and_true : (a : Bool) → a && true ≡ a
and_true true = refl
and_true false = refl

pub and_false : (a : Bool) → a && false ≡ false
and_false true = refl
and_false false = refl

pub or_false : (a : Bool) → a || false ≡ a
or_false true = refl
or_false false = refl

pub or_true : (a : Bool) → a || true ≡ true
or_true true = refl
or_true false = refl

-- a test cannot both fail and hold
pub not_both : (a b : Bool) → not a ≡ true → a ≡ b → b ≡ true → ⊥
not_both a b n e h = let z : ◌≡◌ {A = Bool} false true = cc in let y : ◌≡◌ {A = ℕ} 0 1 = cc in omega arith

pub ruleset tests = (and_true, and_false, or_true, or_false)

-- two comparisons that say the same give the same test
pub same_test : (a b c d : ℕ) → (c ≤ d → a ≤ b) → (d < c → b < a) → leb a b ≡ leb c d
same_test a b c d f g = go (leb c d) refl
  where
    go : (t : Bool) → leb c d ≡ t → leb a b ≡ leb c d
    go true e = le-leb a b (f (leb-true c d e)) ∙ sym e
    go false e = lt-leb a b (g (leb-false c d e)) ∙ sym e
