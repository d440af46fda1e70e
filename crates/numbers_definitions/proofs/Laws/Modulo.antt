-- Equality modulo m.
use mathlib.Core.Path.{◌≡◌, sym, ap, ap₂, ◌∙◌}
use Prim.Native.Nat.{ℕ, ◌+◌, ◌-◌, ◌%◌, ◌<◌}
use native.Mathlib.Nat.{mod-lt, mod_self, mod-eq_of_lt, mod-add-mod, add-mod-mod, add-mod, add_assoc, add-zero}
use native.Mathlib.Omega.{arith}

-- what is added on both sides can be left out
pub mod_cancel : (m a b c : ℕ) → 0 < m → (a + c) % m ≡ (b + c) % m → a % m ≡ b % m
mod_cancel m a b c pos e = sym (back a) ∙ ap (λ x. (x + (m - c % m)) % m) e ∙ back b
  where
    back : (x : ℕ) → ((x + c) % m + (m - c % m)) % m ≡ x % m
    back x =
        let low : c % m < m = mod-lt c pos in
        let whole : c % m + (m - c % m) ≡ m = omega arith in
        rw (mod-add-mod, add_assoc, ← (add-mod-mod x (c + (m - c % m)) m), ← (mod-add-mod c m (m - c % m)), whole, mod_self, add-zero)

-- sums of numbers that are equal modulo m
pub mod_sum : (m a b c d : ℕ) → a % m ≡ b % m → c % m ≡ d % m → (a + c) % m ≡ (b + d) % m
mod_sum m a b c d e f = add-mod a c m ∙ ap₂ (λ x y. (x + y) % m) e f ∙ sym (add-mod b d m)

-- numbers below m are equal if their sums with c are equal modulo m
pub mod_unique : (m r s c : ℕ) → r < m → s < m → (r + c) % m ≡ (s + c) % m → r ≡ s
mod_unique m r s c hr hs e = sym (mod-eq_of_lt hr) ∙ mod_cancel m r s c (omega arith) e ∙ mod-eq_of_lt hs
