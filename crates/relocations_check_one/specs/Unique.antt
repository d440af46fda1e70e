-- That an alignment is allowed has one proof at most: it is 0, or has one bit, and 0 has none. The ghost field of Source needs it, and a
-- ghost field may cite only specs/: nothing is defined here.
use mathlib.Core.Path.{◌≡◌, refl, sym, ap, ◌∙◌}
use mathlib.Core.Bool.{true, false, Bool-set}
use mathlib.Core.Logic.{◌⊎◌, inl, inr}
use native.Mathlib.Nat.{ℕ_set}
use Prim.Native.Nat.{ℕ}
use Rattle.numbers_definitions.specs.First.{first}
use Rattle.numbers_definitions.specs.Powers.{one_bit}
use Rattle.numbers_definitions.proofs.Laws.Tests.{never}

-- no power of two is 0
no_bit : one_bit 64 0 ≡ false
unfolding one_bit first
no_bit = refl

pub alignment_unique : (a : ℕ) → IsProp ((a ≡ 0) ⊎ (one_bit 64 a ≡ true))
alignment_unique a (inl p) (inl q) = ap inl (ℕ_set a 0 p q)
alignment_unique a (inl p) (inr q) = never (sym (ap (one_bit 64) p ∙ no_bit) ∙ q)
alignment_unique a (inr p) (inl q) = never (sym (ap (one_bit 64) q ∙ no_bit) ∙ p)
alignment_unique a (inr p) (inr q) = ap inr (Bool-set (one_bit 64 a) true p q)
