-- The first index at which a test holds, tests that hold at every index, and lists that are given by a function of the index.
use Rattle.std.specs.Prelude.{ℕ, zero, suc, Bool, cond, not, List, [], ◌∷◌, eqb}

-- the least index below n at which p holds, or n where there is none
unfoldable pub first : (ℕ → Bool) → ℕ → ℕ
first p zero = zero
first p (suc n) = cond (p zero) zero (suc (first (λ j. p (suc j)) n))

-- p holds at each index below n
unfoldable pub everywhere : (ℕ → Bool) → ℕ → Bool
everywhere p n = eqb (first (λ j. not (p j)) n) n

-- the list of the values of f at 0, 1, .., n - 1
unfoldable pub tabulate : {A : Type 0} → (ℕ → A) → ℕ → List A
tabulate f zero = []
tabulate f (suc n) = f zero ∷ tabulate (λ j. f (suc j)) n
