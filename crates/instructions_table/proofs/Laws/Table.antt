-- A test that holds at every entry of a list holds at each of them.
use mathlib.Core.Path.{◌≡◌, ◌∙◌, subst, sym}
use mathlib.Core.Bool.{Bool, true, ◌&&◌}
use mathlib.Core.List.{List, [], ◌∷◌}
use Prim.Native.Nat.{ℕ, zero, suc, ◌+◌, ◌<◌}
use native.Mathlib.Nat.{add-zero, zero-add, add-suc, suc-add, le_of_suc-le-suc, not-suc-le-zero}
use lib.ListN.{length, get_or}
use Rattle.numbers_definitions.proofs.Laws.Tests.{and_left, and_right}

-- the test passes at each entry of the list and its place, counted from i
unfoldable pub every : (ℕ → ℕ → Bool) → ℕ → List ℕ → Bool
every test i [] = true
every test i (x ∷ xs) = test i x && every test (suc i) xs

from : (test : ℕ → ℕ → Bool) (xs : List ℕ) (i : ℕ) → every test i xs ≡ true → (k : ℕ) → k < length xs → test (i + k) (get_or xs k 0) ≡ true
unfolding every
from test [] i e k h = absurd (not-suc-le-zero h)
from test (x ∷ xs) i e zero h = rw add-zero (and_left (test i x) (every test (suc i) xs) e)
from test (x ∷ xs) i e (suc k) h =
    subst (λ m. test m (get_or xs k 0) ≡ true) (suc-add i k ∙ sym (add-suc i k))
    (from test xs (suc i) (and_right (test i x) (every test (suc i) xs) e) k (le_of_suc-le-suc h))

-- the test at one entry and its place
pub each : (test : ℕ → ℕ → Bool) (xs : List ℕ) → every test 0 xs ≡ true → (k : ℕ) → k < length xs → test k (get_or xs k 0) ≡ true
each test xs e k h = rw zero-add at (from test xs 0 e k h)
