-- What a check says whose fault was made a refusal by `map_err`.
use Rattle.std.specs.Prelude.{Result, Ok, Err, ⊤}
use Rattle.std.specs.Result.{MatchResult, IsErrAnd}
use mathlib.Core.Path.{◌≡◌, refl, sym, ◌∙◌, subst}
use mathlib.Core.List.{List}
use Prim.Native.Nat.{ℕ}
use native.Mathlib.Omega.{arith}
use Rattle.calls_judge.specs.declared.Refusal.{Refusal}

module _ (refusal : ℕ → Refusal) where
  -- the check's result, by cases, and the one that was made of it
  abbrev pub Mapped : Result ⊤ ℕ → Result ⊤ Refusal → Type 0
  Mapped r m = MatchResult r (λ y. m ≡ Ok y) (λ i. IsErrAnd m (λ d. d ≡ refusal i))

  -- where it is handed on by `?`, the check has found the fault of the refusal
  pub found : (r : Result ⊤ ℕ) (m : Result ⊤ Refusal) → Mapped r m → (d : Refusal) → m ≡ Err d → (i : ℕ) × (r ≡ Err i) × (d ≡ refusal i)
  found (Ok y) m h d e =
      let z : ◌≡◌ {A = ℕ} 0 1 = cc in
      absurd (omega arith)
  found (Err i) m h d e = (i, refl, subst (λ r. IsErrAnd r (λ d. d ≡ refusal i)) e h)

  -- otherwise the check has passed
  pub passed : (r : Result ⊤ ℕ) (m : Result ⊤ Refusal) → Mapped r m → (x : ⊤) → m ≡ Ok x → r ≡ Ok tt
  passed (Ok y) m h x e = refl
  passed (Err i) m h x e = absurd (subst (λ r. IsErrAnd r (λ d. d ≡ refusal i)) e h)

  -- so what the caller says of that refusal it says of what goes back
  pub handed_on : (r : Result ⊤ ℕ) (m : Result ⊤ Refusal) → Mapped r m → (d : Refusal) → m ≡ Err d → (W : Result (List ℕ) Refusal → Type 0) → ((i : ℕ) → r ≡ Err i → W (Err (refusal i)))
      → (out : Result (List ℕ) Refusal) → IsErrAnd out (λ y. y ≡ d) → W out
  handed_on r m h d e W w (Ok y) o = absurd o
  handed_on r m h d e W w (Err y) o = let f = found r m h d e in subst (λ y. W (Err y)) (sym (o ∙ f.2)) (w f.0 f.1)
