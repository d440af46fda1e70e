-- There is at most one first broken rule, and there is none if every rule holds.
use mathlib.Core.Logic.{◌⊎◌, inl, inr}
use mathlib.Core.Path.{◌≡◌, refl, sym, ap, ◌∙◌, subst}
use Prim.Native.Nat.{ℕ, ◌≤◌, ◌<◌}
use native.Mathlib.Omega.{arith}
use native.Mathlib.Decide.{dec_lt}
use Rattle.plan_pieces.specs.Answers.{Answer, says, says_why, done}
use Rattle.calls_demands.specs.First.{Line, nil, rule, Checks, none, check, HoldAt, HoldBelow, AllHold, BrokenAt, FirstBroken}

-- ---- at one place

not_broken_at : (l : Line) (a : Answer) → HoldAt l a.place → BrokenAt l a → ⊥
not_broken_at nil a h b = b
not_broken_at (rule n r R l) a h (inl b) = b.1 h.0
not_broken_at (rule n r R l) a h (inr b) = not_broken_at l a h.1 b.1

one_broken_at : (l : Line) (a b : Answer) → a.place ≡ b.place → BrokenAt l a → BrokenAt l b → a ≡ b
one_broken_at nil a b e p q = absurd p
one_broken_at (rule n r R l) a b e (inl p) (inl q) = p.0 ∙ ap (λ k. says_why n k r) e ∙ sym q.0
one_broken_at (rule n r R l) a b e (inl p) (inr q) = absurd (p.1 (subst R (sym e) q.0))
one_broken_at (rule n r R l) a b e (inr p) (inl q) = absurd (q.1 (subst R e p.0))
one_broken_at (rule n r R l) a b e (inr p) (inr q) = one_broken_at l a b e p.1 q.1

-- ---- over all checks

pub none_broken : (c : Checks) (a : Answer) → AllHold c → FirstBroken c a → ⊥
none_broken none a h b = b
none_broken (check m l c) a h (inl b) = not_broken_at l a (h.0 a.place b.0) b.2
none_broken (check m l c) a h (inr b) = none_broken c a h.1 b.1

same_place : (l : Line) (a b : Answer) → HoldBelow l a.place → BrokenAt l a → HoldBelow l b.place → BrokenAt l b → a.place ≡ b.place
same_place l a b below p below' q = go (dec_lt a.place b.place) (dec_lt b.place a.place)
  where
    go : Dec (a.place < b.place) → Dec (b.place < a.place) → a.place ≡ b.place
    go (yes h) d = absurd (not_broken_at l a (below' a.place h) p)
    go (no h) (yes g) = absurd (not_broken_at l b (below b.place g) q)
    go (no h) (no g) = omega arith

pub one_first : (c : Checks) (a b : Answer) → FirstBroken c a → FirstBroken c b → a ≡ b
one_first none a b p q = absurd p
one_first (check m l c) a b (inl p) (inl q) = one_broken_at l a b (same_place l a b p.1 p.2 q.1 q.2) p.2 q.2
one_first (check m l c) a b (inl p) (inr q) = absurd (not_broken_at l a (q.0 a.place p.0) p.2)
one_first (check m l c) a b (inr p) (inl q) = absurd (not_broken_at l b (p.0 b.place q.0) q.2)
one_first (check m l c) a b (inr p) (inr q) = one_first c a b p.1 q.1

-- ---- what holds of the number and the reason of every rule holds of those that are named

abbrev NumbersAt : (ℕ → ℕ → Type 0) → Line → Type 0
NumbersAt N nil = Unit {0}
NumbersAt N (rule n r R l) = N n r × NumbersAt N l

abbrev pub Numbers : (ℕ → ℕ → Type 0) → Checks → Type 0
Numbers N none = Unit {0}
Numbers N (check m l c) = NumbersAt N l × Numbers N c

named_at : (N : ℕ → ℕ → Type 0) (l : Line) (a : Answer) → NumbersAt N l → BrokenAt l a → N a.number a.reason
named_at N nil a h b = absurd b
named_at N (rule n r R l) a h (inl b) = subst (λ (x : Answer). N x.number x.reason) (sym b.0) h.0
named_at N (rule n r R l) a h (inr b) = named_at N l a h.1 b.1

pub named_number : (N : ℕ → ℕ → Type 0) (c : Checks) (a : Answer) → Numbers N c → FirstBroken c a → N a.number a.reason
named_number N none a h b = absurd b
named_number N (check m l c) a h (inl b) = named_at N l a h.0 b.2
named_number N (check m l c) a h (inr b) = named_number N c a h.1 b.1

-- ---- and its place is below a bound of the places of every check; a check's bound may count on those before it

abbrev pub PlacesBelow : ℕ → Checks → Type 0
PlacesBelow top none = Unit {0}
PlacesBelow top (check m l c) = (m ≤ top) × (HoldBelow l m → PlacesBelow top c)

pub named_place : (top : ℕ) (c : Checks) (a : Answer) → PlacesBelow top c → FirstBroken c a → a.place < top
named_place top none a h b = absurd b
named_place top (check m l c) a h (inl b) = omega (arith, h.0, b.0)
named_place top (check m l c) a h (inr b) = named_place top c a (h.1 b.0) b.1

-- ---- what an answer says of checks

-- it is done and every rule holds, or it names the first broken rule
abbrev pub Told : Checks → Answer → Type 0
Told c a = ((a ≡ done) × AllHold c) ⊎ FirstBroken c a

-- the check holds, and the checks after it give the answer
pub later : (m : ℕ) (l : Line) (c : Checks) (a : Answer) → HoldBelow l m → Told c a → Told (check m l c) a
later m l c a h (inl t) = inl (t.0, (h, t.1))
later m l c a h (inr b) = inr (inr (h, b))

-- one rule that holds, at place 0 or at each place
pub at_once : {R : Type 0} → (n : ℕ) → R → HoldBelow (rule n 0 (λ _. R) nil) 1
at_once n r p h = (r, tt)

pub at_each : {R : ℕ → Type 0} → (m n : ℕ) → ((p : ℕ) → p < m → R p) → HoldBelow (rule n 0 R nil) m
at_each m n h p l = (h p l, tt)

pub broken_once : {R : Type 0} → (n : ℕ) (c : Checks) → (R → ⊥) → Told (check 1 (rule n 0 (λ _. R) nil) c) (says n 0)
broken_once n c wrong = inr (inl (omega arith, (λ p h. absurd (omega arith)), inl (refl, wrong)))

pub broken_at : {R : ℕ → Type 0} → (m n p : ℕ) (c : Checks) → p < m → ((q : ℕ) → q < p → R q) → (R p → ⊥) → Told (check m (rule n 0 R nil) c) (says n p)
broken_at m n p c h below wrong = inr (inl (h, (λ q l. (below q l, tt)), inl (refl, wrong)))
