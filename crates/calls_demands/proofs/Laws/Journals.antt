-- A journal of bytes is determined by n, its entries, k and what follows. A span is determined by the bytes that are laid.
use mathlib.Core.Path.{◌≡◌, ap}
use mathlib.Core.List.{List}
use Prim.Native.Nat.{ℕ, ◌+◌, ◌-◌, ◌/◌, ◌%◌, ◌≤◌, ◌<◌}
use native.Mathlib.Omega.{arith}
use native.Mathlib.Decide.{dec_lt}
use lib.ListN.{length, get_or}
use lib.Seq.{ext_get_or}
use Rattle.numbers_definitions.specs.Bytes.{le_at}
use Rattle.numbers_definitions.proofs.Laws.Bytes.{Bytes}
use Rattle.plan_pieces.specs.declared.Span.{Span}
use Rattle.journal_format.specs.Journals.{max_entries, count_at, entry_at, held_at, old_at, count, held, entry}
use Rattle.calls_demands.specs.Laid.{IsSpan}
use Rattle.calls_demands.proofs.Laws.Lists.{same_number}

-- ---- journals

module _ (j l : List ℕ) (bj : Bytes j) (bl : Bytes l) (same_length : length j ≡ length l) (long : old_at ≤ length j)
    (count_same : count j ≡ count l) (held_same : held j ≡ held l) (entries_same : (i : ℕ) → i < max_entries → entry j i ≡ entry l i)
    (rest_same : (b : ℕ) → old_at ≤ b → get_or j b 0 ≡ get_or l b 0) where
  entry_byte : (b : ℕ) → 4 ≤ b → b < held_at → get_or j b 0 ≡ get_or l b 0
  unfolding entry
  entry_byte b h k =
      let i : ℕ = (b - 4) / 8 in
      let e : entry j ((b - 4) / 8) ≡ entry l ((b - 4) / 8) = entries_same ((b - 4) / 8) (omega arith) in
      go (dec_lt ((b - 4) % 8) 4) (ap (λ s. s.start) e) (ap (λ s. s.size) e)
    where
      go : Dec ((b - 4) % 8 < 4) → le_at 4 j (entry_at ((b - 4) / 8)) ≡ le_at 4 l (entry_at ((b - 4) / 8))
          → le_at 4 j (entry_at ((b - 4) / 8) + 4) ≡ le_at 4 l (entry_at ((b - 4) / 8) + 4) → get_or j b 0 ≡ get_or l b 0
      go (yes r) start size = same_number j l (entry_at ((b - 4) / 8)) 4 b bj bl (omega arith) (omega arith) start (omega arith) (omega arith)
      go (no r) start size = same_number j l (entry_at ((b - 4) / 8) + 4) 4 b bj bl (omega arith) (omega arith) size (omega arith) (omega arith)

  byte_same : (b : ℕ) → get_or j b 0 ≡ get_or l b 0
  byte_same b = go (dec_lt b 4) (dec_lt b held_at) (dec_lt b old_at)
    where
      go : Dec (b < 4) → Dec (b < held_at) → Dec (b < old_at) → get_or j b 0 ≡ get_or l b 0
      go (yes h) d e = same_number j l count_at 4 b bj bl (omega arith) (omega arith) count_same (omega arith) (omega arith)
      go (no g) (yes h) e = entry_byte b (omega arith) h
      go (no g) (no h) (yes k) = same_number j l held_at 4 b bj bl (omega arith) (omega arith) held_same (omega arith) (omega arith)
      go (no g) (no h) (no k) = rest_same b (omega arith)

  pub same_journal : j ≡ l
  same_journal = ext_get_or 0 j l same_length (λ b h. byte_same b)

-- ---- spans

pub one_span : (object order : List ℕ) (s t : Span) → IsSpan object order s → IsSpan object order t → s ≡ t
one_span object order s t p q = go (dec_lt 0 s.size) (dec_lt 0 t.size)
  where
    empty : (u v : Span) → IsSpan object order u → IsSpan object order v → u.size ≡ 0 → 0 < v.size → ⊥
    empty u v a b none some = let c = a.covers_all (b.first_laid some).0 v.start (b.first_laid some).1 in omega arith

    from : (u v : Span) → IsSpan object order u → IsSpan object order v → 0 < v.size → (u.start ≤ v.start) × (v.start + v.size ≤ u.start + u.size)
    from u v a b some =
        let c = a.covers_all (b.first_laid some).0 v.start (b.first_laid some).1 in
        let d = a.covers_all (b.last_laid some).0 (v.start + v.size - 1) (b.last_laid some).1 in
        (omega arith, omega arith)

    same : s.start ≡ t.start → s.size ≡ t.size → s ≡ t
    same e d = λ i. record { start = e i; size = d i }

    go : Dec (0 < s.size) → Dec (0 < t.size) → s ≡ t
    go (yes a) (yes b) =
        let c = from s t p q b in
        let d = from t s q p a in
        same (omega arith) (omega arith)
    go (yes a) (no b) = absurd (empty t s q p (omega arith) a)
    go (no a) (yes b) = absurd (empty s t p q (omega arith) b)
    go (no a) (no b) =
        let c : s.size ≡ 0 = omega arith in
        let d : t.size ≡ 0 = omega arith in
        same (omega (arith, p.none_laid c, q.none_laid d)) (omega arith)
