-- The span of a done install is what its sentence says.
use mathlib.Core.Logic.{◌⊎◌, inl, inr, ⊎_elim}
use mathlib.Core.Path.{◌≡◌, refl}
use mathlib.Core.Bool.{Bool, true, false, cond}
use mathlib.Core.List.{List, [], ◌∷◌, ◌++◌}
use Prim.Native.Nat.{ℕ, zero, suc, ◌+◌, ◌≤◌, ◌<◌}
use native.Mathlib.Omega.{arith}
use native.Mathlib.Decide.{dec_lt}
use lib.ListN.{length}
use Rattle.numbers_definitions.proofs.Laws.Tests.{clash}
use Rattle.elf_read.specs.Headers.{section_count}
use Rattle.elf_read.specs.Sections.{section_at}
use Rattle.order_format.specs.declared.OrderHeader.{OrderHeader}
use Rattle.order_lookup.specs.Addresses.{addresses_for, base_for}
use Rattle.plan_pieces.specs.Plans.{Piece, piece, span_of}
use Rattle.plan_pieces.proofs.Laws.Span.{Laid, span_is}
use Rattle.placing_check.specs.Placing.{has_bytes}
use Rattle.placing_span.specs.Pieces.{pieces}
use Rattle.relocations_bytes.specs.Sections.{relocated}
use Rattle.calls_judgement.specs.Judgement.{plan_of}
use Rattle.calls_judgement.specs.Requires.{Fitting}
use Rattle.calls_judgement.proofs.Laws.Laying.{sized}
use Rattle.calls_demands.specs.Laid.{start, Covers, IsSpan}

-- ---- laid by one piece more

laid_snoc : (b : ℕ) (ps : List Piece) (at : ℕ) (v : List ℕ) → Laid b (ps ++ piece at v ∷ []) → Laid b ps ⊎ ((at ≤ b) × (b < at + length v))
laid_snoc b [] at v (inl h) = inr h
laid_snoc b [] at v (inr h) = absurd h
laid_snoc b (piece a w ∷ ps) at v (inl h) = inl (inl h)
laid_snoc b (piece a w ∷ ps) at v (inr h) = ⊎_elim (λ l. inl (inr l)) (λ l. inr l) (laid_snoc b ps at v h)

laid_before : (b : ℕ) (ps : List Piece) (at : ℕ) (v : List ℕ) → Laid b ps → Laid b (ps ++ piece at v ∷ [])
laid_before b [] at v l = absurd l
laid_before b (piece a w ∷ ps) at v (inl h) = inl h
laid_before b (piece a w ∷ ps) at v (inr h) = inr (laid_before b ps at v h)

laid_last : (b : ℕ) (ps : List Piece) (at : ℕ) (v : List ℕ) → at ≤ b → b < at + length v → Laid b (ps ++ piece at v ∷ [])
laid_last b [] at v h l = inl (h, l)
laid_last b (piece a w ∷ ps) at v h l = inr (laid_last b ps at v h l)

-- ---- the plan lays just the bytes of the loaded sections

module _ (object order : List ℕ) (counts : OrderHeader) (len : ℕ) (fit : Fitting object order counts len) where
  abbrev below : ℕ → List Piece
  below n = pieces (relocated object order (addresses_for object order)) object (addresses_for object order) (base_for object order) n

  covered : (n b : ℕ) → n ≤ section_count object → Laid b (below n) → (t : ℕ) × Covers object order t b
  unfolding pieces
  covered zero b h l = absurd l
  covered (suc t) b h l = go (has_bytes (section_at object t)) refl (covered t b (omega arith)) l
    where
      go : (d : Bool) → has_bytes (section_at object t) ≡ d → (Laid b (below t) → (u : ℕ) × Covers object order u b)
          → Laid b (cond d (below t ++ piece (start object order t) (relocated object order (addresses_for object order) t) ∷ []) (below t))
          → (u : ℕ) × Covers object order u b
      go false e before l = before l
      go true e before l =
          let size : length (relocated object order (addresses_for object order) t) ≡ (section_at object t).size = sized object order counts len fit t h e in
          ⊎_elim before (λ r. (t, record { there = h; loaded = e; from = r.0; to = omega (arith, r.1) }))
          (laid_snoc b (below t) (start object order t) (relocated object order (addresses_for object order) t) l)

  covers : (n t b : ℕ) → n ≤ section_count object → t < n → Covers object order t b → Laid b (below n)
  unfolding pieces
  covers zero t b h l c = absurd (omega arith)
  covers (suc m) t b h l c = go (has_bytes (section_at object m)) refl (dec_lt t m) (λ k. covers m t b (omega arith) k c)
    where
      go : (d : Bool) → has_bytes (section_at object m) ≡ d → Dec (t < m) → (t < m → Laid b (below m))
          → Laid b (cond d (below m ++ piece (start object order m) (relocated object order (addresses_for object order) m) ∷ []) (below m))
      go true e (yes k) before = laid_before b (below m) (start object order m) (relocated object order (addresses_for object order) m) (before k)
      go true e (no k) before =
          let same : t ≡ m = omega arith in
          let here : Covers object order m b = rw (← same) c in
          let size : length (relocated object order (addresses_for object order) m) ≡ (section_at object m).size = sized object order counts len fit m h e in
          laid_last b (below m) (start object order m) (relocated object order (addresses_for object order) m) here.from (omega (arith, here.to))
      go false e (yes k) before = before k
      go false e (no k) before =
          let same : t ≡ m = omega arith in
          let here : Covers object order m b = rw (← same) c in
          clash (has_bytes (section_at object m)) e here.loaded

  pub is_span : IsSpan object order (span_of (plan_of object order))
  unfolding plan_of
  is_span =
      let is = span_is (below (section_count object)) in
      record {
        covers_all = λ t b c. is.covers b (covers (section_count object) t b (omega arith) c.there c);
        first_laid = λ some. covered (section_count object) _ (omega arith) (is.first_laid some);
        last_laid = λ some. covered (section_count object) _ (omega arith) (is.last_laid some);
        none_laid = is.none_laid;
      }
