-- The span of a plan. What is laid lies in it, so writing its old bytes back undoes the laying.
use mathlib.Core.Path.{◌≡◌, refl, sym, ap, subst, ◌∙◌}
use Prim.Native.Nat.{ℕ, zero, suc, ◌+◌, ◌-◌, ◌≤◌, ◌<◌, min, max}
use native.Mathlib.Omega.{arith}
use mathlib.Core.List.{List, [], ◌∷◌}
use mathlib.Core.Bool.{Bool, true, false}
use mathlib.Core.Logic.{◌⊎◌, inl, inr, ⊎_elim}
use lib.Dec.{leb}
use borrow.Author.Tests.{leb-true, leb-false}
use lib.ListN.{length, take, drop, take-append-drop}
use lib.Seq.{sets, sets-eq, length-sets, take-add}
use Rattle.numbers_definitions.specs.Bytes.{part}
use Rattle.numbers_definitions.proofs.Laws.Lists.{take_sets, drop_sets, length_part}
use Rattle.plan_pieces.specs.declared.Span.{Span}
use Rattle.plan_pieces.specs.Plans.{Piece, piece, Inside, overwritten, end, lowest, span_of}

-- laying keeps the image's length
pub length_overwritten : (image : List ℕ) (ps : List Piece) → length (overwritten image ps) ≡ length image
unfolding overwritten
length_overwritten image [] = refl
length_overwritten image (piece at b ∷ ps) = length_overwritten (sets image at b) ps ∙ length-sets image at b

-- laying changes nothing below the lowest laid byte, and nothing from the end of the highest on
pub take_overwritten : (n top : ℕ) (image : List ℕ) (ps : List Piece) → n ≤ lowest top ps → take n (overwritten image ps) ≡ take n image
unfolding overwritten lowest
take_overwritten n top image [] h = refl
take_overwritten n top image (piece at [] ∷ ps) h = take_overwritten n top image ps h
take_overwritten n top image (piece at (b ∷ bs) ∷ ps) h =
    take_overwritten n top (sets image at (b ∷ bs)) ps (omega arith) ∙ take_sets n image at (b ∷ bs) (omega arith)

pub drop_overwritten : (n : ℕ) (image : List ℕ) (ps : List Piece) → end ps ≤ n → drop n (overwritten image ps) ≡ drop n image
unfolding overwritten end
drop_overwritten n image [] h = refl
drop_overwritten n image (piece at [] ∷ ps) h = drop_overwritten n image ps h
drop_overwritten n image (piece at (b ∷ bs) ∷ ps) h =
    drop_overwritten n (sets image at (b ∷ bs)) ps (omega arith) ∙ drop_sets n image at (b ∷ bs) (omega arith)

pub lowest_le : (top : ℕ) (ps : List Piece) → lowest top ps ≤ top
unfolding lowest
lowest_le top [] = omega arith
lowest_le top (piece at [] ∷ ps) = lowest_le top ps
lowest_le top (piece at (b ∷ bs) ∷ ps) = omega (arith, lowest_le top ps)

pub end_le : (len : ℕ) (ps : List Piece) → Inside len ps → end ps ≤ len
unfolding end
end_le len [] h = omega arith
end_le len (piece at [] ∷ ps) h = end_le len ps h.1
end_le len (piece at (b ∷ bs) ∷ ps) h = omega (arith, end_le len ps h.1)

-- if nothing is laid, the lowest is `top`; if something is laid, `top` does not matter
pub lowest_none : (top : ℕ) (ps : List Piece) → end ps ≡ 0 → lowest top ps ≡ top
unfolding lowest end
lowest_none top [] h = refl
lowest_none top (piece at [] ∷ ps) h = lowest_none top ps h
lowest_none top (piece at (b ∷ bs) ∷ ps) h = absurd (omega arith)

pub lowest_top : (s t : ℕ) (ps : List Piece) → end ps ≤ s → end ps ≤ t → 0 < end ps → lowest s ps ≡ lowest t ps
unfolding lowest end
lowest_top s t [] hs ht h = absurd (omega arith)
lowest_top s t (piece at [] ∷ ps) hs ht h = lowest_top s t ps hs ht h
lowest_top s t (piece at (b ∷ bs) ∷ ps) hs ht h = go (end ps) refl (lowest_top s t ps (omega arith) (omega arith))
  where
    go : (n : ℕ) → end ps ≡ n → (0 < end ps → lowest s ps ≡ lowest t ps) → min at (lowest s ps) ≡ min at (lowest t ps)
    go zero e ih = rw (lowest_none s ps e, lowest_none t ps e) (omega arith)
    go (suc n) e ih = ap (min at) (ih (omega arith))

-- a plan's span lies inside the image
pub span_inside : (len : ℕ) (ps : List Piece) → Inside len ps → (span_of ps).start + (span_of ps).size ≤ len
unfolding span_of
span_inside len ps h = omega (arith, lowest_le (end ps) ps, end_le len ps h)

-- the old bytes of a run, put back over a list that differs from the old one only there, give the old list
restored : (l l' : List ℕ) (i n : ℕ) → i + n ≤ length l → length l' ≡ length l → take i l' ≡ take i l → drop (i + n) l' ≡ drop (i + n) l
    → sets l' i (part l i n) ≡ l
unfolding part
restored l l' i n h e t d =
    let len : length (part l i n) ≡ n = length_part l i n h in
    let fits : i + length (part l i n) ≤ length l' = omega arith in
    sets-eq (part l i n) l' i fits ∙ rw (len, t, d, ← (take-add i n l)) (take-append-drop (i + n) l)

-- the span's old bytes written back over the laid pieces give the image as it was
pub undone : (image : List ℕ) (ps : List Piece) → Inside (length image) ps
    → sets (overwritten image ps) (span_of ps).start (part image (span_of ps).start (span_of ps).size) ≡ image
unfolding span_of
undone image ps h =
    restored image (overwritten image ps) (span_of ps).start (span_of ps).size (span_inside (length image) ps h) (length_overwritten image ps)
    (take_overwritten (span_of ps).start (end ps) image ps (omega arith))
    (drop_overwritten ((span_of ps).start + (span_of ps).size) image ps (omega arith))

-- ---- the span is what its sentence says

-- a byte is laid at a place
abbrev pub Laid : ℕ → List Piece → Type 0
Laid i [] = ⊥
Laid i (piece at b ∷ ps) = ((at ≤ i) × (i < at + length b)) ⊎ Laid i ps

lowest_covers : (i top : ℕ) (ps : List Piece) → Laid i ps → lowest top ps ≤ i
unfolding lowest
lowest_covers i top [] l = absurd l
lowest_covers i top (piece at [] ∷ ps) l = ⊎_elim (λ h. absurd (omega arith)) (lowest_covers i top ps) l
lowest_covers i top (piece at (b ∷ bs) ∷ ps) l = ⊎_elim (λ h. omega arith) (λ r. omega (arith, lowest_covers i top ps r)) l

end_covers : (i : ℕ) (ps : List Piece) → Laid i ps → i < end ps
unfolding end
end_covers i [] l = absurd l
end_covers i (piece at [] ∷ ps) l = ⊎_elim (λ h. absurd (omega arith)) (end_covers i ps) l
end_covers i (piece at (b ∷ bs) ∷ ps) l = ⊎_elim (λ h. omega arith) (λ r. omega (arith, end_covers i ps r)) l

lowest_laid : (top : ℕ) (ps : List Piece) → 0 < end ps → end ps ≤ top → Laid (lowest top ps) ps
unfolding lowest end
lowest_laid top [] some h = absurd (omega arith)
lowest_laid top (piece at [] ∷ ps) some h = inr (lowest_laid top ps some h)
lowest_laid top (piece at (b ∷ bs) ∷ ps) some h = go (leb at (lowest top ps)) refl (end ps) refl (lowest_laid top ps)
  where
    go : (t : Bool) → leb at (lowest top ps) ≡ t → (e : ℕ) → end ps ≡ e → (0 < end ps → end ps ≤ top → Laid (lowest top ps) ps)
        → Laid (min at (lowest top ps)) (piece at (b ∷ bs) ∷ ps)
    go true le e is rest = let le' : at ≤ lowest top ps = leb-true at (lowest top ps) le in inl (omega arith, omega arith)
    go false gt zero is rest =
        let gt' : lowest top ps < at = leb-false at (lowest top ps) gt in
        absurd (omega (arith, lowest_none top ps is))
    go false gt (suc e) is rest =
        let gt' : lowest top ps < at = leb-false at (lowest top ps) gt in
        let here : min at (lowest top ps) ≡ lowest top ps = omega arith in
        inr (subst (λ k. Laid k ps) (sym here) (rest (omega arith) (omega arith)))

end_laid : (ps : List Piece) → 0 < end ps → Laid (end ps - 1) ps
unfolding end
end_laid [] some = absurd (omega arith)
end_laid (piece at [] ∷ ps) some = inr (end_laid ps some)
end_laid (piece at (b ∷ bs) ∷ ps) some = go (leb (end ps) (at + length (b ∷ bs))) refl (end_laid ps)
  where
    go : (t : Bool) → leb (end ps) (at + length (b ∷ bs)) ≡ t → (0 < end ps → Laid (end ps - 1) ps)
        → Laid (max (at + length (b ∷ bs)) (end ps) - 1) (piece at (b ∷ bs) ∷ ps)
    go true le rest = let le' : end ps ≤ at + length (b ∷ bs) = leb-true _ _ le in inl (omega arith, omega arith)
    go false gt rest =
        let gt' : at + length (b ∷ bs) < end ps = leb-false _ _ gt in
        let here : max (at + length (b ∷ bs)) (end ps) - 1 ≡ end ps - 1 = omega arith in
        inr (subst (λ k. Laid k ps) (sym here) (rest (omega arith)))

-- "from the lowest to the end of the highest laid byte; with none laid it is start 0, length 0"
pub record Spans (ps : List Piece) (s : Span) : Type 0 where
  pub covers : (i : ℕ) → Laid i ps → (s.start ≤ i) × (i < s.start + s.size)
  pub first_laid : 0 < s.size → Laid s.start ps
  pub last_laid : 0 < s.size → Laid (s.start + s.size - 1) ps
  pub none_laid : s.size ≡ 0 → s.start ≡ 0

pub span_is : (ps : List Piece) → Spans ps (span_of ps)
unfolding span_of
span_is ps =
    let low : lowest (end ps) ps ≤ end ps = lowest_le (end ps) ps in
    record {
      covers = λ i l. (lowest_covers i (end ps) ps l, omega (arith, end_covers i ps l));
      first_laid = λ some. lowest_laid (end ps) ps (omega arith) (omega arith);
      last_laid = λ some.
          let last : lowest (end ps) ps + (end ps - lowest (end ps) ps) - 1 ≡ end ps - 1 = omega arith in
          rw last (end_laid ps (omega arith));
      none_laid = λ none. go (end ps) refl none;
    }
  where
    go : (e : ℕ) → end ps ≡ e → end ps - lowest (end ps) ps ≡ 0 → lowest (end ps) ps ≡ 0
    go zero is none = omega (arith, lowest_le (end ps) ps)
    go (suc e) is none =
        let inside : lowest (end ps) ps < end ps = end_covers _ ps (lowest_laid (end ps) ps (omega arith) (omega arith)) in
        absurd (omega arith)
