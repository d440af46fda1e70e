-- Laws of laying: the plan of a fitting install lies inside the image, and is laid section by section.
use mathlib.Core.Path.{◌≡◌, refl, sym, ap, ◌∙◌, subst}
use mathlib.Core.Bool.{Bool, true, false, cond}
use mathlib.Core.List.{List, [], ◌∷◌, ◌++◌, append_assoc}
use Prim.Native.Nat.{ℕ, zero, suc, ◌+◌, ◌-◌, ◌≤◌, ◌<◌}
use native.Mathlib.Omega.{arith}
use native.Mathlib.Decide.{dec_lt}
use lib.ListN.{length, get_or, take, drop}
use lib.Dec.{ltb}
use lib.Seq.{sets, sets-eq}
use borrow.Rule.Slice.PartMut.{put_mid, Post-is}
use borrow.Author.Tests.{leb-true}
use Rattle.numbers_definitions.proofs.Laws.Tests.{and_left}
use Rattle.numbers_definitions.proofs.Laws.Lists.{length_part}
use Rattle.order_format.specs.declared.OrderHeader.{OrderHeader}
use Rattle.order_format.specs.Windows.{max_image, length_allowed, window_allowed}
use Rattle.order_lookup.specs.Addresses.{addresses_for, base_for}
use Rattle.elf_read.specs.Headers.{section_count}
use Rattle.elf_read.specs.Sections.{section_at, loaded}
use Rattle.elf_read.specs.Entries.{bytes_of}
use Rattle.elf_check.specs.Requires.{SoundObject}
use Rattle.elf_check.proofs.Laws.Bounds.{loaded_inside}
use Rattle.elf_check.proofs.Laws.Objects.{sound_object}
use Rattle.plan_pieces.specs.Plans.{Piece, piece, Inside, LaysInside, overwritten, span_of as spanOfPieces}
use Rattle.placing_check.specs.Placing.{has_bytes}
use Rattle.placing_check.proofs.Laws.Theorems.{inside_image}
use Rattle.placing_span.specs.Spans.{highest, span_of}
use Rattle.placing_span.specs.Pieces.{pieces}
use Rattle.placing_span.specs.Sized.{Sized}
use Rattle.placing_span.proofs.Laws.Bounds.{highest_inside}
use Rattle.placing_span.proofs.Laws.Laid.{span_of_pieces, from_base}
use Rattle.relocations_rela.specs.Sites.{site_at, count}
use Rattle.relocations_rela.specs.Requires.{Placed}
use Rattle.relocations_rules.proofs.Laws.Sites.{placed}
use Rattle.relocations_bytes.specs.Sections.{rela_of, relocated}
use Rattle.relocations_bytes.proofs.Laws.Sections.{relocated_some, relocated_none, found_target}
use Rattle.relocations_bytes.proofs.Laws.After.{length_after}
use Rattle.calls_judgement.specs.Judgement.{plan_of, judgement}
use Rattle.calls_judgement.specs.Requires.{Fitting, with_section}
use Rattle.calls_judgement.proofs.Laws.Judgement.{plan_fits}

-- ---- what the checks that passed give

module _ (object order : List ℕ) (counts : OrderHeader) (len : ℕ) (f : Fitting object order counts len) where
  pub is_sound : SoundObject object
  is_sound = let r = f.placeable.named.readable in sound_object object r.header r.sections

  pub is_placed : Placed object (addresses_for object order)
  is_placed = placed object (addresses_for object order) (base_for object order) len f.placeable.placing

  pub length_fits : length_allowed len ≡ true
  unfolding window_allowed
  length_fits = and_left (length_allowed len) _ f.placeable.named.readable.window

  pub length_short : len ≤ max_image
  unfolding length_allowed
  length_short = leb-true len max_image length_fits

  pub bytes_inside : (t : ℕ) → t < section_count object → has_bytes (section_at object t) ≡ true
      → (base_for object order ≤ get_or (addresses_for object order) t 0) × (get_or (addresses_for object order) t 0 - base_for object order + (section_at object t).size ≤ len)
  bytes_inside t h e = inside_image object (addresses_for object order) (base_for object order) len f.placeable.placing t h e

  pub bytes_loaded : (t : ℕ) → has_bytes (section_at object t) ≡ true → loaded (section_at object t) ≡ true
  unfolding has_bytes
  bytes_loaded t e = and_left (loaded (section_at object t)) (ltb 0 (section_at object t).size) e

  -- a section is as long after its relocations as before
  own_length : (t : ℕ) → t < section_count object → loaded (section_at object t) ≡ true → length (bytes_of object (section_at object t)) ≡ (section_at object t).size
  unfolding bytes_of
  own_length t h l = length_part object (section_at object t).offset.0 (section_at object t).size (loaded_inside object is_sound t h l).inside

  pub relocated_length : (t : ℕ) → t < section_count object → loaded (section_at object t) ≡ true
      → length (relocated object order (addresses_for object order) t) ≡ (section_at object t).size
  relocated_length t h l = go (dec_lt (rela_of object t) (section_count object))
    where
      go : Dec (rela_of object t < section_count object) → length (relocated object order (addresses_for object order) t) ≡ (section_at object t).size
      go (yes r) =
          let x = site_at object (addresses_for object order) (rela_of object t) in
          ap length (relocated_some object order (addresses_for object order) t r)
          ∙ length_after object order (addresses_for object order) x (count object x)
          ∙ ap length (found_target object (addresses_for object order) t r)
          ∙ own_length t h l
      go (no r) = ap length (relocated_none object order (addresses_for object order) t (omega arith)) ∙ own_length t h l

  pub sized : Sized (relocated object order (addresses_for object order)) object (section_count object)
  sized t h e = relocated_length t h (bytes_loaded t e)

  -- ---- the pieces lie inside the image

  inside_snoc : (ps : List Piece) (at : ℕ) (b : List ℕ) → Inside len ps → at + length b ≤ len → Inside len (ps ++ piece at b ∷ [])
  inside_snoc [] at b i h = (h, tt)
  inside_snoc (piece a c ∷ ps) at b i h = (i.0, inside_snoc ps at b i.1 h)

  pieces_inside : (n : ℕ) → n ≤ section_count object → Inside len (pieces (relocated object order (addresses_for object order)) object (addresses_for object order) (base_for object order) n)
  unfolding pieces
  pieces_inside zero h = tt
  pieces_inside (suc t) h = go (has_bytes (section_at object t)) refl (pieces_inside t (omega arith))
    where
      before : List Piece
      before = pieces (relocated object order (addresses_for object order)) object (addresses_for object order) (base_for object order) t

      go : (b : Bool) → has_bytes (section_at object t) ≡ b → Inside len before
          → Inside len (cond b (before ++ piece (get_or (addresses_for object order) t 0 - base_for object order) (relocated object order (addresses_for object order) t) ∷ []) before)
      go true e i = inside_snoc before _ _ i (omega (arith, (bytes_inside t h e).1, sized t h e))
      go false e i = i

  pub plan_inside : Inside len (plan_of object order)
  unfolding plan_of
  plan_inside = pieces_inside (section_count object) (omega arith)

  -- the span that is saved is the plan's
  pub span_is : span_of object (addresses_for object order) (base_for object order) ≡ spanOfPieces (plan_of object order)
  unfolding plan_of
  span_is = span_of_pieces (relocated object order (addresses_for object order)) object (addresses_for object order) (base_for object order) sized (from_base object (addresses_for object order) (base_for object order) len f.placeable.placing)

  pub ends_low : highest object (addresses_for object order) (base_for object order) (section_count object) < 4294967296
  ends_low = omega (arith, highest_inside object (addresses_for object order) (base_for object order) len f.placeable.placing, length_short)

-- the only thing that the history needs from a judgement
pub lays_inside : LaysInside judgement
lays_inside object order len ps e =
    let f = plan_fits object order len ps e in
    subst (Inside len) f.plan_is (plan_inside object order f.counts len f.fitting)

-- ---- a section that has bytes in the image, or none

pub with_none : (object order image : List ℕ) (t : ℕ) → has_bytes (section_at object t) ≡ false → with_section object order t image ≡ image
unfolding with_section
with_none object order image t e = rw e

pub with_some : (object order image : List ℕ) (t : ℕ) → has_bytes (section_at object t) ≡ true
    → with_section object order t image ≡ sets image (get_or (addresses_for object order) t 0 - base_for object order) (relocated object order (addresses_for object order) t)
unfolding with_section
with_some object order image t e = rw e

-- ---- a part of the image that was lent, and is back

pub put_part : (a e : ℕ) (xs ys : List ℕ) → a ≤ e → e ≤ length xs → a + length ys ≡ e → put_mid a (e - a) xs ys ≡ sets xs a ys
put_part a e xs ys h g l =
    ap (λ z. take a xs ++ (ys ++ z)) (Post-is a e xs h)
    ∙ ap (λ n. take a xs ++ (ys ++ drop n xs)) (sym l)
    ∙ sym (append_assoc (take a xs) ys (drop (a + length ys) xs))
    ∙ sym (sets-eq ys xs a (omega arith))

-- ---- section by section

overwritten_snoc : (s : List ℕ) (ps : List Piece) (at : ℕ) (b : List ℕ) → overwritten s (ps ++ piece at b ∷ []) ≡ sets (overwritten s ps) at b
unfolding overwritten
overwritten_snoc s [] at b = refl
overwritten_snoc s (piece a c ∷ ps) at b = overwritten_snoc (sets s a c) ps at b

-- an image with the sections below n laid into it
unfoldable pub laid_below : List ℕ → List ℕ → List ℕ → ℕ → List ℕ
laid_below object order image n = overwritten image (pieces (relocated object order (addresses_for object order)) object (addresses_for object order) (base_for object order) n)

pub laid_none : (object order image : List ℕ) → laid_below object order image 0 ≡ image
unfolding laid_below pieces overwritten
laid_none object order image = refl

pub laid_more : (object order image : List ℕ) (t : ℕ) → laid_below object order image (suc t) ≡ with_section object order t (laid_below object order image t)
unfolding laid_below pieces with_section
laid_more object order image t = go (has_bytes (section_at object t))
  where
    before : List Piece
    before = pieces (relocated object order (addresses_for object order)) object (addresses_for object order) (base_for object order) t

    at : ℕ
    at = get_or (addresses_for object order) t 0 - base_for object order

    bytes : List ℕ
    bytes = relocated object order (addresses_for object order) t

    go : (b : Bool) → overwritten image (cond b (before ++ piece at bytes ∷ []) before) ≡ cond b (sets (overwritten image before) at bytes) (overwritten image before)
    go true = overwritten_snoc image before at bytes
    go false = refl

pub laid_all : (object order image : List ℕ) → laid_below object order image (section_count object) ≡ overwritten image (plan_of object order)
unfolding laid_below plan_of
laid_all object order image = refl
