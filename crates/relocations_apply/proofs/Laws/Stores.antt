-- Storing what relocations leave.
use mathlib.Core.Path.{◌≡◌, refl, sym, ap, ◌∙◌}
use mathlib.Core.Bool.{true}
use mathlib.Core.List.{List}
use Prim.Native.Nat.{ℕ, suc, ◌+◌, ◌≤◌, ◌<◌}
use native.Mathlib.Omega.{arith}
use lib.ListN.{get_or}
use lib.Seq.{sets}
use Rattle.numbers_definitions.specs.Bytes.{bytes}
use Rattle.numbers_bytes.specs.Widths.{is_width}
use Rattle.relocations_types.specs.declared.Decision.{Decision}
use Rattle.relocations_types.specs.declared.Decision.TheVariants.{Marker, Align, Store, Refused}
use Rattle.relocations_decisions.specs.Decisions.{is_store, touched}
use Rattle.relocations_decisions.proofs.Laws.Decisions.{store_width}
use Rattle.relocations_rela.specs.declared.sites.Site.{Site}
use Rattle.relocations_rela.specs.Sites.{count, offset, decision_at}
use Rattle.relocations_rela.specs.Shape.{shape_well}
use Rattle.relocations_rela.specs.Requires.{SoundSite}
use Rattle.relocations_rela.proofs.Laws.Shape.{shape_inside}
use Rattle.relocations_bytes.specs.Sections.{after}
use Rattle.relocations_bytes.specs.Words.{word_at}
use Rattle.relocations_bytes.specs.Requires.{Checked}
use Rattle.relocations_bytes.proofs.Laws.Words.{after_store, after_other}
use Rattle.relocations_rules.proofs.Laws.Search.{kept_rules}
use Rattle.relocations_check_all.specs.Sites.{Worded}
use Rattle.relocations_apply.specs.Requires.{Storable}

module _ (object order addresses : List ℕ) (x : Site) where
  -- every relocation leaves its word; a marker leaves no bytes
  after_word : (j : ℕ) → after object order addresses x (suc j) ≡ sets (after object order addresses x j) (offset object x j) (bytes (touched (decision_at object x j)) (word_at object order addresses x j))
  unfolding bytes
  after_word j = go (decision_at object x j) refl
    where
      go : (d : Decision) → decision_at object x j ≡ d
          → after object order addresses x (suc j) ≡ sets (after object order addresses x j) (offset object x j) (bytes (touched (decision_at object x j)) (word_at object order addresses x j))
      go (Store r) e = after_store object order addresses x j (ap is_store e)
      go Marker e = after_other object order addresses x j (ap is_store e) ∙ sym (ap (λ d. sets (after object order addresses x j) (offset object x j) (bytes (touched d) (word_at object order addresses x j))) e)
      go Align e = after_other object order addresses x j (ap is_store e) ∙ sym (ap (λ d. sets (after object order addresses x j) (offset object x j) (bytes (touched d) (word_at object order addresses x j))) e)
      go Refused e = after_other object order addresses x j (ap is_store e) ∙ sym (ap (λ d. sets (after object order addresses x j) (offset object x j) (bytes (touched d) (word_at object order addresses x j))) e)

  -- one more relocation, stored out of the lists
  pub stored_next : (words sizes part part₁ : List ℕ) (base j : ℕ) → Worded object order addresses x (count object x) words sizes base → j < count object x → part ≡ after object order addresses x j
      → part₁ ≡ sets part (offset object x j) (bytes (get_or sizes (base + j) 0) (get_or words (base + j) 0)) → part₁ ≡ after object order addresses x (suc j)
  stored_next words sizes part part₁ base j w h e s =
      s
      ∙ ap (λ l. sets l (offset object x j) (bytes (get_or sizes (base + j) 0) (get_or words (base + j) 0))) e
      ∙ ap (λ n. sets (after object order addresses x j) (offset object x j) (bytes n (get_or words (base + j) 0))) (w.size_at j h)
      ∙ ap (λ u. sets (after object order addresses x j) (offset object x j) (bytes (touched (decision_at object x j)) u)) (w.word_there j h)
      ∙ sym (after_word j)

-- a relocation that keeps check 9 can be stored
storable_shape : (object : List ℕ) (x : Site) (j size n : ℕ) → SoundSite object x → j < count object x → shape_well object x j ≡ true → size ≡ touched (decision_at object x j) → x.target.size ≤ n
    → Storable object x j size n
storable_shape object x j size n sound h kept e room =
    record {
      there = record { site = sound; there = h };
      inside = omega (arith, shape_inside object x j kept);
      width = λ some. rw e (go (decision_at object x j) refl (rw e at some));
    }
  where
    go : (d : Decision) → decision_at object x j ≡ d → 0 < touched (decision_at object x j) → is_width (touched (decision_at object x j)) ≡ true
    go (Store r) q some = ap (λ d. is_width (touched d)) q ∙ store_width _ _ _ r q
    go Marker q some = let none : touched (decision_at object x j) ≡ 0 = ap touched q in absurd (omega arith)
    go Align q some = let none : touched (decision_at object x j) ≡ 0 = ap touched q in absurd (omega arith)
    go Refused q some = let none : touched (decision_at object x j) ≡ 0 = ap touched q in absurd (omega arith)

pub storable : (object order addresses : List ℕ) (x : Site) (words sizes : List ℕ) (base n : ℕ) → Checked object order addresses x → Worded object order addresses x (count object x) words sizes base → x.target.size ≤ n
    → (j : ℕ) → j < count object x → Storable object x j (get_or sizes (base + j) 0) n
storable object order addresses x words sizes base n checked worded room j h =
    storable_shape object x j _ n checked.site h (kept_rules object order addresses x j (checked.kept j h)).shape (worded.size_at j h) room
