-- Laws of the search over the relocations of a site.
use Rattle.placing_symbols.specs.Reasons.{State, SymbolValue}
use Rattle.std.specs.Prelude.{None, Option}
use Rattle.std.specs.Option.{is_some}
use Rattle.numbers_definitions.proofs.Laws.Tests.{never}
use mathlib.Core.Path.{◌≡◌, refl, sym, ap, ◌∙◌, subst}
use mathlib.Core.Bool.{true, cond}
use mathlib.Core.List.{List}
use Prim.Native.Nat.{ℕ, suc, ◌+◌, ◌^◌, ◌≤◌, ◌<◌}
use native.Mathlib.Omega.{arith}
use native.Mathlib.Decide.{dec_lt}
use lib.ListN.{length, get_or, set, length-set}
use lib.Seq.{get_or-set_same, get_or-set_other}
use Rattle.numbers_definitions.specs.Bytes.{le_at}
use Rattle.elf_read.specs.declared.Relocation.{Relocation}
use Rattle.elf_check.specs.Requires.{SoundObject}
use Rattle.placing_symbols.specs.Values.{symbol_value}
use Rattle.placing_symbols.specs.Arrays.{listed, Valued}
use Rattle.placing_symbols.proofs.Laws.Arrays.{listed_is}
use Rattle.relocations_types.specs.declared.Decision.{Decision}
use Rattle.relocations_types.specs.declared.Decision.TheVariants.{Marker, Align, Store, Refused}
use Rattle.relocations_decisions.specs.Decisions.{is_store, touched}
use Rattle.relocations_rela.specs.declared.sites.Site.{Site}
use Rattle.relocations_rela.specs.Sites.{count, entry, decision_at, offset, found}
use Rattle.relocations_rela.specs.declared.shape.Trail.{Trail}
use Rattle.relocations_rela.specs.Shape.{shape_well}
use Rattle.relocations_rela.specs.Trails.{no_trail, advanced, trail_at, shares_by}
use Rattle.relocations_rela.specs.Requires.{SoundSite}
use Rattle.relocations_rules.specs.Search.{finding}
use Rattle.relocations_rela.specs.Sites.{P}
use Rattle.relocations_rules.proofs.Laws.Search.{kept_rules}
use Rattle.relocations_bytes.specs.Sections.{after}
use Rattle.relocations_bytes.specs.Words.{word_from, word_at, last_word}
use Rattle.relocations_bytes.proofs.Laws.Words.{present}
use Rattle.relocations_check_one.specs.Requires.{Listing}
use Rattle.relocations_check_one.specs.Outcomes.{finding_by, word_by}
use Rattle.relocations_check_one.proofs.Laws.Outcomes.{finding_by_lem, word_by_lem}
use Rattle.relocations_check_all.specs.Sites.{Worded, KeptBelow, SameBelow}

module _ (object order addresses : List ℕ) (x : Site) where
  -- a relocation that breaks no rule keeps check 9
  pub kept_shape : (j : ℕ) → finding object order addresses x j ≡ None → shape_well object x j ≡ true
  kept_shape j e = (kept_rules object order addresses x j e).shape

  -- ---- the word of relocation j, where none up to it breaks a rule

  pub word_found : (j : ℕ) → SoundSite object x → ((i : ℕ) → i < suc j → shape_well object x i ≡ true)
      → word_from object order addresses x j
      (cond (shares_by (trail_at object x j) (decision_at object x j) (offset object x j)) (last_word object order addresses x j) (le_at (touched (decision_at object x j)) (found object x) (offset object x j)))
      ≡ word_at object order addresses x j
  unfolding word_at
  word_found j sound kept = go (decision_at object x j) refl
    where
      at : ℕ
      at = offset object x j

      go : (d : Decision) → decision_at object x j ≡ d
          → word_from object order addresses x j
          (cond (shares_by (trail_at object x j) (decision_at object x j) at) (last_word object order addresses x j) (le_at (touched (decision_at object x j)) (found object x) at))
          ≡ word_from object order addresses x j (le_at (touched (decision_at object x j)) (after object order addresses x j) at)
      go (Store r) e =
          let same : touched (decision_at object x j) ≡ r.size = ap touched e in
          ap (word_from object order addresses x j)
          (ap (λ n. cond (shares_by (trail_at object x j) (decision_at object x j) at) (last_word object order addresses x j) (le_at n (found object x) at)) same
          ∙ sym (present object order addresses x sound j kept r e)
          ∙ ap (λ n. le_at n (after object order addresses x j) at) (sym same))
      go Marker e = rw e
      go Align e = rw e
      go Refused e = rw e

  -- what the arrays of values say is what S says
  module _ (values : List ℕ) (states : List State) (sound : SoundObject object) (valued : Valued object order addresses values states) where
    abbrev v : ℕ → SymbolValue
    v = listed values states

    same : ◌≡◌ {A = ℕ → SymbolValue} v (symbol_value object order addresses)
    same = λ i k. listed_is valued k i

    pub finding_found : (j : ℕ) → finding_by v object x j ≡ finding object order addresses x j
    finding_found j = ap (λ v. finding_by v object x j) same ∙ finding_by_lem object order addresses x j

    pub word_comes : (j b w : ℕ) → w ≡ word_by v object x j b → w ≡ word_from object order addresses x j b
    word_comes j b w e = e ∙ ap (λ v. word_by v object x j b) same ∙ word_by_lem object order addresses x j b

-- ---- the search in a site

-- after the first j relocations, none of which breaks a rule. The lists were words₀, sizes₀ and highs₀ before.
pub record Searching (object order addresses : List ℕ) (x : Site) (base : ℕ) (words₀ sizes₀ highs₀ words sizes highs : List ℕ) (trail : Trail) (last : ℕ) (known : Option ℕ) (j : ℕ) : Type 0 where
  pub far : j ≤ count object x
  pub trail_is : trail ≡ trail_at object x j
  pub last_is : last ≡ last_word object order addresses x j
  pub listing : Listing object x highs known
  pub highs_length : length highs ≡ length highs₀
  pub kept : KeptBelow object order addresses x j
  pub worded : Worded object order addresses x j words sizes base
  pub words_same : SameBelow base words₀ words
  pub sizes_same : SameBelow base sizes₀ sizes

-- one more relocation of a trail
pub trail_next : (object : List ℕ) (x : Site) (j : ℕ) (trail t : Trail) (d : Decision) (r : Relocation) → trail ≡ trail_at object x j → d ≡ decision_at object x j → r ≡ entry object x j
    → t ≡ advanced trail d r → t ≡ trail_at object x (suc j)
unfolding trail_at
trail_next object x j trail t d r tr de re te =
    te ∙ ap (λ t. advanced t d r) tr ∙ ap (λ d. advanced (trail_at object x j) d r) de ∙ ap (advanced (trail_at object x j) (decision_at object x j)) re

-- one more number is stored at a place that is not below `base`
stored_same : (base k : ℕ) (before l : List ℕ) (w : ℕ) → base ≤ k → SameBelow base before l → SameBelow base before (set l k w)
stored_same base k before l w h s =
    record {
      same_length = length-set l k w ∙ s.same_length;
      same = λ i b. get_or-set_other l k i w 0 (λ z. omega arith) ∙ s.same i b;
    }

-- a list of numbers that are known up to j, with one more
stored_next : (base j : ℕ) (l : List ℕ) (w : ℕ) (f : ℕ → ℕ) → base + j < length l → ((i : ℕ) → i < j → get_or l (base + i) 0 ≡ f i) → w ≡ f j
    → (i : ℕ) → i < suc j → get_or (set l (base + j) w) (base + i) 0 ≡ f i
stored_next base j l w f h below here i b = go (dec_lt i j)
  where
    go : Dec (i < j) → get_or (set l (base + j) w) (base + i) 0 ≡ f i
    go (yes q) = get_or-set_other l (base + j) (base + i) w 0 (λ z. omega arith) ∙ below i q
    go (no q) =
        let is : j ≡ i = omega arith in
        subst (λ i. get_or (set l (base + j) w) (base + i) 0 ≡ f i) is (get_or-set_same l (base + j) w 0 h ∙ here)

below_next : (P : ℕ → Type 0) (j : ℕ) → ((i : ℕ) → i < j → P i) → P j → (i : ℕ) → i < suc j → P i
below_next P j below here i b = go (dec_lt i j)
  where
    go : Dec (i < j) → P i
    go (yes q) = below i q
    go (no q) =
        let is : j ≡ i = omega arith in
        subst P is here

module _ (object order addresses : List ℕ) (x : Site) (base : ℕ) (words₀ sizes₀ highs₀ : List ℕ) where
  pub searching_start : count object x ≤ length highs₀ → length highs₀ < 2 ^ 32 → Searching object order addresses x base words₀ sizes₀ highs₀ words₀ sizes₀ highs₀ no_trail 0 None 0
  unfolding trail_at last_word
  searching_start room short =
      record {
        far = omega arith;
        trail_is = refl;
        last_is = refl;
        listing = record { room = room; short = short; highs = λ m e. never (ap is_some e) };
        highs_length = refl;
        kept = λ j h. absurd (omega arith);
        worded = record { word_there = λ j h. absurd (omega arith); size_at = λ j h. absurd (omega arith) };
        words_same = record { same_length = refl; same = λ k h. refl };
        sizes_same = record { same_length = refl; same = λ k h. refl };
      }

  module _ (values : List ℕ) (states : List State) (sound : SoundObject object) (valued : Valued object order addresses values states) (site : SoundSite object x) where
    abbrev present_by : Trail → Decision → Relocation → ℕ → ℕ
    present_by t d r last = cond (shares_by t d r.offset.0) last (le_at (touched d) (found object x) r.offset.0)

    pub searching_next : (words sizes highs highs₁ : List ℕ) (trail t : Trail) (d : Decision) (r : Relocation) (last : ℕ) (known known₁ : Option ℕ) (j w size l : ℕ)
        → Searching object order addresses x base words₀ sizes₀ highs₀ words sizes highs trail last known j → j < count object x → base + count object x ≤ length words₀ → base + count object x ≤ length sizes₀
        → r ≡ entry object x j → d ≡ decision_at object x j → finding_by (listed values states) object x j ≡ None → w ≡ word_by (listed values states) object x j (present_by trail d r last)
        → Listing object x highs₁ known₁ → length highs₁ ≡ length highs → t ≡ advanced trail d r → size ≡ touched d → l ≡ cond (is_store d) w last
        → Searching object order addresses x base words₀ sizes₀ highs₀ (set words (base + j) w) (set sizes (base + j) size) highs₁ t l known₁ (suc j)
    unfolding trail_at last_word
    searching_next words sizes highs highs₁ trail t d r last known known₁ j w size l s there wroom sroom re de keeps comes listing same te se le =
        let keeps_it : finding object order addresses x j ≡ None = sym (finding_found object order addresses x values states sound valued j) ∙ keeps in
        let kept : KeptBelow object order addresses x (suc j) = below_next (λ i. finding object order addresses x i ≡ None) j s.kept keeps_it in
        let b : present_by trail d r last
        ≡ cond (shares_by (trail_at object x j) (decision_at object x j) (offset object x j)) (last_word object order addresses x j) (le_at (touched (decision_at object x j)) (found object x) (offset object x j)) =
        ap (λ t. present_by t d r last) s.trail_is ∙ ap (λ d. present_by (trail_at object x j) d r last) de ∙ ap (λ r. present_by (trail_at object x j) (decision_at object x j) r last) re
        ∙ ap (present_by (trail_at object x j) (decision_at object x j) (entry object x j)) s.last_is in
        let word : w ≡ word_at object order addresses x j =
        word_comes object order addresses x values states sound valued j _ w comes ∙ ap (word_from object order addresses x j) b
        ∙ word_found object order addresses x j site (λ i h. kept_shape object order addresses x i (kept i h)) in
        record {
          far = there;
          trail_is = trail_next object x j trail t d r s.trail_is de re te;
          last_is = le ∙ ap (λ d. cond (is_store d) w last) de ∙ ap (λ w. cond (is_store (decision_at object x j)) w last) word ∙ ap (cond (is_store (decision_at object x j)) (word_at object order addresses x j)) s.last_is;
          listing = listing;
          highs_length = same ∙ s.highs_length;
          kept = kept;
          worded = record {
            word_there = stored_next base j words w (word_at object order addresses x) (omega (arith, s.words_same.same_length)) s.worded.word_there word;
            size_at = stored_next base j sizes size (λ j. touched (decision_at object x j)) (omega (arith, s.sizes_same.same_length)) s.worded.size_at (se ∙ ap touched de);
          };
          words_same = stored_same base (base + j) words₀ words w (omega arith) s.words_same;
          sizes_same = stored_same base (base + j) sizes₀ sizes size (omega arith) s.sizes_same;
        }
