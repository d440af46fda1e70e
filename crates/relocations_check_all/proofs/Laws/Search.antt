-- Laws of the search over the sites.
use Rattle.std.specs.Prelude.{⊤, Some, None, Result, Ok, Err}
use Rattle.std.proofs.lemmas.Result.{MatchResult-at_ok, MatchResult-at_err}
use mathlib.Core.Path.{◌≡◌, refl, sym, ap, ◌∙◌, subst}
use mathlib.Core.Bool.{Bool, true, false}
use mathlib.Core.List.{List}
use Prim.Native.Nat.{ℕ, suc, ◌+◌, ◌-◌, ◌≤◌, ◌<◌}
use native.Mathlib.Omega.{arith}
use native.Mathlib.Decide.{dec_lt}
use Rattle.numbers_definitions.specs.Sums.{sum}
use Rattle.numbers_definitions.proofs.Laws.Sums.{sum_mono}
use Rattle.numbers_definitions.proofs.Laws.Tests.{never}
use Rattle.elf_read.specs.Headers.{section_count}
use Rattle.elf_read.specs.Sections.{counting_rela, relocations_in, relocations_below}
use Rattle.elf_read.specs.Entries.{relocation_count}
use Rattle.elf_check.specs.Requires.{SoundObject}
use Rattle.relocations_rela.specs.declared.sites.Site.{Site}
use Rattle.relocations_rela.specs.Sites.{site_at, count}
use Rattle.relocations_rela.proofs.Laws.Sites.{count_is}
use Rattle.relocations_rules.specs.declared.Broken.{Broken}
use Rattle.relocations_rules.specs.Search.{finding, finding_of, is_broken, blamed, relocation_check}
use Rattle.relocations_rules.proofs.Laws.Search.{counted, finding_entry, check_broken, check_passed}
use Rattle.relocations_check_all.specs.Sites.{Worded, WordedBelow, SiteChecked}

abbrev is_passed : Result ⊤ Broken → Bool
is_passed (Ok _) = true
is_passed (Err b) = false

pub broken_passed : {B : Type 0} (b : Broken) → ◌≡◌ {A = Result ⊤ Broken} (Err b) (Ok tt) → B
broken_passed b e = never (ap is_passed e)

module _ (object order addresses : List ℕ) where
  -- the relocations of the sections below i break no rule, and their words and sizes are stored; there are n of them
  pub record Below (i n : ℕ) (words sizes : List ℕ) : Type 0 where
    pub number_is : n ≡ relocations_below object i
    pub kept : (k : ℕ) → k < n → is_broken (finding_of object order addresses k) ≡ false
    pub worded : WordedBelow object order addresses i words sizes

  pub below_start : (words sizes : List ℕ) → Below 0 0 words sizes
  unfolding sum
  below_start words sizes = record { number_is = refl; kept = λ k h. absurd (omega arith); worded = λ s h. absurd (omega arith) }

  -- a section that is no RELA, or does not count
  pub below_skip : (i n : ℕ) (words sizes : List ℕ) → Below i n words sizes → counting_rela object i ≡ false → Below (suc i) n words sizes
  unfolding sum relocations_in
  below_skip i n words sizes b out =
      let none : relocations_in object i ≡ 0 = rw out in
      record { number_is = omega (arith, b.number_is); kept = b.kept; worded = λ s h e. go s h e (dec_lt s i) }
    where
      go : (s : ℕ) → s < suc i → counting_rela object s ≡ true → Dec (s < i)
          → Worded object order addresses (site_at object addresses s) (count object (site_at object addresses s)) words sizes (relocations_below object s)
      go s h e (yes l) = b.worded s l e
      go s h e (no l) =
          let same : i ≡ s = omega arith in
          never (sym out ∙ ap (counting_rela object) same ∙ e)

  module _ (sound : SoundObject object) (i : ℕ) (h : i < section_count object) (counts : counting_rela object i ≡ true) (n : ℕ) (words sizes words₁ sizes₁ : List ℕ) (below : Below i n words sizes)
      (x : Site) (is : x ≡ site_at object addresses i) (r : Result ⊤ Broken) (given : SiteChecked object order addresses x n words sizes words₁ sizes₁ r) where
    site : SiteChecked object order addresses (site_at object addresses i) n words sizes words₁ sizes₁ r
    site = subst (λ x. SiteChecked object order addresses x n words sizes words₁ sizes₁ r) is given

    many : count object (site_at object addresses i) ≡ relocations_in object i
    many = count_is object addresses sound i h counts

    -- relocation j of the site has the number n + j
    place : (j : ℕ) → j < count object (site_at object addresses i) → finding_of object order addresses (n + j) ≡ finding object order addresses (site_at object addresses i) j
    place j l =
        ap (λ n. finding_of object order addresses (n + j)) below.number_is ∙ finding_entry object i j h (omega (arith, many)) order addresses

    kept_up_to : (u : ℕ) → u ≤ count object (site_at object addresses i) → ((j : ℕ) → j < u → finding object order addresses (site_at object addresses i) j ≡ None)
        → (k : ℕ) → k < n + u → is_broken (finding_of object order addresses k) ≡ false
    kept_up_to u l all k b = go (dec_lt k n)
      where
        go : Dec (k < n) → is_broken (finding_of object order addresses k) ≡ false
        go (yes q) = below.kept k q
        go (no q) =
            let back : n + (k - n) ≡ k = omega arith in
            subst (λ k. is_broken (finding_of object order addresses k) ≡ false) back (ap is_broken (place (k - n) (omega arith) ∙ all (k - n) (omega arith)))

    -- what was stored before stays
    same_word : (s : ℕ) → s < i → counting_rela object s ≡ true → (j : ℕ) → j < count object (site_at object addresses s) → relocations_below object s + j < n
    unfolding sum
    same_word s l e j b =
        let some : count object (site_at object addresses s) ≡ relocations_in object s = count_is object addresses sound s (omega arith) e in
        omega (arith, below.number_is, sum_mono (relocations_in object) (suc s) i l)

    earlier : (s : ℕ) → s < i → counting_rela object s ≡ true → Worded object order addresses (site_at object addresses s) (count object (site_at object addresses s)) words₁ sizes₁ (relocations_below object s)
    earlier s l e =
        let w = below.worded s l e in
        record {
          word_there = λ j b. site.words_same.same (relocations_below object s + j) (same_word s l e j b) ∙ w.word_there j b;
          size_at = λ j b. site.sizes_same.same (relocations_below object s + j) (same_word s l e j b) ∙ w.size_at j b;
        }

    -- a site whose relocations break no rule
    pub below_site : r ≡ Ok tt → Below (suc i) (n + count object x) words₁ sizes₁
    unfolding sum
    below_site none =
        let passed = MatchResult-at_ok _ _ tt none site.found in
        record {
          number_is = omega (arith, below.number_is, many, ap (count object) is);
          kept = λ k h. kept_up_to (count object (site_at object addresses i)) (omega arith) passed.0 k (omega (arith, ap (count object) is));
          worded = λ s l e. go s l e (dec_lt s i) passed.1;
        }
      where
        go : (s : ℕ) → s < suc i → counting_rela object s ≡ true → Dec (s < i) → Worded object order addresses (site_at object addresses i) (count object (site_at object addresses i)) words₁ sizes₁ n
            → Worded object order addresses (site_at object addresses s) (count object (site_at object addresses s)) words₁ sizes₁ (relocations_below object s)
        go s b e (yes l) w = earlier s l e
        go s b e (no l) w =
            let same : i ≡ s = omega arith in
            subst (λ s. Worded object order addresses (site_at object addresses s) (count object (site_at object addresses s)) words₁ sizes₁ (relocations_below object s)) same
            (subst (Worded object order addresses (site_at object addresses i) (count object (site_at object addresses i)) words₁ sizes₁) below.number_is w)

    -- a site with a relocation that breaks one
    pub below_broken : (b : Broken) → r ≡ Err b → relocation_check object order addresses ≡ Err b
    below_broken b broken =
        let f = MatchResult-at_err _ _ b broken site.found in
        let there : n + f.at < relocation_count object = omega (arith, below.number_is, counted object i f.at h (omega (arith, many, f.there))) in
        let same : finding_of object order addresses (n + f.at) ≡ Some b.finding = place f.at f.there ∙ f.finding_is in
        check_broken object order addresses (n + f.at) there (kept_up_to f.at (omega (arith, f.there)) f.below) (ap is_broken same)
        ∙ ap (λ o. blamed o (n + f.at)) same ∙ ap (λ k. Err (record { finding = b.finding; relocation = k })) (sym f.relocation_is)

  -- all relocations of a site have room
  pub site_room : SoundObject object → (i : ℕ) → i < section_count object → counting_rela object i ≡ true → relocations_below object i + count object (site_at object addresses i) ≤ relocation_count object
  unfolding sum
  site_room sound i h e = omega (arith, count_is object addresses sound i h e, sum_mono (relocations_in object) (suc i) (section_count object) h)

  -- all sections
  pub below_all : (n : ℕ) (words sizes : List ℕ) → Below (section_count object) n words sizes → relocation_check object order addresses ≡ Ok tt
  below_all n words sizes b = check_passed object order addresses (λ k h. b.kept k (omega (arith, b.number_is)))
