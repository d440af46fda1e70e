-- What the search over relocations leaves: the words of the relocations, and how many bytes each touches.
use Rattle.std.specs.Prelude.{◌≡◌, true, List, ℕ, ◌+◌, ◌^◌, ◌≤◌, ◌<◌, length, get_or, ⊤, None, Some, Result, MatchResult}
use Rattle.elf_read.specs.Headers.{section_count}
use Rattle.elf_read.specs.Sections.{counting_rela, relocations_below}
use Rattle.elf_read.specs.Entries.{relocation_count}
use Rattle.relocations_rela.specs.declared.sites.Site.{Site}
use Rattle.relocations_rela.specs.Sites.{site_at, count, decision_at}
use Rattle.relocations_decisions.specs.Decisions.{touched}
use Rattle.relocations_rules.specs.declared.Broken.{Broken}
use Rattle.relocations_rules.specs.Search.{finding}
use Rattle.relocations_bytes.specs.Words.{word_at}

module _ (object order addresses : List ℕ) where
  -- the words and sizes of the first n relocations of a site, which begin at a place of the lists
  pub record Worded (x : Site) (n : ℕ) (words sizes : List ℕ) (base : ℕ) : Type 0 where
    pub word_there : (j : ℕ) → j < n → get_or words (base + j) 0 ≡ word_at object order addresses x j
    pub size_at : (j : ℕ) → j < n → get_or sizes (base + j) 0 ≡ touched (decision_at object x j)

  -- none of the first n relocations of a site breaks a rule
  abbrev pub KeptBelow : Site → ℕ → Type 0
  KeptBelow x n = (j : ℕ) → j < n → finding object order addresses x j ≡ None

  -- a relocation of a site is the first that breaks a rule; the site's relocations are counted from `base` on
  pub record BrokenFirst (x : Site) (base : ℕ) (b : Broken) : Type 0 where
    pub at : ℕ
    pub there : at < count object x
    pub below : KeptBelow x at
    pub relocation_is : b.relocation ≡ base + at
    pub finding_is : finding object order addresses x at ≡ Some b.finding

  -- the words and sizes of the relocations of the sections below i
  abbrev pub WordedBelow : ℕ → List ℕ → List ℕ → Type 0
  WordedBelow i words sizes =
      (s : ℕ) → s < i → counting_rela object s ≡ true → Worded (site_at object addresses s) (count object (site_at object addresses s)) words sizes (relocations_below object s)

-- a list with an entry for each relocation of the object; a number of 32 bits counts them
pub record Roomy (object list : List ℕ) : Type 0 where
  pub room : relocation_count object ≤ length list
  pub short : length list < 2 ^ 32

-- the words and sizes of all relocations, in such lists
pub record Worked (object order addresses words sizes : List ℕ) : Type 0 where
  pub worded : WordedBelow object order addresses (section_count object) words sizes
  pub words_room : Roomy object words
  pub sizes_room : Roomy object sizes

-- lists that are the same below a place, and of one length
pub record SameBelow (n : ℕ) (before after : List ℕ) : Type 0 where
  pub same_length : length after ≡ length before
  pub same : (k : ℕ) → k < n → get_or after k 0 ≡ get_or before k 0

-- what is found in a site whose relocations are counted from `base` on: the first that breaks a rule, or what is then in the lists
pub record SiteChecked (object order addresses : List ℕ) (x : Site) (base : ℕ) (words₀ sizes₀ words sizes : List ℕ) (r : Result ⊤ Broken) : Type 0 where
  pub found : MatchResult r (λ _. KeptBelow object order addresses x (count object x) × Worded object order addresses x (count object x) words sizes base)
      (BrokenFirst object order addresses x base)
  pub words_same : SameBelow base words₀ words
  pub sizes_same : SameBelow base sizes₀ sizes
