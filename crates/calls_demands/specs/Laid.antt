-- What a done install leaves in the image (demand 2: "Once done, ..").
use Rattle.std.specs.Prelude.{◌≡◌, true, List, ℕ, ◌+◌, ◌-◌, ◌≤◌, ◌<◌, length, get_or, Some}
use Rattle.numbers_definitions.specs.Bytes.{le_at, part}
use Rattle.elf_read.specs.Headers.{address_width, section_count}
use Rattle.elf_read.specs.Sections.{section_at, counting_rela}
use Rattle.elf_read.specs.Entries.{bytes_of}
use Rattle.order_lookup.specs.Addresses.{addresses_for, base_for}
use Rattle.plan_pieces.specs.declared.Span.{Span}
use Rattle.placing_check.specs.Placing.{has_bytes}
use Rattle.instructions_fields.specs.declared.Field.TheVariants.{U}
use Rattle.relocations_types.specs.declared.Operand.TheVariants.{Absolute, Paired}
use Rattle.relocations_types.specs.declared.Part.TheVariants.{High, Low}
use Rattle.relocations_types.specs.declared.Calculation.TheVariants.{Of}
use Rattle.relocations_types.specs.declared.Rule.{Rule}
use Rattle.relocations_types.specs.declared.Decision.TheVariants.{Store}
use Rattle.relocations_rela.specs.declared.sites.Site.{Site}
use Rattle.relocations_rela.specs.Sites.{site_at, count, decision_at, offset}
use Rattle.relocations_rela.specs.Shape.{end}
use Rattle.relocations_values.specs.Values.{target_at}
use Rattle.relocations_values.specs.Pairs.{pair_of}
use Rattle.relocations_rules.specs.Rules.{symbol}
use Rattle.relocations_bytes.specs.Sections.{distance_at}
use Rattle.relocations_bytes.specs.Promises.{ReadsBack, AddUp}

module _ (object order : List ℕ) where
  -- where section t starts in the image: "its address less that order's base"
  abbrev pub start : ℕ → ℕ
  start t = get_or (addresses_for object order) t 0 - base_for object order

  -- section t as it stands in an image
  abbrev pub section_in : List ℕ → ℕ → List ℕ
  section_in image t = part image (start t) (section_at object t).size

  -- byte b of the image belongs to section t, which is a laid row of size above 0
  pub record Covers (t b : ℕ) : Type 0 where
    pub there : t < section_count object
    pub loaded : has_bytes (section_at object t) ≡ true
    pub from : start t ≤ b
    pub to : b < start t + (section_at object t).size

  -- "A fit's span runs from the lowest to the end of the highest laid byte; with none laid it is start 0, length 0."
  pub record IsSpan (s : Span) : Type 0 where
    pub covers_all : (t b : ℕ) → Covers t b → (s.start ≤ b) × (b < s.start + s.size)
    pub first_laid : 0 < s.size → (t : ℕ) × Covers t s.start
    pub last_laid : 0 < s.size → (t : ℕ) × Covers t (s.start + s.size - 1)
    pub none_laid : s.size ≡ 0 → s.start ≡ 0

  -- the site of RELA section i
  abbrev pub site_of : ℕ → Site
  site_of i = site_at object (addresses_for object order) i

  -- section i is a RELA section that counts, and relocation j is one of its relocations
  pub record IsRelocation (i j : ℕ) : Type 0 where
    pub there : i < section_count object
    pub counts : counting_rela object i ≡ true
    pub entry : j < count object (site_of i)

  -- no relocation touches byte b of section t
  abbrev pub Untouched : ℕ → ℕ → Type 0
  Untouched t b = (i j : ℕ) → IsRelocation i j → (section_at object i).info ≡ t → offset object (site_of i) j ≤ b → b < end object (site_of i) j → ⊥

  -- the bytes of relocation j of RELA section i in an image, n of them, as one number
  abbrev pub bytes_at : List ℕ → ℕ → ℕ → ℕ → ℕ
  bytes_at image i j n = le_at n (section_in image (section_at object i).info) (offset object (site_of i) j)

  -- T of relocation j of RELA section i
  abbrev pub target : ℕ → ℕ → ℕ
  target i j = target_at object order (addresses_for object order) (site_of i) j

  -- the image before and after a done install
  pub record Laid (before after : List ℕ) : Type 0 where
    pub same_length : length after ≡ length before
    -- "No other image byte changes."
    pub others_same : (b : ℕ) → ((t : ℕ) → Covers t b → ⊥) → get_or after b 0 ≡ get_or before b 0
    -- "each laid byte is the object's own"
    pub own : (t b : ℕ) → Covers t (start t + b) → Untouched t b → get_or after (start t + b) 0 ≡ get_or (bytes_of object (section_at object t)) b 0
    -- "or the field that the RISC-V ELF psABI 1.0 asks for": each relocation, read back by the manual. So "every jump gives its whole
    -- distance", and the bits outside a field are the object's.
    pub fields : (i j : ℕ) → IsRelocation i j → ReadsBack object order (addresses_for object order) (site_of i) (section_in after (section_at object i).info) j
    -- "the high half and the low half laid for one address .. add up to it modulo 2^32" (2^w, where addresses have w bits): 26 with 27 or
    -- 28, in any two sections
    pub addresses_whole : (h i l j : ℕ) → IsRelocation h i → IsRelocation l j → (a b : Rule) → decision_at object (site_of h) i ≡ Store a → decision_at object (site_of l) j ≡ Store b
        → a.calculation ≡ Of High Absolute → b.calculation ≡ Of Low Absolute → target h i ≡ target l j
        → AddUp (address_width object) a.field (bytes_at after h i a.size) b.field (bytes_at after l j b.size) (target h i)
    -- ".. or distance": 24 or 25 with the one 23 that is its pair
    pub distances_whole : (i j : ℕ) → IsRelocation i j → (b : Rule) → decision_at object (site_of i) j ≡ Store b → b.calculation ≡ Of Low Paired
        → (k : ℕ) × (k < count object (site_of i)) × (pair_of object (site_of i) (symbol object (site_of i) j).value ≡ Some k)
        × AddUp (address_width object) U (bytes_at after i k 4) b.field (bytes_at after i j b.size) (distance_at object order (addresses_for object order) (site_of i) k)
