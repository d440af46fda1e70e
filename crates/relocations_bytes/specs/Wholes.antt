-- What else the final bytes of one section say, about bytes that no relocation touches and about two halves of one number. `calls_demands`
-- says the same about the image.
use Rattle.std.specs.Prelude.{◌≡◌, Bool, not, ◌&&◌, List, ℕ, ◌<◌, leb, ltb, Some}
use Rattle.numbers_definitions.specs.Bytes.{le_at}
use Rattle.numbers_definitions.specs.First.{everywhere}
use Rattle.instructions_fields.specs.declared.Field.TheVariants.{U}
use Rattle.relocations_types.specs.declared.Operand.TheVariants.{Absolute, Paired}
use Rattle.relocations_types.specs.declared.Part.TheVariants.{High, Low}
use Rattle.relocations_types.specs.declared.Calculation.TheVariants.{Of}
use Rattle.relocations_types.specs.declared.Rule.{Rule}
use Rattle.relocations_types.specs.declared.Decision.TheVariants.{Store}
use Rattle.relocations_rela.specs.declared.sites.Site.{Site}
use Rattle.elf_read.specs.Headers.{address_width}
use Rattle.relocations_rela.specs.Sites.{count, decision_at, offset}
use Rattle.relocations_values.specs.Values.{target_at}
use Rattle.relocations_rela.specs.Shape.{end}
use Rattle.relocations_values.specs.Pairs.{pair_of}
use Rattle.relocations_rules.specs.Rules.{symbol}
use Rattle.relocations_bytes.specs.Sections.{distance_at}
use Rattle.relocations_bytes.specs.Promises.{AddUp}

-- relocation j touches byte b; no relocation touches it
unfoldable pub touches : List ℕ → Site → ℕ → ℕ → Bool
touches object x j b = leb (offset object x j) b && ltb b (end object x j)

unfoldable pub untouched : List ℕ → Site → ℕ → Bool
untouched object x b = everywhere (λ j. not (touches object x j b)) (count object x)

-- "the high half and the low half laid for one address or distance add up to it modulo 2^32": modulo 2^w, where addresses have w bits
pub record Halves (object order addresses : List ℕ) (x : Site) (final : List ℕ) : Type 0 where
  -- 26 with 27 or 28: for one address T, anywhere in the section
  pub address : (i j : ℕ) → i < count object x → j < count object x → (a b : Rule) → decision_at object x i ≡ Store a → decision_at object x j ≡ Store b
      → a.calculation ≡ Of High Absolute → b.calculation ≡ Of Low Absolute → target_at object order addresses x i ≡ target_at object order addresses x j
      → AddUp (address_width object) a.field (le_at a.size final (offset object x i)) b.field (le_at b.size final (offset object x j)) (target_at object order addresses x i)
  -- 23 with 24 or 25: the low half has exactly one pair, and the two halves add up to the distance of that pair
  pub distance : (j : ℕ) → j < count object x → (b : Rule) → decision_at object x j ≡ Store b → b.calculation ≡ Of Low Paired
      → (k : ℕ) × (k < count object x) × (pair_of object x (symbol object x j).value ≡ Some k)
      × AddUp (address_width object) U (le_at 4 final (offset object x k)) b.field (le_at b.size final (offset object x j)) (distance_at object order addresses x k)
