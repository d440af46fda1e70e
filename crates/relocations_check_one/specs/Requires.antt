-- What functions require of their callers.
use Rattle.placing_symbols.specs.Reasons.{State, SymbolValue}
use Rattle.std.specs.Prelude.{◌≡◌, true, List, ℕ, ◌^◌, ◌≤◌, ◌<◌, length, Option, Some}
use Rattle.elf_read.specs.declared.Relocation.{Relocation}
use Rattle.elf_read.specs.Entries.{symbol_count}
use Rattle.elf_check.specs.Requires.{SoundObject}
use Rattle.placing_symbols.specs.declared.Symbols.{Symbols}
use Rattle.placing_symbols.specs.Requires.{SymbolsOf}
use Rattle.placing_symbols.specs.Arrays.{listed, ValueArrays}
use Rattle.relocations_types.specs.declared.Rule.{Rule}
use Rattle.relocations_types.specs.declared.Decision.{Decision}
use Rattle.relocations_types.specs.declared.Decision.TheVariants.{Store}
use Rattle.relocations_rela.specs.declared.sites.Site.{Site}
use Rattle.relocations_rela.specs.Sites.{count, entry, decision_at}
use Rattle.relocations_rela.specs.declared.shape.Trail.{Trail}
use Rattle.relocations_rela.specs.Shape.{shape_well}
use Rattle.relocations_rela.specs.Trails.{trail_at}
use Rattle.relocations_values.specs.Highs.{Listed}
use Rattle.relocations_rela.specs.Requires.{There}
use Rattle.relocations_rules.specs.Rules.{is_resolved}

-- relocation j, as it was read, which keeps check 9 and stores by a rule
pub record Storing (object : List ℕ) (x : Site) (j : ℕ) (rule : Rule) (here : Relocation) : Type 0 where
  pub there : There object x j
  pub read : here ≡ entry object x j
  pub decided : decision_at object x j ≡ Store rule
  pub shape : shape_well object x j ≡ true

-- a symbol that resolves is 0 or in the table
abbrev pub Tabled : (ℕ → SymbolValue) → List ℕ → Type 0
Tabled v object = (k : ℕ) → is_resolved (v k) ≡ true → 0 < k → k < symbol_count object

-- the list of high halves: room for all of them, and if they are listed, so many
pub record Listing (object : List ℕ) (x : Site) (l : List ℕ) (known : Option ℕ) : Type 0 where
  pub room : count object x ≤ length l
  pub short : length l < 2 ^ 32
  pub highs : (m : ℕ) → known ≡ Some m → Listed object x l m

-- the list of high halves as a function leaves it: such a list still, and as long as it was
abbrev pub Relisted : List ℕ → Site → List ℕ → List ℕ → Option ℕ → Type 0
Relisted object x before after known = Listing object x after known × (length after ≡ length before)

-- what does not change over a site: a sound object with its symbols, and the arrays of their values
pub record Lookups (object : List ℕ) (symbols : Symbols) (values : List ℕ) (states : List State) : Type 0 where
  pub sound : SoundObject object
  pub symbols_are : SymbolsOf object symbols
  pub arrays : ValueArrays values states
  pub tabled : Tabled (listed values states) object

-- relocation j as it was read and decided, and the trail before it
pub record Read (object : List ℕ) (x : Site) (j : ℕ) (trail : Trail) (decision : Decision) (here : Relocation) : Type 0 where
  pub there : There object x j
  pub read : here ≡ entry object x j
  pub decided : decision ≡ decision_at object x j
  pub followed : trail ≡ trail_at object x j
