-- What the code works out for each relocation while it checks: the bytes that the relocation touches as it leaves them, as one number.
use Rattle.std.specs.Prelude.{ℕ, zero, suc, cond, List, ℤ}
use Rattle.numbers_definitions.specs.Bytes.{le_at}
use Rattle.elf_read.specs.Headers.{address_width}
use Rattle.relocations_types.specs.declared.Decision.{Decision}
use Rattle.relocations_types.specs.declared.Decision.TheVariants.{Marker, Align, Store, Refused}
use Rattle.relocations_decisions.specs.Decisions.{is_store, touched}
use Rattle.relocations_rela.specs.declared.sites.Site.{Site}
use Rattle.relocations_rela.specs.Sites.{decision_at, offset, P}
use Rattle.relocations_bytes.specs.Patches.{patched}
use Rattle.relocations_bytes.specs.Sections.{sum_at, pair_distance, after}

-- the touched bytes b after a relocation; 0 if it touches none
abbrev pub word : ℕ → Decision → ℕ → ℤ → ℕ → ℕ → ℕ
word w (Store r) b x p d = patched w r.calculation r.field b x p d
word w Marker b x p d = 0
word w Align b x p d = 0
word w Refused b x p d = 0

module _ (object order addresses : List ℕ) (x : Site) where
  -- of relocation j, where its bytes were b before it
  abbrev pub word_from : ℕ → ℕ → ℕ
  word_from j b = word (address_width object) (decision_at object x j) b (sum_at object order addresses x j) (P object x j) (pair_distance object order addresses x j)

  -- of relocation j, applied to what those before it left
  unfoldable pub word_at : ℕ → ℕ
  word_at j = word_from j (le_at (touched (decision_at object x j)) (after object order addresses x j) (offset object x j))

  -- of the previous non-marker of relocation j; 0 if there is none
  unfoldable pub last_word : ℕ → ℕ
  last_word zero = 0
  last_word (suc j) = cond (is_store (decision_at object x j)) (word_at j) (last_word j)
