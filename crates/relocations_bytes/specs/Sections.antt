-- A section after its relocations.
use Rattle.std.specs.Prelude.{ℕ, zero, suc, cond, ◌&&◌, List, ltb, eqb, ℤ, pos, ◌+ℤ◌, None, Option, Some}
use Rattle.std.proofs.lemmas.List.Edits.{sets}
use Rattle.numbers_definitions.specs.Bytes.{le_at, bytes}
use Rattle.numbers_definitions.specs.First.{first}
use Rattle.numbers_definitions.specs.Whole.{minus}
use Rattle.elf_read.specs.Headers.{address_width, section_count}
use Rattle.elf_read.specs.Sections.{section_at, counting_rela}
use Rattle.elf_read.specs.Entries.{bytes_of}
use Rattle.relocations_types.specs.declared.Decision.{Decision}
use Rattle.relocations_types.specs.declared.Decision.TheVariants.{Marker, Align, Store, Refused}
use Rattle.relocations_rela.specs.declared.sites.Site.{Site}
use Rattle.relocations_rela.specs.Sites.{site_at, count, decision_at, offset, A, P, found}
use Rattle.relocations_values.specs.Values.{S, value_at, target_at}
use Rattle.relocations_values.specs.Pairs.{pair_of}
use Rattle.relocations_rules.specs.Rules.{symbol}
use Rattle.relocations_bytes.specs.Patches.{patched}

-- A section's bytes after one relocation, where addresses have w bits. A store patches the bytes at an offset, read as one number; every
-- other decision changes nothing.
abbrev pub stored : ℕ → Decision → ℕ → ℤ → ℕ → ℕ → List ℕ → List ℕ
stored w (Store r) at x p d s = sets s at (bytes r.size (patched w r.calculation r.field (le_at r.size s at) x p d))
stored w Marker at x p d s = s
stored w Align at x p d s = s
stored w Refused at x p d s = s

module _ (object order addresses : List ℕ) (x : Site) where
  -- of relocation j: S + A, "not reduced first", and T - P "modulo 2^32", which is 2^w where addresses have w bits
  unfoldable pub sum_at : ℕ → ℤ
  sum_at j = pos (S (value_at object order addresses x j)) +ℤ A object x j

  unfoldable pub distance_at : ℕ → ℕ
  distance_at j = minus (address_width object) (target_at object order addresses x j) (P object x j)

  -- "the partner's T - P": P is the partner's, never that of the low half. Without a partner it counts as 0. Check 12 has refused such a
  -- PCREL_LO12, and no other type uses the value.
  abbrev pub distance_of : Option ℕ → ℕ
  distance_of (Some k) = distance_at k
  distance_of None = 0

  abbrev pub pair_distance : ℕ → ℕ
  pair_distance j = distance_of (pair_of object x (symbol object x j).value)

  -- relocation j applied to a section's bytes
  unfoldable pub applied : ℕ → List ℕ → List ℕ
  applied j s = stored (address_width object) (decision_at object x j) (offset object x j) (sum_at j) (P object x j) (pair_distance j) s

  -- The bytes "as found in the object", after the first j relocations. These are applied in file order, each to what the one before it left.
  unfoldable pub after : ℕ → List ℕ
  after zero = found object x
  after (suc j) = applied j (after j)

-- The RELA section that counts and relocates section t, or the number of sections if there is none. Check 5 allows at most one.
unfoldable pub rela_of : List ℕ → ℕ → ℕ
rela_of object t = first (λ i. counting_rela object i && eqb (section_at object i).info t) (section_count object)

-- the bytes of section t as the object has them, after its relocations if it has any
unfoldable pub relocated : List ℕ → List ℕ → List ℕ → ℕ → List ℕ
relocated object order addresses t =
    let x = site_at object addresses (rela_of object t) in
    cond (ltb (rela_of object t) (section_count object)) (after object order addresses x (count object x)) (bytes_of object (section_at object t))
