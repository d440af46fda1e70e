-- Sites of a sound object.
use mathlib.Core.Path.{◌≡◌, refl}
use mathlib.Core.Bool.{true, not}
use mathlib.Core.List.{List}
use Prim.Native.Nat.{ℕ, ◌+◌, ◌≤◌, ◌<◌}
use native.Mathlib.Omega.{arith}
use lib.ListN.{length}
use lib.Dec.{eqb}
use borrow.Author.Tests.{eqb-true}
use Rattle.numbers_definitions.proofs.Laws.Tests.{and_left}
use Rattle.numbers_definitions.proofs.Laws.Lists.{length_part}
use Rattle.elf_read.specs.Headers.{section_count}
use Rattle.elf_read.specs.Sections.{RELA, NOBITS, section_at, allocated, loaded, targets, counting_rela, relocations_in}
use Rattle.elf_read.specs.Entries.{bytes_of}
use Rattle.elf_check.specs.Requires.{SoundObject}
use Rattle.elf_check.proofs.Laws.Bounds.{loaded_inside}
use Rattle.relocations_rela.specs.declared.sites.Site.{Site}
use Rattle.relocations_rela.specs.Sites.{site_at, count, offset, decision_at, found}
use Rattle.relocations_decisions.specs.Decisions.{touched}
use Rattle.relocations_rela.specs.Requires.{SoundSite, Placed}

-- ---- the bytes of the target

pub found_length : (object : List ℕ) (x : Site) → SoundSite object x → length (found object x) ≡ x.target.size
unfolding bytes_of
found_length object x f = length_part object x.target.offset.0 x.target.size f.bytes

-- the bytes of a store that stays inside are there
pub store_inside : (object : List ℕ) (x : Site) (j : ℕ) → SoundSite object x → offset object x j + touched (decision_at object x j) ≤ x.target.size
    → (n : ℕ) → touched (decision_at object x j) ≡ n → offset object x j + n ≤ length (found object x)
store_inside object x j f inside n e = omega (arith, found_length object x f)

-- ---- the site of a RELA section that counts

module _ (object addresses : List ℕ) (f : SoundObject object) (i : ℕ) (h : i < section_count object) (e : counting_rela object i ≡ true) where
  rela_kind : (section_at object i).kind ≡ RELA
  unfolding counting_rela
  rela_kind = eqb-true _ _ (and_left (eqb (section_at object i).kind RELA) (targets object (section_at object i)) e)

  loaded_allocated : (t : ℕ) → loaded (section_at object t) ≡ true → allocated (section_at object t) ≡ true
  unfolding loaded
  loaded_allocated t l = and_left (allocated (section_at object t)) (not (eqb (section_at object t).kind NOBITS)) l

  pub sound_site : Placed object addresses → SoundSite object (site_at object addresses i)
  unfolding site_at
  sound_site p =
      let rela = (f.sections i h).rela e in
      let kind = rela_kind in
      let t : ℕ = (section_at object i).info in
      let inside = loaded_inside object f t rela.target_there rela.target_loaded in
      record {
        header = f.table.header;
        flagged = refl;
        entries = (f.sections i h).inside (λ z. omega arith) (λ z. omega arith);
        bytes = inside.inside;
        placed = p.ends t rela.target_there (loaded_allocated t rela.target_loaded);
      }

  -- it has as many relocations as are counted for its section
  pub count_is : count object (site_at object addresses i) ≡ relocations_in object i
  unfolding site_at relocations_in
  count_is = rw e
