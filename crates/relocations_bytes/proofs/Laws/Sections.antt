-- Laws of sections after their relocations.
use Rattle.placing_symbols.specs.Reasons.{SymbolValue}
use Rattle.std.specs.Prelude.{Ok}
use mathlib.Core.Path.{◌≡◌, refl, sym, ap, ◌∙◌, subst}
use mathlib.Core.Bool.{Bool, true, false, ◌&&◌}
use mathlib.Core.List.{List}
use Prim.Native.Nat.{ℕ, ◌+◌, ◌^◌, ◌≤◌, ◌<◌}
use native.Mathlib.Nat.{mod-eq_of_lt, zero-add}
use native.Mathlib.Omega.{arith}
use lib.Dec.{eqb}
use lib.IntN.{ℤ, pos, ◌+ℤ◌, ◌-ℤ◌}
use lib.Pow.{pow_mono}
use lib.Seq.{sets}
use borrow.Author.Tests.{eqb-true, lt-ltb, le-ltb}
use Rattle.numbers_definitions.specs.Bytes.{le_at, bytes}
use Rattle.numbers_definitions.specs.Whole.{residue, signed, plus, minus}
use Rattle.numbers_definitions.specs.First.{first}
use Rattle.numbers_definitions.proofs.Laws.Tests.{and_left, and_right, never}
use Rattle.numbers_definitions.proofs.Laws.First.{first_at}
use Rattle.numbers_definitions.proofs.Laws.Whole.{minus_residue, residue_signed}
use Rattle.elf_read.specs.declared.Section.{Section}
use Rattle.elf_read.specs.declared.Symbol.{Symbol}
use Rattle.elf_read.specs.declared.Relocation.{Relocation}
use Rattle.elf_read.specs.Headers.{address_width, section_count}
use Rattle.elf_read.specs.Sections.{section_at, symbol_table, counting_rela, relocations_in}
use Rattle.elf_read.specs.Entries.{bytes_of, symbol_at}
use Rattle.elf_read.proofs.Laws.Headers.{address_narrow}
use Rattle.elf_check.specs.Requires.{SoundObject}
use Rattle.instructions_fields.specs.declared.Field.{Field}
use Rattle.relocations_types.specs.declared.Calculation.{Calculation}
use Rattle.relocations_types.specs.declared.Rule.{Rule}
use Rattle.relocations_types.specs.declared.Decision.{Decision}
use Rattle.relocations_types.specs.declared.Decision.TheVariants.{Marker, Align, Store, Refused}
use Rattle.placing_symbols.specs.Values.{symbol_value}
use Rattle.relocations_rela.specs.declared.sites.Site.{Site}
use Rattle.relocations_rela.specs.Sites.{site_at, count, entry, decision_at, offset, P, found}
use Rattle.relocations_values.specs.Values.{S, T, value_at}
use Rattle.relocations_decisions.specs.Decisions.{takes_pair, is_store}
use Rattle.relocations_rela.specs.Shape.{end}
use Rattle.relocations_rules.specs.Rules.{symbol}
use Rattle.relocations_rules.specs.Search.{relocation_check}
use Rattle.relocations_rela.specs.Requires.{SoundSite, Placed}
use Rattle.relocations_rela.proofs.Laws.Sites.{sound_site, count_is}
use Rattle.relocations_rules.proofs.Laws.Rules.{place_below}
use Rattle.relocations_rules.proofs.Laws.Search.{counted, finding_entry, passed_kept}
use Rattle.relocations_bytes.specs.Patches.{patched}
use Rattle.relocations_bytes.specs.Sections.{stored, sum_at, distance_at, pair_distance, applied, after, rela_of, relocated}
use Rattle.relocations_bytes.specs.Requires.{Checked}
use Rattle.relocations_bytes.proofs.Laws.Patches.{same_patch}

module _ (object order addresses : List ℕ) (x : Site) (j : ℕ) (r : Relocation) (v : SymbolValue) (re : r ≡ entry object x j) (ve : v ≡ symbol_value object order addresses r.symbol) where
  -- stated for the relocation r and the value v that the code has read
  same_value : v ≡ value_at object order addresses x j
  same_value = ve ∙ ap (λ e. symbol_value object order addresses e.symbol) re

  pub sum_read : residue 64 (pos (S v) +ℤ signed 64 r.addend) ≡ residue 64 (sum_at object order addresses x j)
  unfolding sum_at
  sum_read = ap (λ v. residue 64 (pos (S v) +ℤ signed 64 r.addend)) same_value ∙ ap (λ e. residue 64 (pos (S (value_at object order addresses x j)) +ℤ signed 64 e.addend)) re

  abbrev w : ℕ
  w = address_width object

  pub distance_read : (t p : ℕ) → t ≡ T w (S v) (signed 64 r.addend) → p ≡ plus w x.address.0 r.offset.0 → minus w t p ≡ distance_at object order addresses x j
  unfolding distance_at minus plus residue
  distance_read t p te pe =
      let m : ℕ = x.address.0 + r.offset.0 in
      ap (minus w t) pe
      ∙ subst (λ k. minus w t (residue k (pos m)) ≡ residue w (pos t -ℤ pos m)) (zero-add w) (minus_residue 0 w t (pos m))
      ∙ ap (λ t. residue w (pos t -ℤ pos m)) te
      ∙ ap (λ v. residue w (pos (T w (S v) (signed 64 r.addend)) -ℤ pos m)) same_value
      ∙ ap (λ e. residue w (pos (T w (S (value_at object order addresses x j)) (signed 64 e.addend)) -ℤ pos (x.address.0 + e.offset.0))) re

-- the symbol of relocation j, stated for the table h and the relocation r that the code has read
pub symbol_read : (object : List ℕ) (x : Site) (j : ℕ) (r : Relocation) (h : Section) (y : Symbol) → r ≡ entry object x j → h ≡ section_at object (symbol_table object)
    → y ≡ symbol_at object h r.symbol → y ≡ symbol object x j
symbol_read object x j r h y re he ye =
    ye ∙ ap (λ h. symbol_at object h r.symbol) he ∙ ap (λ r. symbol_at object (section_at object (symbol_table object)) r.symbol) re

-- P of a store; addition modulo 2^w gives it
pub place_read : (object : List ℕ) (x : Site) (j : ℕ) (r : Relocation) (p : ℕ) → r ≡ entry object x j → p ≡ plus 64 x.address.0 r.offset.0 → SoundSite object x
    → end object x j ≤ x.target.size → is_store (decision_at object x j) ≡ true → p ≡ P object x j
unfolding plus
place_read object x j r p re pe f inside s =
    pe
    ∙ ap (λ r. plus 64 x.address.0 r.offset.0) re
    ∙ mod-eq_of_lt (omega (arith, place_below object x j f inside s, pow_mono (address_narrow object)))

-- ---- one relocation applied

module _ (object order addresses : List ℕ) (x : Site) (j : ℕ) where
  pub applied_store : (r : Rule) (s : List ℕ) → decision_at object x j ≡ Store r
      → applied object order addresses x j s
      ≡ sets s (offset object x j) (bytes r.size (patched (address_width object) r.calculation r.field (le_at r.size s (offset object x j)) (sum_at object order addresses x j) (P object x j) (pair_distance object order addresses x j)))
  unfolding applied
  applied_store r s e =
      ap (λ d. stored (address_width object) d (offset object x j) (sum_at object order addresses x j) (P object x j) (pair_distance object order addresses x j) s) e

  pub applied_marker : (s : List ℕ) → is_store (decision_at object x j) ≡ false → applied object order addresses x j s ≡ s
  unfolding applied
  applied_marker s e = go (decision_at object x j) e
    where
      go : (d : Decision) → is_store d ≡ false → stored (address_width object) d (offset object x j) (sum_at object order addresses x j) (P object x j) (pair_distance object order addresses x j) s ≡ s
      go (Store r) q = never (sym q)
      go Marker q = refl
      go Align q = refl
      go Refused q = refl

  -- Stated for what the code works out: b is the bytes as one number, y is S + A in two's complement, p is P, d is the pair's distance, and u
  -- is what is stored.
  pub applied_read : (r : Rule) (s : List ℕ) (b y p d u at : ℕ) → decision_at object x j ≡ Store r
      → at ≡ offset object x j → b ≡ le_at r.size s at → y < 2 ^ 64 → y ≡ residue 64 (sum_at object order addresses x j) → p ≡ P object x j
      → (takes_pair r.calculation ≡ true → d ≡ pair_distance object order addresses x j) → u ≡ patched (address_width object) r.calculation r.field b (signed 64 y) p d
      → sets s at (bytes r.size u) ≡ applied object order addresses x j s
  applied_read r s b y p d u at e ae be h ye pe de ue =
      let w : ℕ = address_width object in
      let n : ℕ = r.size in
      let c : Calculation = r.calculation in
      let f : Field = r.field in
      let z : ℤ = sum_at object order addresses x j in
      let same : residue 64 (signed 64 y) ≡ residue 64 z = residue_signed 64 y h ∙ ye in
      ap (λ u. sets s at (bytes n u)) ue
      ∙ ap (λ u. sets s at (bytes n u)) (same_patch w (address_narrow object) c f b (signed 64 y) z p d (pair_distance object order addresses x j) same de)
      ∙ ap (λ p. sets s at (bytes n (patched w c f b z p (pair_distance object order addresses x j)))) pe
      ∙ ap (λ b. sets s at (bytes n (patched w c f b z (P object x j) (pair_distance object order addresses x j)))) be
      ∙ ap (λ at. sets s at (bytes n (patched w c f (le_at n s at) z (P object x j) (pair_distance object order addresses x j)))) ae
      ∙ sym (applied_store r s e)

-- ---- the RELA section of a section

module _ (object order addresses : List ℕ) (f : SoundObject object) (p : Placed object addresses) (pass : relocation_check object order addresses ≡ Ok tt) where
  -- the relocations of a RELA section that counts break no rule
  pub checked : (i : ℕ) → i < section_count object → counting_rela object i ≡ true → Checked object order addresses (site_at object addresses i)
  checked i h e =
      record {
        site = sound_site object addresses f i h e p;
        kept = λ j l.
            let m : j < relocations_in object i = omega (arith, count_is object addresses f i h e) in
            sym (finding_entry object i j h m order addresses) ∙ passed_kept object order addresses pass _ (counted object i j h m);
      }

-- a RELA section that was found counts, and relocates the section
pub rela_found : (object : List ℕ) (t : ℕ) → rela_of object t < section_count object → (counting_rela object (rela_of object t) ≡ true) × ((section_at object (rela_of object t)).info ≡ t)
unfolding rela_of
rela_found object t h =
    let q : ℕ → Bool = λ i. counting_rela object i && eqb (section_at object i).info t in
    let both : q (first q (section_count object)) ≡ true = first_at q (section_count object) h in
    let i : ℕ = first q (section_count object) in
    (and_left (counting_rela object i) (eqb (section_at object i).info t) both, eqb-true _ _ (and_right (counting_rela object i) (eqb (section_at object i).info t) both))

pub relocated_some : (object order addresses : List ℕ) (t : ℕ) → rela_of object t < section_count object
    → relocated object order addresses t ≡ after object order addresses (site_at object addresses (rela_of object t)) (count object (site_at object addresses (rela_of object t)))
unfolding relocated
relocated_some object order addresses t h = rw (lt-ltb _ _ h)

pub relocated_none : (object order addresses : List ℕ) (t : ℕ) → section_count object ≤ rela_of object t → relocated object order addresses t ≡ bytes_of object (section_at object t)
unfolding relocated
relocated_none object order addresses t h = rw (le-ltb _ _ h)

-- the bytes that its site finds in the object are those of the section
pub found_target : (object addresses : List ℕ) (t : ℕ) → rela_of object t < section_count object → found object (site_at object addresses (rela_of object t)) ≡ bytes_of object (section_at object t)
unfolding site_at
found_target object addresses t h = ap (λ i. bytes_of object (section_at object i)) (rela_found object t h).1
