-- Addends in two's complement.
use mathlib.Core.Path.{◌≡◌, refl, sym, ap, ◌∙◌}
use mathlib.Core.Bool.{true, false, not, ◌&&◌, ◌||◌}
use mathlib.Core.List.{List}
use Prim.Native.Nat.{ℕ, suc, ◌+◌, ◌-◌, ◌*◌, ◌%◌, ◌^◌, ◌≤◌, ◌<◌}
use native.Mathlib.Omega.{arith}
use native.Mathlib.Decide.{dec_lt}
use lib.Dec.{leb, eqb}
use lib.IntN.{ℤ, pos, negsuc, nat_abs}
use borrow.Author.Tests.{lt-ltb, le-ltb, le-leb, lt-leb, ne_eqb}
use Rattle.numbers_definitions.specs.declared.Class.{Class}
use Rattle.numbers_definitions.specs.declared.Class.TheVariants.{Elf32, Elf64}
use Rattle.numbers_definitions.specs.Classes.{bits, address_bytes}
use Rattle.numbers_definitions.specs.Bytes.{le_at}
use Rattle.numbers_definitions.specs.Whole.{residue, signed, within, even}
use Rattle.numbers_definitions.proofs.Laws.Whole.{sub_back, signed_residue, residue_signed}
use Rattle.numbers_definitions.proofs.Laws.Tests.{never}
use Rattle.elf_read.specs.Headers.{class_of, address_width, relocation_size}
use Rattle.elf_read.specs.Entries.{read_relocation, relocation_at}
use Rattle.relocations_types.specs.declared.Decision.{Decision}
use Rattle.relocations_types.specs.declared.Decision.TheVariants.{Marker, Align, Store, Refused}
use Rattle.relocations_decisions.specs.Decisions.{is_store, needs_pair}
use Rattle.relocations_rela.specs.declared.sites.Site.{Site}
use Rattle.relocations_rela.specs.Sites.{A}
use Rattle.relocations_rela.specs.Shape.{addend_well}

-- a number in the lower half of the numbers of w bits keeps its value, and the others are negative
pub signed_low : (w a : ℕ) → 2 * a < 2 ^ w → signed w a ≡ pos a
unfolding signed
signed_low w a h = rw (lt-ltb (2 * a) (2 ^ w) h)

pub signed_high : (w a : ℕ) → 2 ^ w ≤ 2 * a → a < 2 ^ w → signed w a ≡ negsuc (2 ^ w - suc a)
unfolding signed
signed_high w a h b = rw (le-ltb (2 * a) (2 ^ w) h) (sub_back a (2 ^ w) b)

-- A is the third number of the relocation's entry, as a signed number. The code keeps it in 64 bits, and that loses nothing.
wider : (c : Class) (u : ℕ) → u < 2 ^ bits c → signed 64 (residue 64 (signed (bits c) u)) ≡ signed (bits c) u
wider Elf64 u h = ap (signed 64) (residue_signed 64 u h)
wider Elf32 u h = go (dec_lt (2 * u) (2 ^ 32))
  where
    go : Dec (2 * u < 2 ^ 32) → signed 64 (residue 64 (signed 32 u)) ≡ signed 32 u
    go (yes l) = rw (signed_low 32 u l) (signed_residue 64 (pos u) (omega arith))
    go (no l) = rw (signed_high 32 u (omega arith) h) (signed_residue 64 (negsuc (2 ^ 32 - suc u)) (omega arith))

-- the third number of entry j
abbrev third : List ℕ → Site → ℕ → ℕ
third object x j =
    le_at (address_bytes (class_of object)) object (x.rela.offset.0 + relocation_size (class_of object) * j + 2 * address_bytes (class_of object))

pub addend_is_lem : (object : List ℕ) (x : Site) (j : ℕ) → third object x j < 2 ^ address_width object → A object x j ≡ signed (address_width object) (third object x j)
unfolding relocation_at read_relocation
addend_is_lem object x j h = wider (class_of object) (third object x j) h

-- ---- ALIGN

pub padding_refused : (at size a : ℕ) → 4094 < a → a < 2 ^ 64 → addend_well Align at size (signed 64 a) ≡ false
unfolding within
padding_refused at size a h b = go (dec_lt (2 * a) (2 ^ 64))
  where
    go : Dec (2 * a < 2 ^ 64) → addend_well Align at size (signed 64 a) ≡ false
    go (yes l) = rw (signed_low 64 a l, lt-leb a 4094 h)
    go (no l) =
        let none : leb (suc (2 ^ 64 - suc a)) 0 ≡ false = lt-leb (suc (2 ^ 64 - suc a)) 0 (omega arith) in
        rw (signed_high 64 a (omega arith) b, none)

pub padded_addend : (at size a : ℕ) → addend_well Align at size (signed 64 a) ≡ true → a < 2 ^ 64 → a ≤ 4094
padded_addend at size a kept b = go (dec_lt 4094 a)
  where
    go : Dec (4094 < a) → a ≤ 4094
    go (no l) = omega arith
    go (yes l) = never (sym (padding_refused at size a l b) ∙ kept)

pub padding_is : (at size a : ℕ) → a ≤ 4094 → addend_well Align at size (signed 64 a) ≡ (eqb (a % 2) 0 && leb (at + a) size)
unfolding within even
padding_is at size a h =
    let low : 2 * a < 2 ^ 64 = omega arith in
    rw (signed_low 64 a low, le-leb a 4094 h)

-- ---- PCREL_LO12

pub zero_is : (a : ℕ) → a < 2 ^ 64 → eqb (nat_abs (signed 64 a)) 0 ≡ eqb a 0
zero_is a b = go (dec_lt (2 * a) (2 ^ 64))
  where
    go : Dec (2 * a < 2 ^ 64) → eqb (nat_abs (signed 64 a)) 0 ≡ eqb a 0
    go (yes l) = rw (signed_low 64 a l)
    go (no l) =
        let some : a ≡ 0 → ⊥ = λ e. omega arith in
        let other : eqb (suc (2 ^ 64 - suc a)) 0 ≡ false = ne_eqb (suc (2 ^ 64 - suc a)) 0 (λ e. omega arith) in
        rw (signed_high 64 a (omega arith) b, ne_eqb a 0 some, other)

pub store_addend : (d : Decision) (at size : ℕ) (a : ℤ) → is_store d ≡ true → addend_well d at size a ≡ (not (needs_pair d) || eqb (nat_abs a) 0)
store_addend (Store r) at size a e = refl
store_addend Marker at size a e = cc
store_addend Align at size a e = cc
store_addend Refused at size a e = cc
