-- Laws of the header and of the table.
use mathlib.Core.Path.{◌≡◌}
use mathlib.Core.Bool.{true}
use mathlib.Core.List.{List}
use Prim.Native.Nat.{ℕ, ◌+◌, ◌*◌, ◌≤◌}
use lib.ListN.{length}
use lib.Dec.{leb, eqb}
use borrow.Author.Tests.{leb-true, eq-eqb, eqb-true, le-leb}
use Rattle.numbers_definitions.proofs.Laws.Tests.{and_left, and_right}
use Rattle.numbers_definitions.specs.Bytes.{le_at}
use Rattle.numbers_definitions.specs.Classes.{by}
use Rattle.elf_read.specs.Headers.{class_of, header_size, section_size, section_table, section_count, max_sections}
use Rattle.elf_read.specs.Requires.{HeaderInside, TableInside}
use Rattle.elf_header.specs.Headers.{max_object, header_allowed, table_allowed}

-- ---- the header

pub header_long : (s : List ℕ) → header_allowed s ≡ true → HeaderInside s
unfolding header_allowed
header_long s e = let long : leb (header_size (class_of s)) (length s) ≡ true = search (and_left, and_right) depth 12 in leb-true _ _ long

pub header_short : (s : List ℕ) → header_allowed s ≡ true → length s ≤ max_object
unfolding header_allowed
header_short s e = let short : leb (length s) max_object ≡ true = search (and_left, and_right) depth 12 in leb-true _ _ short

-- ---- the table

pub table_inside : (s : List ℕ) → HeaderInside s → table_allowed s ≡ true → TableInside s
unfolding table_allowed
table_inside s h e =
    let few : leb (section_count s) max_sections ≡ true = search (and_left, and_right) in
    let inside : leb (section_table s + section_size (class_of s) * section_count s) (length s) ≡ true = search (and_left, and_right) in
    record { header = h; few = leb-true _ _ few; inside = leb-true _ _ inside }

pub table_entries : (s : List ℕ) → table_allowed s ≡ true → le_at 2 s (by (class_of s) 46 58) ≡ section_size (class_of s)
unfolding table_allowed
table_entries s e = let entries : eqb (le_at 2 s (by (class_of s) 46 58)) (section_size (class_of s)) ≡ true = search (and_left, and_right) in eqb-true _ _ entries

pub table_some : (s : List ℕ) → table_allowed s ≡ true → 1 ≤ section_count s
unfolding table_allowed
table_some s e = let some : leb 1 (section_count s) ≡ true = search (and_left, and_right) in leb-true _ _ some

pub allowed_table : (s : List ℕ) → le_at 2 s (by (class_of s) 46 58) ≡ section_size (class_of s) → 1 ≤ section_count s → TableInside s → table_allowed s ≡ true
unfolding table_allowed
allowed_table s e some t = rw (eq-eqb _ _ e, le-leb _ _ some, le-leb _ _ t.few, le-leb _ _ t.inside)
