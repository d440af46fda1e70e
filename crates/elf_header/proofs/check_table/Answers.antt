-- `elf_header::check_table` meets its contract.
use Prim.Native.Nat.{◌≤◌, ◌<◌}
use native.Mathlib.Omega.{arith}
use borrow.Author.Tests.{le-leb, lt-leb}
use Rattle.numbers_definitions.proofs.Laws.Tests.{and_true, and_false}
use Rattle.elf_read.specs.Headers.{section_count, max_sections}
use Rattle.elf_header.specs.Headers.{table_allowed}
use Rattle.elf_header.proofs.check_table.Goals as goal

pub returns-then-n-gt-MAX_SECTIONS : goal.returns-then-n-gt-MAX_SECTIONS
unfolding table_allowed
returns-then-n-gt-MAX_SECTIONS c =
    let many : max_sections < section_count c.args.object.now = omega (arith, c.section_count-n.ensures) in
    simp (lt-leb _ _ many, and_false)

pub returns : goal.returns
unfolding table_allowed
returns c =
    let few : section_count c.args.object.now ≤ max_sections = omega (arith, c.section_count-n.ensures) in
    rw (c.ends_within.ensures, c.from.ensures, c.read.ensures, c.by.ensures, c.section_size-size.ensures, c.class_of-class.ensures, c.section_table-start.ensures, c.section_count-n.ensures, le-leb _ _ few, and_true)
