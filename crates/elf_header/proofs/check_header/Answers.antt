-- `elf_header::check_header` meets its contract.
use mathlib.Core.Path.{◌≡◌, ap, ◌∙◌}
use Prim.Native.Nat.{◌≤◌}
use native.Mathlib.Omega.{arith}
use lib.ListN.{length}
use Rattle.numbers_definitions.proofs.Laws.Bytes.{le_at_one}
use borrow.Author.Tests.{le-leb, lt-leb}
use Rattle.elf_read.specs.Headers.{class_of, header_size}
use Rattle.elf_read.proofs.Laws.Headers.{header_missing}
use Rattle.elf_header.specs.Headers.{header_allowed}
use Rattle.elf_header.proofs.check_header.Goals as goal
use Rattle.elf_header.proofs.check_header.Goals.{After-header_size-2}

-- the size that the header must have
sized : (c : After-header_size-2) → c.header_size-2.result ≡ header_size (class_of c.args.object.now)
sized c = c.header_size-2.ensures ∙ ap header_size c.class_of.ensures

pub returns-then-object-gt-MAX_OBJECT : goal.returns-then-object-gt-MAX_OBJECT
unfolding header_allowed
returns-then-object-gt-MAX_OBJECT c = rw (lt-leb _ _ c.if-object-gt-MAX_OBJECT.true)

pub returns-then-object-header_size : goal.returns-then-object-header_size
unfolding header_allowed
returns-then-object-header_size c =
    rw (le-leb _ _ c.if-object-gt-MAX_OBJECT.false, lt-leb _ _ (header_missing c.args.object.now (omega (arith, c.header_size.ensures))))

pub returns-then-object-header_size-2 : goal.returns-then-object-header_size-2
unfolding header_allowed
returns-then-object-header_size-2 c =
    rw (le-leb _ _ c.if-object-gt-MAX_OBJECT.false, ← sized (goal.at.returns-then-object-header_size-2 c).After-header_size-2, lt-leb _ _ c.if-object-header_size-2.true)

pub returns : goal.returns
unfolding header_allowed
returns c =
    let s = c.args.object.now in
    let long : header_size (class_of s) ≤ length s = omega (arith, sized (goal.at.returns c).After-header_size-2) in
    rw (le-leb _ _ c.if-object-gt-MAX_OBJECT.false, le-leb _ _ long, le_at_one s 4, le_at_one s 5, le_at_one s 6, c.is_size_said.ensures, c.read-4.ensures, c.read-3.ensures, c.read-2.ensures, c.read.ensures)
