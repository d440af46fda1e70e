-- `elf_read::is_allocated_section` meets its contract.
use mathlib.Core.Path.{ap, ◌∙◌}
use Prim.Native.Nat.{◌≤◌, ◌<◌}
use native.Mathlib.Omega.{arith}
use borrow.Author.Tests.{lt-ltb, le-ltb}
use Rattle.elf_read.specs.Headers.{section_count}
use Rattle.elf_read.specs.Sections.{allocated, is_allocated}
use Rattle.elf_read.proofs.is_allocated_section.Goals as goal

pub returns-then-at-section_count : goal.returns-then-at-section_count
unfolding is_allocated
returns-then-at-section_count c =
    let a = c.args in
    let there : a.i < section_count a.object.now = omega arith in
    rw (lt-ltb _ _ there) (c.is_allocated.ensures ∙ ap allocated c.read_section.ensures)

pub returns-else-at-section_count : goal.returns-else-at-section_count
unfolding is_allocated
returns-else-at-section_count c =
    let a = c.args in
    let out : section_count a.object.now ≤ a.i = omega arith in
    rw (c.section_count.ensures, le-ltb _ _ out)
