-- `elf_read::symbol_count` meets its contract.
use mathlib.Core.Path.{ap, ◌∙◌}
use Prim.Native.Nat.{◌≤◌, ◌<◌}
use native.Mathlib.Omega.{arith}
use borrow.Author.Tests.{lt-ltb, le-ltb}
use Rattle.elf_read.specs.Headers.{class_of, section_count}
use Rattle.elf_read.specs.Sections.{section_at, symbol_table}
use Rattle.elf_read.specs.Entries.{symbol_entries, symbol_count}
use Rattle.elf_read.proofs.symbol_count.Goals as goal

pub returns-then-table-section_count : goal.returns-then-table-section_count
unfolding symbol_count
returns-then-table-section_count c =
    let s = c.args.object.now in
    let there : symbol_table s < section_count s = omega arith in
    rw (lt-ltb _ _ there) (c.symbol_entries.ensures ∙ ap (symbol_entries (class_of s)) c.read_section.ensures ∙ ap (λ i. symbol_entries (class_of s) (section_at s i)) c.symbol_table-table.ensures)

pub returns-else-table-section_count : goal.returns-else-table-section_count
unfolding symbol_count
returns-else-table-section_count c =
    let s = c.args.object.now in
    let out : section_count s ≤ symbol_table s = omega arith in
    rw (le-ltb _ _ out)
