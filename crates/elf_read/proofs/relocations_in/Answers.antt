-- `elf_read::relocations_in` meets its contract.
use mathlib.Core.Path.{◌≡◌, sym, ap, ◌∙◌}
use mathlib.Core.Bool.{true, false}
use Rattle.elf_read.specs.Headers.{class_of}
use Rattle.elf_read.specs.Sections.{counting_rela, relocation_entries, relocations_in}
use Rattle.elf_read.proofs.relocations_in.Goals as goal

pub returns-then-is_counting_rela : goal.returns-then-is_counting_rela
unfolding relocations_in
returns-then-is_counting_rela c =
    let s = c.args.object.now in
    let counts : counting_rela s c.args.i ≡ true = sym c.is_counting_rela.ensures ∙ c.if-is_counting_rela.true in
    rw counts (c.relocation_entries.ensures ∙ ap (relocation_entries (class_of s)) c.read_section.ensures)

pub returns-else-is_counting_rela : goal.returns-else-is_counting_rela
unfolding relocations_in
returns-else-is_counting_rela c =
    let counts : counting_rela c.args.object.now c.args.i ≡ false = sym c.is_counting_rela.ensures ∙ c.if-is_counting_rela.false in
    rw counts
