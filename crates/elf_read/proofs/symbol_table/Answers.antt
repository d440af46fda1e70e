-- `elf_read::symbol_table` meets its contract.
use mathlib.Core.Path.{◌≡◌, sym, ap, ◌∙◌}
use native.Mathlib.Omega.{arith}
use borrow.Author.Tests.{eq-eqb}
use Rattle.numbers_definitions.proofs.Laws.First.{first_is}
use Rattle.elf_read.specs.Headers.{section_count}
use Rattle.elf_read.specs.Sections.{symbol_table}
use Rattle.elf_read.proofs.symbol_table.Goals as goal

pub returns-then-read_section-eq-SYMTAB : goal.returns-then-read_section-eq-SYMTAB
unfolding symbol_table
returns-then-read_section-eq-SYMTAB c =
    let s = c.args.object.now in
    let at = c.loop-i in
    let count : c.section_count-n.result ≡ section_count s = c.section_count-n.ensures in
    sym (first_is _ (section_count s) at.i (omega arith) at.invariant (λ h. eq-eqb _ _ (sym (ap (λ h. h.kind) c.read_section.ensures) ∙ c.if-read_section-eq-SYMTAB.true)))

pub returns : goal.returns
unfolding symbol_table
returns c =
    let s = c.args.object.now in
    let count : c.section_count-n.result ≡ section_count s = c.section_count-n.ensures in
    count ∙ sym (first_is _ (section_count s) (section_count s) (omega arith) (λ j h. c.loop-i.invariant j (omega arith)) (λ h. absurd (omega arith)))
