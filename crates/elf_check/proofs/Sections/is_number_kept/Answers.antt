-- `elf_check::Sections::is_number_kept` meets its contract.
use mathlib.Core.Path.{sym, ◌∙◌}
use native.Mathlib.Numerals.{add-one}
use Rattle.elf_check.specs.Rules.{relocations_kept}
use Rattle.elf_check.proofs.Laws.Tables.{number_kept}
use Rattle.elf_check.proofs.Sections.is_number_kept.Goals as goal

pub returns-then-self : goal.returns-then-self
returns-then-self c =
    sym (number_kept c.args.self.now.object.now c.args.i c.requires (sym c.args.self.now.few_is ∙ c.if-self.true))

pub returns : goal.returns
unfolding relocations_kept
returns c = rw (c.relocations_within.ensures, add-one)
