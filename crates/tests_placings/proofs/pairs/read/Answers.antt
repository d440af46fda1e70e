-- `tests_placings::pairs::read` is safe and ends: an object that passes check 4 has a header.
use mathlib.Core.Path.{◌∙◌}
use Rattle.elf_read.proofs.Laws.Headers.{header_there}
use Rattle.elf_header.proofs.Laws.Headers.{header_long}
use Rattle.tests_placings.proofs.pairs.read.Goals as goal

pub class_of-requires : goal.class_of-requires
class_of-requires g c = header_there _ (header_long _ c.requires)

pub sections-requires : goal.sections-requires
sections-requires g c = (c.requires, c.in-Some.ensures.0 ∙ c.class_of.ensures)
