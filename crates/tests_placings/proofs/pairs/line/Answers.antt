-- `tests_placings::pairs::line` is safe and ends.
use mathlib.Core.Path.{sym, ◌∙◌}
use Rattle.tests_placings.proofs.pairs.line.Goals as goal

pub read-requires : goal.read-requires
read-requires g c = sym c.check_header.ensures ∙ c.if-check_header.true
