-- `tests_readings::objects::line` is safe and ends.
use Rattle.std.proofs.Common.{sym, ◌∙◌}
use Rattle.tests_readings.proofs.objects.line.Goals as goal

pub check_sections-requires : goal.check_sections-requires
check_sections-requires g c = sym c.check_header.ensures ∙ c.if-check_header.true
