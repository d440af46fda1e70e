-- `tests_readings::objects::body` is safe and ends.
use Rattle.std.proofs.Common.{sym, ◌∙◌, leb-true}
use Rattle.tests_readings.proofs.objects.body.Goals as goal

pub section_bytes-requires : goal.section_bytes-requires
section_bytes-requires c =
    record { inside = leb-true _ _ (sym c.ends_within.ensures ∙ c.if-not-ends_within.false) }
