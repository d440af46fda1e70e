-- `tests_readings::objects::check_sections` is safe and ends: an object that passes checks 4 and 5 is sound.
use Rattle.std.proofs.Common.{sym, ◌∙◌}
use Rattle.elf_header.proofs.Laws.Headers.{header_long}
use Rattle.elf_check.proofs.Laws.Objects.{sound_object}
use Rattle.tests_readings.proofs.objects.check_sections.Goals as goal

pub check_sections-requires : goal.check_sections-requires
check_sections-requires g c = header_long _ c.requires

pub passed-requires : goal.passed-requires
passed-requires g c =
    sound_object _ c.requires (sym c.check_sections.ensures ∙ c.in-Ok.is)
