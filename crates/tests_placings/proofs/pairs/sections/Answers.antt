-- `tests_placings::pairs::sections` is safe and ends: an object that passes checks 4 and 5 is sound, and a window that passes check 3 is short.
use mathlib.Core.Path.{◌≡◌, sym, ◌∙◌}
use mathlib.Core.Bool.{true}
use borrow.Author.Tests.{leb-true}
use Rattle.numbers_definitions.specs.Classes.{bits}
use Rattle.numbers_definitions.proofs.Laws.Tests.{and_left}
use Rattle.elf_header.proofs.Laws.Headers.{header_long}
use Rattle.elf_check.proofs.Laws.Objects.{sound_object}
use Rattle.order_format.specs.Windows.{length_allowed, window_allowed}
use Rattle.tests_placings.proofs.pairs.sections.Goals as goal

pub check_sections-requires : goal.check_sections-requires
check_sections-requires g c = header_long _ c.requires.0

pub placements-requires : goal.placements-requires
unfolding window_allowed length_allowed
placements-requires g c =
    let allowed : window_allowed (bits c.args.order.now.class) c.args.order.now.counts.base.0 c.args.len ≡ true = sym c.window_allowed.ensures ∙ c.if-not-window_allowed.false in (
      sound_object _ c.requires.0 (sym c.check_sections.ensures ∙ c.in-Ok.is),
      c.requires.1,
      leb-true _ _ (and_left (length_allowed c.args.len) _ allowed),
    )
