-- `tests_rollbacks::saved` is safe and ends.
use mathlib.Core.Path.{sym, ◌∙◌}
use native.Mathlib.Omega.{arith}
use borrow.Author.Tests.{not-true}
use Rattle.journal_history.proofs.Laws.Install.{savable}
use Rattle.tests_rollbacks.proofs.saved.Goals as goal

pub save-requires : goal.save-requires
save-requires c =
    savable _ _ _ (sym c.is_sound.ensures ∙ c.if-not-is_sound.false)
    (sym c.length_allowed.ensures ∙ c.if-not-length_allowed.false)
    (not-true _ (sym c.has_room.ensures ∙ c.if-not-has_room.false)) (omega arith)
