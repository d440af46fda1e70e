-- The number and the place of each answer of `rollback`.
use Rattle.std.specs.Prelude.{⊤, Result, Ok, Err}
use Rattle.plan_pieces.specs.Answers.{Answer, done}
use Rattle.journal_history.specs.Calls.{journal_unsound, window_broken, none_stands}
use Rattle.journal_undo.specs.declared.RollbackRefusal.{RollbackRefusal}
use Rattle.journal_undo.specs.declared.RollbackRefusal.TheVariants.{JournalUnsound, ImageTooLong, NothingStands}

abbrev pub answer_of : Result ⊤ RollbackRefusal → Answer
answer_of (Ok _) = done
answer_of (Err JournalUnsound) = journal_unsound
answer_of (Err ImageTooLong) = window_broken
answer_of (Err NothingStands) = none_stands
