-- `journal_format::has_room` meets its contract.
use Prim.Native.Nat.{ℕ, ◌+◌}
use mathlib.Core.List.{List}
use lib.ListN.{length}
use borrow.Author.Tests.{lt-ltb}
use native.Mathlib.Omega.{arith}
use Rattle.numbers_definitions.proofs.Laws.Tests.{or_true}
use Rattle.journal_format.specs.Journals.{old_at, held, no_room}
use Rattle.journal_format.proofs.has_room.Goals as goal

pub returns-then-journal-lt-OLD_AT : goal.returns-then-journal-lt-OLD_AT
unfolding no_room
returns-then-journal-lt-OLD_AT c =
    let j : List ℕ = c.args.journal.now in
    rw (lt-ltb (length j) (old_at + held j + c.args.size) (omega arith), or_true)

pub returns : goal.returns
unfolding no_room
returns c = cc
