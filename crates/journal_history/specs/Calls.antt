-- What the two calls answer, and what they leave: an install (document 01: a fit) by any judgement, and a rollback (a taking-back).
use Rattle.std.specs.Prelude.{ℕ, cond, not, List, [], ◌∷◌, length, eqb}
use Rattle.order_format.specs.Windows.{length_allowed}
use Rattle.plan_pieces.specs.Answers.{Answer, says, done}
use Rattle.plan_pieces.specs.Plans.{Piece, Verdict, refused, plan, Judge, overwritten, span_of}
use Rattle.journal_format.specs.Journals.{count, held, sound, no_room}
use Rattle.journal_history.specs.Writes.{saved, restoring, releasing}

-- ---- answers: document 01, "When the fitter says no"

-- "ledger unsound"
abbrev pub journal_unsound : Answer
journal_unsound = says 1 0

-- "window rule broken"
abbrev pub window_broken : Answer
window_broken = says 3 0

-- "n is 16, or 136 + k + span above ledger length"
abbrev pub journal_full : Answer
journal_full = says 15 0

-- "no fit stands (taking-back only)"
abbrev pub none_stands : Answer
none_stands = says 16 0

-- ---- what a call is handed, and leaves

pub record Files : Type 0 where
  pub image : List ℕ
  pub journal : List ℕ

abbrev pub files : List ℕ → List ℕ → Files
files image journal = record { image = image; journal = journal }

-- an answer, and what is there after the call
pub record Outcome (S : Type 0) : Type 0 where
  pub answer : Answer
  pub after : S

-- "Every number but 0 keeps image and ledger byte for byte."
abbrev pub refuse : {S : Type 0} → Answer → S → Outcome S
refuse a s = record { answer = a; after = s }

abbrev pub succeed : {S : Type 0} → S → Outcome S
succeed s = record { answer = done; after = s }

-- ---- an install: check 1, the judgement, check 15

-- the span's old bytes are recorded, and the pieces laid
unfoldable pub installed : List Piece → Files → Files
installed ps f =
    record { image = overwritten f.image ps; journal = saved f.image f.journal (span_of ps) }

-- an install whose journal is sound, by the verdict of the judgement
unfoldable pub settle : Files → Verdict → Outcome Files
settle f (refused a) = refuse a f
settle f (plan ps) =
    cond (no_room (count f.journal) (held f.journal) (span_of ps).size (length f.journal))
    (refuse journal_full f)
    (succeed (installed ps f))

unfoldable pub install : Judge → List ℕ → List ℕ → Files → Outcome Files
install judge object order f =
    cond (not (sound f.journal (length f.image)))
    (refuse journal_unsound f)
    (settle f (judge object order (length f.image)))

-- ---- a rollback: "checks 1, 3 (length only), 16"

-- the newest span's old bytes are written back, and the journal released
unfoldable pub rolled_back : Files → Files
rolled_back f =
    record { image = overwritten f.image (restoring f.journal); journal = overwritten f.journal (releasing f.journal) }

unfoldable pub rollback : Files → Outcome Files
rollback f =
    cond (not (sound f.journal (length f.image))) (refuse journal_unsound f)
    (cond (not (length_allowed (length f.image))) (refuse window_broken f)
    (cond (eqb (count f.journal) 0) (refuse none_stands f)
    (succeed (rolled_back f))))

-- ---- lists of calls

-- "A fit in it comes with any object and any order, a taking-back with nothing more."
pub data Call : Type 0 where
  Install : List ℕ → List ℕ → Call
  Rollback : Call

-- any install and any rollback: each gives an answer, and leaves an image and a journal
abbrev pub InstallCall : Type 0
InstallCall = List ℕ → List ℕ → Files → Outcome Files

abbrev pub RollbackCall : Type 0
RollbackCall = Files → Outcome Files

-- a call, made by a given install and a given rollback
unfoldable pub calling : InstallCall → RollbackCall → Files → Call → Outcome Files
calling installs rollsBack f (Install object order) = installs object order f
calling installs rollsBack f Rollback = rollsBack f

-- a call, made by the install and the rollback defined above
abbrev pub call : Judge → Files → Call → Outcome Files
call judge = calling (install judge) rollback

-- "Each call gets image and ledger as the one before it left them": the answers, and what is there at the end
unfoldable pub answers : {S : Type 0} → (S → Call → Outcome S) → S → List Call → List Answer
answers step s [] = []
answers step s (c ∷ cs) = (step s c).answer ∷ answers step (step s c).after cs

unfoldable pub run : {S : Type 0} → (S → Call → Outcome S) → S → List Call → S
run step s [] = s
run step s (c ∷ cs) = run step (step s c).after cs
