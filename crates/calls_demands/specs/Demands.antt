-- The demands, stated for any install and any rollback.
use Rattle.std.specs.Prelude.{◌≡◌, false, List, [], ◌∷◌, ℕ, ◌≤◌, ◌<◌, length, get_or}
use Rattle.elf_read.specs.Headers.{class_of, section_count}
use Rattle.elf_read.specs.Sections.{section_at, allocated}
use Rattle.order_format.specs.Orders.{placement_count}
use Rattle.order_format.specs.Windows.{max_image}
use Rattle.plan_pieces.specs.declared.Span.{Span}
use Rattle.plan_pieces.specs.Plans.{span_of}
use Rattle.journal_format.specs.Journals.{count, Sound}
use Rattle.plan_pieces.specs.Answers.{Answer, done}
use Rattle.journal_history.specs.Calls.{Files, Call, InstallCall, RollbackCall, calling, answers, run}
use Rattle.journal_history.specs.Histories.{Standing, laid, Start, history_of, Kind, FilesAre, CallsAre, Holds}
use Rattle.journal_history.specs.Records.{Appended, Released}
use Rattle.calls_judgement.specs.Judgement.{judgement}
use Rattle.calls_demands.specs.Rules.{Rules}
use Rattle.calls_demands.specs.First.{Checks, none, one, AllHold, FirstBroken, table}
use Rattle.calls_demands.specs.Laid.{IsSpan, Laid}

-- "A taking-back checks 1, 3 (length only), 16."
unfoldable pub rollback_table : Files → Checks
rollback_table f = one 1 (Sound f.journal (length f.image)) (one 3 (length f.image ≤ max_image) (one 16 (0 < count f.journal) none))

-- "Any object, order, slot image and ledger, of any bytes and any length, gets an answer in the end": this holds because
-- both calls are functions on all lists.
pub record Demand1 (installs : InstallCall) (rollsBack : RollbackCall) : Type 0 where
  -- "A refusal gives its number and place from document 01,"
  pub install_refused : (object order : List ℕ) (f : Files) → ((installs object order f).answer ≡ done → ⊥)
      → FirstBroken (table object order f) (installs object order f).answer
  pub rollback_refused : (f : Files) → ((rollsBack f).answer ≡ done → ⊥) → FirstBroken (rollback_table f) (rollsBack f).answer
  -- for a taking-back, "given exactly when"; for a fit, demand 2 says so
  pub rollback_holds : (f : Files) → (rollsBack f).answer ≡ done → AllHold (rollback_table f)
  pub rollback_done : (f : Files) → AllHold (rollback_table f) → (rollsBack f).answer ≡ done
  pub rollback_first : (f : Files) (a : Answer) → FirstBroken (rollback_table f) a → (rollsBack f).answer ≡ a
  -- "and image and ledger then hold exactly the bytes they held."
  pub install_kept : (object order : List ℕ) (f : Files) → ((installs object order f).answer ≡ done → ⊥) → (installs object order f).after ≡ f
  pub rollback_kept : (f : Files) → ((rollsBack f).answer ≡ done → ⊥) → (rollsBack f).after ≡ f

pub record Demand2 (installs : InstallCall) : Type 0 where
  -- "A fit is done exactly when every rule of document 01 holds;"
  pub done_holds : (object order : List ℕ) (f : Files) → (installs object order f).answer ≡ done → Rules object order f
  pub holds_done : (object order : List ℕ) (f : Files) → Rules object order f → (installs object order f).answer ≡ done
  -- "otherwise the first broken rule is named."
  pub refused_first : (object order : List ℕ) (f : Files) → ((installs object order f).answer ≡ done → ⊥)
      → FirstBroken (table object order f) (installs object order f).answer
  pub first_refused : (object order : List ℕ) (f : Files) (a : Answer) → FirstBroken (table object order f) a → (installs object order f).answer ≡ a
  -- "Once done, each laid byte is the object's own or the field that the RISC-V ELF psABI 1.0 asks for. .. No other image byte changes."
  pub laid : (object order : List ℕ) (f : Files) → (installs object order f).answer ≡ done → Laid object order f.image (installs object order f).after.image
  -- "An order without placements fits only an object with nothing to place."
  pub nothing_to_place : (object order : List ℕ) (f : Files) → (installs object order f).answer ≡ done → placement_count (class_of object) order ≡ 0
      → (t : ℕ) → t < section_count object → allocated (section_at object t) ≡ false

-- Document 01, "Ledger": what a call that is done leaves there
pub record Journalled (installs : InstallCall) (rollsBack : RollbackCall) : Type 0 where
  -- "A fit appends the span's old bytes."
  pub appends : (object order : List ℕ) (f : Files) → (installs object order f).answer ≡ done
      → (s : Span) × IsSpan object order s × Appended f (installs object order f).after s
  -- "A taking-back writes them back, zeroes the entry and the released bytes, and lowers n and k."
  pub releases : (f : Files) → (rollsBack f).answer ≡ done → Released f (rollsBack f).after

-- ---- demand 3: "Start with any image of allowed length and any sound ledger in which no fit stands. .. For every list of fits and
-- takings-back from there, refused ones included, the following holds after it." The history goes by document 01's judgement.

-- "with its span and its laid bytes as demand 2 gives them": each fit that stands, the newest first, over what those before it left
abbrev pub StandAsLaid : List ℕ → List Standing → Type 0
StandAsLaid start [] = Unit {0}
StandAsLaid start (x ∷ older) =
    Laid x.object x.order (laid start older) (laid start (x ∷ older)) × IsSpan x.object x.order (span_of x.pieces) × StandAsLaid start older

-- what holds after a list of calls, where `got` is the answers and `left` the files as they are then
pub record AfterCalls (installs : InstallCall) (rollsBack : RollbackCall) (K : Kind) (start : Files) (calls : List Call) (got : List Answer) (left : Files) : Type 0 where
  pub holds : Holds (calling installs rollsBack) judgement K start calls got left
  pub stand_as_laid : StandAsLaid start.image (history_of judgement start calls).standing

abbrev pub Demand3 : Kind → InstallCall → RollbackCall → Type 0
Demand3 K installs rollsBack =
    (start : Files) → FilesAre K start → Start start → (calls : List Call) → CallsAre K calls
    → AfterCalls installs rollsBack K start calls (answers (calling installs rollsBack) start calls) (run (calling installs rollsBack) start calls)

-- ---- all of it

-- the two kinds of lists: any list, and a list of bytes
abbrev pub AnyList : Kind
AnyList s = Unit {0}

abbrev pub AreBytes : Kind
AreBytes s = (i : ℕ) → get_or s i 0 < 256

-- What is said of each call by itself. `Only` shows that two pairs of calls that meet it never differ on bytes, and `Follows` shows that
-- such a pair meets demand 3 on bytes.
pub record Meets (installs : InstallCall) (rollsBack : RollbackCall) : Type 0 where
  pub demand_1 : Demand1 installs rollsBack
  pub demand_2 : Demand2 installs
  pub journalled : Journalled installs rollsBack
  -- if all that is given is bytes, all that is left is bytes
  pub install_bytes : (object order : List ℕ) (f : Files) → AreBytes object → FilesAre AreBytes f → FilesAre AreBytes (installs object order f).after
  pub rollback_bytes : (f : Files) → FilesAre AreBytes f → FilesAre AreBytes (rollsBack f).after

-- everything that is promised of two calls
pub record Promised (installs : InstallCall) (rollsBack : RollbackCall) : Type 0 where
  pub each : Meets installs rollsBack
  pub every_list : Demand3 AnyList installs rollsBack
