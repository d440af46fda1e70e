-- `journal_undo::undo` meets its contract.
use mathlib.Core.Path.{◌≡◌}
use Prim.Native.Nat.{ℕ, ◌+◌, ◌≤◌}
use mathlib.Core.List.{List}
use lib.ListN.{length}
use Rattle.plan_pieces.specs.declared.Span.{Span}
use Rattle.journal_format.specs.Journals.{old_at, blank}
use Rattle.journal_history.proofs.Laws.Rollback.{newest_safe, newest_undone}
use native.Mathlib.Omega.{arith}
use Rattle.journal_undo.proofs.undo.Goals as goal
use Rattle.journal_undo.proofs.undo.Goals.{After-held}

abbrev image : After-held → List ℕ
image c = c.args.image.now

abbrev journal : After-held → List ℕ
journal c = c.args.journal.now

abbrev span : After-held → Span
span c = c.read_entry-span.result

abbrev n : After-held → ℕ
n c = c.count-i.result

abbrev k : After-held → ℕ
k c = c.held.result

-- the span's old bytes lie in the journal, and it lies in the image
safe : (c : After-held) → ((span c).size ≤ k c) × ((span c).start + (span c).size ≤ length (image c)) × (old_at + k c ≤ length (journal c))
safe c = newest_safe (image c) (journal c) (n c) (span c) (k c) c.count-i.ensures c.read_entry-span.ensures c.held.ensures c.requires

pub overflow_sub-k : goal.overflow_sub-k
overflow_sub-k c = (safe (goal.at.overflow_sub-k c).After-held).0

pub copy-requires : goal.copy-requires
copy-requires c = let h = safe (goal.at.copy-requires c).After-held in (h.1, omega arith)

pub clear-requires : goal.clear-requires
clear-requires c = let h = safe (goal.at.clear-requires c).After-held in omega arith

pub returns : goal.returns
returns c =
    let zero : c.default.result ≡ blank = λ i. record { start = c.default.ensures.0 i; size = c.default.ensures.1 i } in
    newest_undone (image (goal.at.returns c).After-held) (journal (goal.at.returns c).After-held) (n (goal.at.returns c).After-held) (span (goal.at.returns c).After-held) (k (goal.at.returns c).After-held) c.count-i.ensures c.read_entry-span.ensures c.held.ensures
    _ _ _ _ _ c.copy.ensures c.write.ensures c.write-2.ensures (rw zero at c.write_entry.ensures) c.clear.ensures
