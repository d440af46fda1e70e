-- `journal_format::is_sound` meets its contract.
use mathlib.Core.Path.{◌≡◌, refl, sym, ap, ◌∙◌}
use mathlib.Core.Bool.{not}
use mathlib.Core.List.{List}
use Prim.Native.Nat.{ℕ}
use native.Mathlib.Numerals.{add-one}
use native.Mathlib.Omega.{arith}
use borrow.Author.Count.{below_more}
use Rattle.numbers_definitions.specs.First.{tabulate}
use Rattle.numbers_definitions.proofs.Laws.Tests.{not_both}
use Rattle.plan_pieces.specs.declared.Span.{Span}
use Rattle.journal_format.specs.Journals.{max_entries, entry, entries, total}
use Rattle.journal_format.proofs.Laws.Sound.{allowed, allowed_is, unsound_test, sound_entry, sound_by_held, total_snoc}
use Rattle.journal_format.proofs.is_sound.Goals as goal
use Rattle.journal_format.proofs.is_sound.Goals.{After-entry_allowed}

pub returns-then-journal-lt-OLD_AT : goal.returns-then-journal-lt-OLD_AT
returns-then-journal-lt-OLD_AT c = unsound_test _ _ (λ k. omega (arith, k.fits))

pub returns-then-n-gt-MAX_ENTRIES : goal.returns-then-n-gt-MAX_ENTRIES
returns-then-n-gt-MAX_ENTRIES c = unsound_test _ _ (λ k. omega (arith, k.few))

pub returns-then-journal-k : goal.returns-then-journal-k
returns-then-journal-k c = unsound_test _ _ (λ k. omega (arith, k.fits))

pub loop-i-init : goal.loop-i-init
unfolding tabulate total
loop-i-init c = (omega arith, refl, λ m h. absurd (omega arith))

abbrev j : After-entry_allowed → List ℕ
j c = c.args.journal.now

abbrev len : After-entry_allowed → ℕ
len c = c.args.len

abbrev i : After-entry_allowed → ℕ
i c = c.loop-i.i

tested : (c : After-entry_allowed) → c.entry_allowed.result ≡ allowed (j c) (len c) (i c)
tested c =
    allowed_is (j c) (len c) (i c) c.count-n.result c.read_entry-span.result c.entry_allowed.result c.count-n.ensures c.read_entry-span.ensures c.entry_allowed.ensures

pub returns-then-not-entry_allowed : goal.returns-then-not-entry_allowed
returns-then-not-entry_allowed c =
    unsound_test (j (goal.at.returns-then-not-entry_allowed c).After-entry_allowed) (len (goal.at.returns-then-not-entry_allowed c).After-entry_allowed) (λ k. not_both _ _ (ap not c.if-not-entry_allowed.true) (tested (goal.at.returns-then-not-entry_allowed c).After-entry_allowed) (sound_entry (j (goal.at.returns-then-not-entry_allowed c).After-entry_allowed) (len (goal.at.returns-then-not-entry_allowed c).After-entry_allowed) k (i (goal.at.returns-then-not-entry_allowed c).After-entry_allowed) (omega arith)))

pub overflow_add-sum : goal.overflow_add-sum
overflow_add-sum c = omega arith

pub loop-i-preserved : goal.loop-i-preserved
loop-i-preserved c =
    let inv = c.loop-i.invariant in
    let size : c.read_entry-span.result.size ≡ (entry (j (goal.at.loop-i-preserved c).After-entry_allowed) (i (goal.at.loop-i-preserved c).After-entry_allowed)).size = ap (λ (s : Span). s.size) c.read_entry-span.ensures in (
      omega arith,
      rw (add-one (i (goal.at.loop-i-preserved c).After-entry_allowed), total_snoc (entry (j (goal.at.loop-i-preserved c).After-entry_allowed)) (i (goal.at.loop-i-preserved c).After-entry_allowed)) (omega (arith, inv.1)),
      below_more _ _ inv.2 (sym (tested (goal.at.loop-i-preserved c).After-entry_allowed) ∙ c.if-not-entry_allowed.false),
    )

pub returns : goal.returns
unfolding entries
returns c =
    let end : c.loop-i.i ≡ max_entries = omega arith in
    rw c.held-k.ensures
    (sound_by_held c.args.journal.now c.args.len c.loop-i.sum (rw end at c.loop-i.invariant.1) (omega arith) (omega arith)
    (λ i h. c.loop-i.invariant.2 i (omega arith)))
