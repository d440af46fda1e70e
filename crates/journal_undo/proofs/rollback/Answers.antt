-- `journal_undo::rollback` meets its contract.
use mathlib.Core.Path.{◌≡◌, sym, ◌∙◌}
use mathlib.Core.Bool.{true}
use mathlib.Core.List.{List}
use Prim.Native.Nat.{ℕ}
use lib.ListN.{length}
use native.Mathlib.Omega.{arith}
use Rattle.order_format.specs.Windows.{length_allowed}
use Rattle.journal_format.specs.Journals.{count, sound}
use Rattle.journal_format.proofs.Laws.Sound.{test_sound}
use Rattle.journal_history.proofs.Laws.Rollback.{undoable, unsound, too_long, none_stands_lem, done_with}
use Rattle.journal_undo.proofs.rollback.Goals as goal
use Rattle.journal_undo.proofs.rollback.Goals.{Else-not-is_sound, Else-not-length_allowed, Else-count-eq0}

abbrev image : Else-not-is_sound → List ℕ
image c = c.args.image.now

abbrev journal : Else-not-is_sound → List ℕ
journal c = c.args.journal.now

is_sound : (c : Else-not-is_sound) → sound (journal c) (length (image c)) ≡ true
is_sound c = sym c.is_sound.ensures ∙ c.if-not-is_sound.false

allowed : (c : Else-not-length_allowed) → length_allowed (length (image (goal.at.Else-not-length_allowed c).Else-not-is_sound)) ≡ true
allowed c = sym c.length_allowed.ensures ∙ c.if-not-length_allowed.false

stands : (c : Else-count-eq0) → count (journal (goal.at.Else-count-eq0 c).Else-not-is_sound) ≡ 0 → ⊥
stands c z = c.if-count-eq0.false (c.count.ensures ∙ z)

pub returns-then-not-is_sound : goal.returns-then-not-is_sound
returns-then-not-is_sound c = unsound _ (sym c.is_sound.ensures ∙ c.if-not-is_sound.true)

pub returns-then-not-length_allowed : goal.returns-then-not-length_allowed
returns-then-not-length_allowed c = too_long _ (is_sound (goal.at.returns-then-not-length_allowed c).Else-not-is_sound) (sym c.length_allowed.ensures ∙ c.if-not-length_allowed.true)

pub count-requires : goal.count-requires
count-requires c = let k = test_sound _ _ (is_sound (goal.at.count-requires c).Else-not-is_sound) in omega (arith, k.fits)

pub returns-then-count-eq0 : goal.returns-then-count-eq0
returns-then-count-eq0 c = none_stands_lem _ (is_sound (goal.at.returns-then-count-eq0 c).Else-not-is_sound) (allowed (goal.at.returns-then-count-eq0 c).Else-not-length_allowed) (sym c.count.ensures ∙ c.if-count-eq0.true)

pub undo-requires : goal.undo-requires
undo-requires c = undoable _ _ (test_sound _ _ (is_sound (goal.at.undo-requires c).Else-not-is_sound)) (omega (arith, stands (goal.at.undo-requires c).Else-count-eq0))

pub returns : goal.returns
returns c = done_with _ (is_sound (goal.at.returns c).Else-not-is_sound) (allowed (goal.at.returns c).Else-not-length_allowed) _ (stands (goal.at.returns c).Else-count-eq0) c.undo.ensures
