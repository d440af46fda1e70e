-- `calls_install::fit` meets its contract.
use mathlib.Core.Path.{◌≡◌, sym, ap, ◌∙◌, subst}
use mathlib.Core.Bool.{Bool, false, not}
use mathlib.Core.List.{List}
use Prim.Native.Nat.{ℕ, ◌<◌}
use lib.ListN.{length}
use borrow.Author.Tests.{not-true, not-false}
use Rattle.order_lookup.specs.Addresses.{addresses_for, base_for}
use Rattle.order_format.proofs.Laws.Sound.{reading_sound}
use Rattle.elf_read.specs.Headers.{class_of, section_count}
use Rattle.plan_pieces.specs.Plans.{Piece, plan, span_of as spanOfPieces}
use Rattle.journal_format.specs.Journals.{count, held, no_room}
use Rattle.journal_history.specs.Writes.{saved}
use Rattle.journal_history.specs.Calls.{Files}
use Rattle.journal_history.specs.Requires.{Savable}
use Rattle.journal_history.proofs.Laws.Install.{full, done_with, plan_savable}
use Rattle.placing_span.specs.Spans.{highest, span_of}
use Rattle.calls_judgement.specs.Judgement.{plan_of, judgement}
use Rattle.calls_judgement.proofs.Laws.Judgement.{gives_plan}
use Rattle.calls_judgement.proofs.Laws.Laying.{is_sound, length_fits, plan_inside, span_is, ends_low}
use Rattle.calls_install.proofs.fit.Goals as goal
use Rattle.calls_install.proofs.fit.Goals.{After-has_room, After-span_of-span, Else-not-has_room, Start}

abbrev S : Start → List ℕ
S c = c.args.object.now

abbrev O : Start → List ℕ
O c = c.args.order.now.bytes.now

abbrev Len : Start → ℕ
Len c = length c.args.image.now

abbrev files : Start → Files
files c = record { image = c.args.image.now; journal = c.args.journal.now }

abbrev pieces : Start → List Piece
pieces c = plan_of (S c) (O c)

base_is : (c : Start) → c.args.order.now.counts.base.0 ≡ base_for (S c) (O c)
base_is c = (reading_sound (class_of (S c)) (O c) c.args.order.now.counts c.requires.0.placeable.named.readable.reading_is).base_is

low : (c : Start) → highest (S c) (addresses_for (S c) (O c)) c.args.order.now.counts.base.0 (section_count (S c)) < 4294967296
low c = subst (λ b. highest (S c) (addresses_for (S c) (O c)) b (section_count (S c)) < 4294967296) (sym (base_is c)) (ends_low (S c) (O c) c.args.order.now.counts (Len c) c.requires.0)

plan_is : (c : Start) → judgement (S c) (O c) (Len c) ≡ plan (pieces c)
plan_is c = gives_plan (S c) (O c) (Len c) c.args.order.now.counts c.requires.0

span_taken : (c : After-span_of-span) → c.span_of-span.result ≡ spanOfPieces (pieces (goal.at.After-span_of-span c).Start)
span_taken c =
    c.span_of-span.ensures ∙ ap (λ l. span_of (S (goal.at.After-span_of-span c).Start) l c.args.order.now.counts.base.0) c.requires.1.addresses_are ∙ ap (span_of (S (goal.at.After-span_of-span c).Start) (addresses_for (S (goal.at.After-span_of-span c).Start) (O (goal.at.After-span_of-span c).Start))) (base_is (goal.at.After-span_of-span c).Start) ∙ span_is (S (goal.at.After-span_of-span c).Start) (O (goal.at.After-span_of-span c).Start) c.args.order.now.counts (Len (goal.at.After-span_of-span c).Start) c.requires.0

-- check 15 of the plan's span
abbrev lacks : Start → Bool
lacks c = no_room (count c.args.journal.now) (held c.args.journal.now) (spanOfPieces (pieces c)).size (length c.args.journal.now)

room_asked : (c : After-has_room) → c.has_room.result ≡ not (lacks (goal.at.After-has_room c).Start)
room_asked c =
    c.has_room.ensures ∙ ap (λ x. not (no_room (count c.args.journal.now) (held c.args.journal.now) x.size (length c.args.journal.now))) (span_taken (goal.at.After-has_room c).After-span_of-span)

room : (c : Else-not-has_room) → lacks (goal.at.Else-not-has_room c).Start ≡ false
room c = not-true _ (sym (room_asked (goal.at.Else-not-has_room c).After-has_room) ∙ c.if-not-has_room.false)

pub span_of-span-requires : goal.span_of-span-requires
span_of-span-requires c =
    (is_sound _ _ _ _ c.requires.0, subst (λ l. highest (S (goal.at.span_of-span-requires c).Start) l c.args.order.now.counts.base.0 (section_count (S (goal.at.span_of-span-requires c).Start)) < 4294967296) (sym c.requires.1.addresses_are) (low (goal.at.span_of-span-requires c).Start))

pub returns-then-not-has_room : goal.returns-then-not-has_room
returns-then-not-has_room c =
    full judgement (S (goal.at.returns-then-not-has_room c).Start) (O (goal.at.returns-then-not-has_room c).Start) (files (goal.at.returns-then-not-has_room c).Start) c.requires.2 (pieces (goal.at.returns-then-not-has_room c).Start) (plan_is (goal.at.returns-then-not-has_room c).Start) (not-false _ (sym (room_asked (goal.at.returns-then-not-has_room c).After-has_room) ∙ c.if-not-has_room.true))

pub save-requires : goal.save-requires
save-requires c =
    subst (Savable c.args.image.now c.args.journal.now) (sym (span_taken (goal.at.save-requires c).After-span_of-span)) (plan_savable c.args.image.now c.args.journal.now (pieces (goal.at.save-requires c).Start) c.requires.2 (length_fits (S (goal.at.save-requires c).Start) (O (goal.at.save-requires c).Start) c.args.order.now.counts (Len (goal.at.save-requires c).Start) c.requires.0) (room (goal.at.save-requires c).Else-not-has_room) (plan_inside (S (goal.at.save-requires c).Start) (O (goal.at.save-requires c).Start) c.args.order.now.counts (Len (goal.at.save-requires c).Start) c.requires.0))

pub lay-requires : goal.lay-requires
lay-requires c = (c.requires.0, c.requires.1.addresses_are, c.requires.1.worked)

pub returns : goal.returns
returns c =
    done_with judgement (S (goal.at.returns c).Start) (O (goal.at.returns c).Start) (files (goal.at.returns c).Start) c.requires.2 (pieces (goal.at.returns c).Start) (plan_is (goal.at.returns c).Start) (room (goal.at.returns c).Else-not-has_room) _ c.lay.ensures (c.save.ensures ∙ ap (saved c.args.image.now c.args.journal.now) (span_taken (goal.at.returns c).After-span_of-span))
