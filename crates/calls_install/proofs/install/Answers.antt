-- `calls_install::install` meets its contract.
use Rattle.std.proofs.lemmas.Result.{err_from_is_err_and}
use native.Mathlib.Omega.{arith}
use Rattle.std.specs.Prelude.{None, Some, Option, MatchOption}
use mathlib.Core.Path.{◌≡◌, refl, sym, ap, ◌∙◌, subst}
use mathlib.Core.Bool.{true}
use mathlib.Core.List.{List}
use Prim.Native.Nat.{ℕ}
use lib.ListN.{length}
use Rattle.elf_read.specs.Headers.{class_of}
use Rattle.elf_read.proofs.Laws.Headers.{header_there}
use Rattle.elf_header.specs.Headers.{header_allowed}
use Rattle.elf_header.proofs.Laws.Headers.{header_long}
use Rattle.numbers_definitions.specs.declared.Class.{Class}
use Rattle.order_format.specs.Orders.{reading}
use Rattle.order_format.specs.declared.Order.{Order}
use Rattle.journal_history.specs.Calls.{Files}
use Rattle.journal_format.specs.Journals.{sound}
use Rattle.journal_history.proofs.Laws.Install.{unsound, refused_by}
use Rattle.calls_judgement.specs.Judgement.{judgement}
use Rattle.calls_judgement.proofs.Laws.Judgement.{gives_2, gives_4}
use Rattle.calls_judge.specs.declared.Refusal.TheVariants.{OrderMalformed}
use Rattle.calls_demands.specs.Ours.{our_install}
use Rattle.calls_install.proofs.install.Goals as goal
use Rattle.calls_install.proofs.install.Goals.{After-read, In_ok-read, Else-not-check_header, Else-not-is_sound, Start}

abbrev S : Start → List ℕ
S c = c.args.object.now

abbrev O : Start → List ℕ
O c = c.args.order.now

abbrev files : Start → Files
files c = record { image = c.args.image.now; journal = c.args.journal.now }

ok : (c : Else-not-is_sound) → sound c.args.journal.now (length c.args.image.now) ≡ true
ok c = sym c.is_sound.ensures ∙ c.if-not-is_sound.false

allowed : (c : Else-not-check_header) → header_allowed c.args.object.now ≡ true
allowed c = sym c.check_header.ensures ∙ c.if-not-check_header.false

-- what `Order::read` says of each of its answers
abbrev Told : Start → Class → Option Order → Type 0
Told c k r = MatchOption r (reading k (O c) ≡ None) (λ o. (o.class ≡ k) × (o.bytes.now ≡ O c))

told : (c : After-read) → Told (goal.at.After-read c).Start (class_of (S (goal.at.After-read c).Start)) c.read.result
told c = subst (λ k. Told (goal.at.After-read c).Start k c.read.result) c.class_of-class.ensures c.read.ensures

read_as : (c : In_ok-read) → Told (goal.at.In_ok-read c).Start (class_of (S (goal.at.In_ok-read c).Start)) (Some c.in_ok-read.read)
read_as c =
    let some : c.read.result ≡ Some c.in_ok-read.read = grind arith in
    subst (Told (goal.at.In_ok-read c).Start (class_of (S (goal.at.In_ok-read c).Start))) some (told (goal.at.In_ok-read c).After-read)

pub returns-then-not-is_sound : goal.returns-then-not-is_sound
returns-then-not-is_sound c =
    let a = c.args in
    unsound judgement a.object.now a.order.now (files (goal.at.returns-then-not-is_sound c).Start) (sym c.is_sound.ensures ∙ c.if-not-is_sound.true)

pub returns-then-not-check_header : goal.returns-then-not-check_header
returns-then-not-check_header c =
    let a = c.args in
    refused_by judgement a.object.now a.order.now (files (goal.at.returns-then-not-check_header c).Start) (ok (goal.at.returns-then-not-check_header c).Else-not-is_sound) _
    (gives_4 a.object.now a.order.now (length a.image.now) (sym c.check_header.ensures ∙ c.if-not-check_header.true))

pub class_of-class-requires : goal.class_of-class-requires
class_of-class-requires c = header_there _ (header_long _ (allowed (goal.at.class_of-class-requires c).Else-not-check_header))

pub returns-in_err-read : goal.returns-in_err-read
returns-in_err-read c =
    let a = c.args in
    let none : c.read.result ≡ None = grind arith in
    let is : c.in_err-read.field-0.0 ≡ OrderMalformed = grind arith in
    let p = err_from_is_err_and c.from_residual.result c.from_residual.ensures.1 in
    rw (p.1, p.2, is) (refused_by judgement a.object.now a.order.now (files (goal.at.returns-in_err-read c).Start) (ok (goal.at.returns-in_err-read c).Else-not-is_sound) _
    (gives_2 a.object.now a.order.now (length a.image.now) (allowed (goal.at.returns-in_err-read c).Else-not-check_header) (subst (Told (goal.at.returns-in_err-read c).Start (class_of a.object.now)) none (told (goal.at.returns-in_err-read c).After-read))))

pub judge_sections-requires : goal.judge_sections-requires
judge_sections-requires c = (allowed (goal.at.judge_sections-requires c).Else-not-check_header, (read_as (goal.at.judge_sections-requires c).In_ok-read).0, refl)

pub returns-in_err-addresses : goal.returns-in_err-addresses
returns-in_err-addresses c =
    let a = c.args in
    let p = err_from_is_err_and c.from_residual-in_err-addresses.result c.from_residual-in_err-addresses.ensures.1 in
    let same = (read_as (goal.at.returns-in_err-addresses c).In_ok-read).1 in
    rw (p.1, p.2) (refused_by judgement a.object.now a.order.now (files (goal.at.returns-in_err-addresses c).Start) (ok (goal.at.returns-in_err-addresses c).Else-not-is_sound) _
    (ap (λ o. judgement a.object.now o (length a.image.now)) (sym same) ∙ c.in_err-addresses.ensures))

pub finish-requires : goal.finish-requires
finish-requires c =
    (c.in_ok-addresses.ensures.0, (read_as (goal.at.finish-requires c).In_ok-read).0, c.in_ok-addresses.ensures.1, ok (goal.at.finish-requires c).Else-not-is_sound)

pub returns : goal.returns
returns c =
    c.finish.ensures ∙ ap (λ o. our_install c.args.object.now o (files (goal.at.returns c).Start)) (read_as (goal.at.returns c).In_ok-read).1
