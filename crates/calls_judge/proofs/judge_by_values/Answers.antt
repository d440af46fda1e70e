-- `calls_judge::judge_by_values` meets its contract.
use Rattle.std.proofs.lemmas.Result.{err_from_is_err_and}
use mathlib.Core.Path.{◌≡◌, sym, ap, ◌∙◌, subst}
use mathlib.Core.List.{List}
use Prim.Native.Nat.{ℕ}
use native.Mathlib.Omega.{arith}
use lib.ListN.{length}
use Rattle.order_lookup.specs.Addresses.{addresses_for, base_for}
use Rattle.elf_check.specs.Requires.{SoundObject}
use Rattle.elf_check.proofs.Laws.Objects.{sound_object}
use Rattle.plan_pieces.specs.Plans.{refused}
use Rattle.relocations_rela.specs.Requires.{Placed}
use Rattle.relocations_check_all.specs.Sites.{Roomy}
use Rattle.relocations_rules.specs.Search.{relocation_check}
use Rattle.relocations_rules.proofs.Laws.Sites.{placed}
use Rattle.calls_judgement.proofs.Laws.Judgement.{gives_9_to_14, gives_plan}
use Rattle.calls_judge.proofs.judge_by_values.Goals as goal
use Rattle.calls_judge.proofs.judge_by_values.Goals.{After-check_relocations, After-symbol_values-placed, Start}

abbrev S : Start → List ℕ
S c = c.args.object.now

abbrev O : Start → List ℕ
O c = c.args.order.now.bytes.now

-- the addresses by the order
abbrev L : Start → List ℕ
L c = addresses_for (S c) (O c)

is_sound : (c : Start) → SoundObject (S c)
is_sound c = sound_object (S c) c.requires.0.named.readable.header c.requires.0.named.readable.sections

placed_at : (c : Start) → Placed (S c) (L c)
placed_at c = placed (S c) (L c) (base_for (S c) (O c)) c.args.len c.requires.0.placing

placed_is : (c : After-symbol_values-placed) → c.symbol_values-placed.result ≡ L (goal.at.After-symbol_values-placed c).Start
placed_is c = c.symbol_values-placed.ensures.0 ∙ c.requires.2

pub symbol_values-placed-requires : goal.symbol_values-placed-requires
symbol_values-placed-requires c =
    (is_sound (goal.at.symbol_values-placed-requires c).Start, c.requires.1, c.requires.3, c.requires.4)

pub check_relocations-requires : goal.check_relocations-requires
check_relocations-requires c =
    let l = c.requires.5 in
    (is_sound (goal.at.check_relocations-requires c).Start, c.requires.3, subst (Placed (S (goal.at.check_relocations-requires c).Start)) (sym (placed_is (goal.at.check_relocations-requires c).After-symbol_values-placed)) (placed_at (goal.at.check_relocations-requires c).Start), rw c.symbol_values-placed.ensures.0 c.symbol_values-placed.ensures.1, l.highs_room, l.words_room, l.sizes_room)

found : (c : After-check_relocations) → relocation_check (S (goal.at.After-check_relocations c).Start) (O (goal.at.After-check_relocations c).Start) (L (goal.at.After-check_relocations c).Start) ≡ c.check_relocations.result
found c =
    ap (relocation_check (S (goal.at.After-check_relocations c).Start) (O (goal.at.After-check_relocations c).Start)) (sym (placed_is (goal.at.After-check_relocations c).After-symbol_values-placed)) ∙ sym c.check_relocations.ensures.0

-- a list of the same length has the same room
kept : {object l m : List ℕ} → Roomy object l → length m ≡ length l → Roomy object m
kept r e = record { room = omega (arith, r.room, e); short = omega (arith, r.short, e) }

pub returns-in_err-check_relocations : goal.returns-in_err-check_relocations
returns-in_err-check_relocations c =
    let a = c.args in
    let p = err_from_is_err_and c.from_residual.result c.from_residual.ensures.1 in
    rw p.1
    (gives_9_to_14 a.object.now a.order.now.bytes.now a.len a.order.now.counts _ c.requires.0 (found (goal.at.returns-in_err-check_relocations c).After-check_relocations ∙ c.in_err-check_relocations.was)
    ∙ ap refused (sym p.2))

pub returns : goal.returns
returns c =
    let a = c.args in
    let e = c.check_relocations.ensures in
    let kept_all = found (goal.at.returns c).After-check_relocations ∙ c.in_ok-check_relocations.was in (
      gives_plan a.object.now a.order.now.bytes.now a.len a.order.now.counts (record { placeable = c.requires.0; relocations = kept_all }),
      record {
        addresses_are = placed_is (goal.at.returns c).After-symbol_values-placed;
        worked = record { worded = e.1 c.in_ok-check_relocations.was; words_room = kept c.requires.5.words_room e.3; sizes_room = kept c.requires.5.sizes_room e.4 };
      },
    )
