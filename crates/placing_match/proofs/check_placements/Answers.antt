-- `placing_match::check_placements` meets its contract.
use mathlib.Core.Path.{◌≡◌, sym, ap, ◌∙◌}
use mathlib.Core.Bool.{not, ◌&&◌}
use Prim.Native.Nat.{◌^◌, ◌≤◌}
use native.Mathlib.Omega.{arith}
use Rattle.elf_read.specs.Headers.{section_count}
use Rattle.elf_read.specs.Sections.{is_allocated}
use Rattle.order_lookup.specs.Addresses.{placed_at}
use Rattle.order_lookup.specs.Values.{is_given}
use Rattle.placing_match.specs.Placements.{lowest}
use Rattle.placing_match.proofs.Laws.Differing.{all_placed, none_extra, lower, unplaced_check, extra_check}
use Rattle.placing_match.proofs.check_placements.Goals as goal
use Rattle.placing_match.proofs.check_placements.Goals.{After-check_placed-extra}

few : (c : After-check_placed-extra) → section_count c.args.object.now ≤ 2 ^ 32
few c = omega (arith, c.requires.0.table.few)

unplaced_is : (c : After-check_placed-extra) → c.check_allocated-unplaced.result ≡ unplaced_check c.args.object.now c.args.order.now.bytes.now
unplaced_is c =
    c.check_allocated-unplaced.ensures
    ∙ ap (λ k. lowest (λ i. is_allocated c.args.object.now i && not (is_given (placed_at k c.args.order.now.bytes.now i))) (section_count c.args.object.now)) c.requires.1

extra_is : (c : After-check_placed-extra) → c.check_placed-extra.result ≡ extra_check c.args.object.now c.args.order.now.bytes.now
extra_is c =
    c.check_placed-extra.ensures
    ∙ ap (λ k. lowest (λ i. is_given (placed_at k c.args.order.now.bytes.now i) && not (is_allocated c.args.object.now i)) (2 ^ 32)) c.requires.1

pub returns-in-Ok : goal.returns-in-Ok
returns-in-Ok c =
    let p = (goal.at.returns-in-Ok c).After-check_placed-extra in
    all_placed _ _ (few p) (sym (unplaced_is p) ∙ c.in-Ok.is) _ (extra_is p)

pub returns-in-Ok-extra : goal.returns-in-Ok-extra
returns-in-Ok-extra c =
    let p = (goal.at.returns-in-Ok-extra c).After-check_placed-extra in
    none_extra _ _ (few p) _ (sym (unplaced_is p) ∙ c.in-Err.is) (sym (extra_is p) ∙ c.in-Ok-extra.is)

pub returns-in-Err-extra : goal.returns-in-Err-extra
returns-in-Err-extra c =
    let p = (goal.at.returns-in-Err-extra c).After-check_placed-extra in
    lower _ _ (few p) _ _ _ (sym (unplaced_is p) ∙ c.in-Err.is) (sym (extra_is p) ∙ c.in-Err-extra.is) c.min.ensures
