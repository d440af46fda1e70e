-- `relocations_patch::jump_reaches` meets its contract.
use mathlib.Core.Path.{ap, ◌∙◌}
use mathlib.Core.Bool.{◌&&◌}
use Rattle.relocations_patch.proofs.Laws.Regular.{jump_within}
use Rattle.relocations_patch.proofs.jump_reaches.Goals as goal

pub returns : goal.returns
returns c t p is =
    let a = c.args in
    ap (λ b. c.in_reach.result && b) c.keeps_alignment.ensures
    ∙ jump_within a.class a.rvc a.field t p a.v _ _ is c.range_of.ensures c.in_reach.ensures
