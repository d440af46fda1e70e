-- `relocations_patch::call_reaches` meets its contract.
use Rattle.relocations_patch.proofs.Laws.Regular.{call_within}
use Rattle.relocations_patch.proofs.call_reaches.Goals as goal

pub returns : goal.returns
returns c t p is =
    let a = c.args in
    call_within a.class a.rvc t p a.v _ _ is c.in_halves_reach.ensures c.keeps_alignment.ensures
