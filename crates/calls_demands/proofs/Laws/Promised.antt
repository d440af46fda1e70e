-- The claim: our two calls keep everything that is promised. The contracts of `install`, `rollback`, `aktinoph_fit`, `aktinoph_take_back` and
-- `aktinoph_replay` name these two calls.
use Rattle.calls_demands.specs.Demands.{AnyList, Promised}
use Rattle.calls_demands.specs.Ours.{our_install, our_rollback}
use Rattle.calls_demands.proofs.Laws.Demands.{demand_3}
use Rattle.calls_demands.proofs.Laws.Octets.{ours_meets}

pub ours_keep : Promised our_install our_rollback
ours_keep = record { each = ours_meets; every_list = demand_3 AnyList }
