-- `calls_lay::Laying::lay_all` meets its contract. The invariant: the sections below `t` are laid.
use mathlib.Core.Path.{◌≡◌}
use lib.ListN.{length}
use Rattle.calls_judgement.proofs.Laws.Laying.{laid_below}
use Rattle.calls_lay.proofs.Laying.lay_all.Given as goal

abbrev pub invariant-loop-t : goal.invariant-loop-t
invariant-loop-t l = (length l.image ≡ length l.initial.image) × (l.image ≡ laid_below l.self.object.now l.self.order.now.bytes.now l.initial.image l.t)
