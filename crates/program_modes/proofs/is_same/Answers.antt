-- `==` decides whether the states are equal.
use Rattle.program_modes.proofs.Laws.{both, same_state}
use Rattle.program_modes.proofs.is_same.Goals as goal

pub returns : goal.returns
returns c =
    let plain = both {b = c.args.a.is_plain} {c = c.args.b.is_plain} (λ e. e, λ e. e) (λ e. e, λ e. e) in
    let all = both plain (same_state c.args.a.state c.args.b.state c.eq.result c.eq.ensures) in
    (λ e. ((all.0 e).0.0, (all.0 e).0.1, (all.0 e).1), λ h. all.1 ((h.0, h.1), h.2))
