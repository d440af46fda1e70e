-- `numbers_bytes::array_at` meets its contract.
use Rattle.std.proofs.Common.{◌≡◌, ◌+◌, ◌-◌, take, drop, ap, ◌∙◌, arith}
use Rattle.numbers_definitions.specs.Bytes.{part}
use Rattle.numbers_bytes.proofs.array_at.Goals as goal

pub returns : goal.returns
unfolding part
returns g c =
    let long : c.args.at + g.row.N - c.args.at ≡ g.row.N = omega arith in
    c.copy_from_slice.ensures.after ∙ ap (λ n. take n (drop c.args.at c.args.s.now)) long
