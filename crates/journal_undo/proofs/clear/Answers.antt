-- `journal_undo::clear` meets its contract.
use mathlib.Core.Path.{◌≡◌, ap, ◌∙◌}
use Prim.Native.Nat.{◌+◌, ◌-◌}
use native.Mathlib.Omega.{arith}
use lib.ListN.{length, take, drop, replicate, length-replicate}
use borrow.Rule.Slice.PartMut.{put_mid, mid_len}
use Rattle.numbers_bytes.proofs.Laws.Copies.{put_there}
use Rattle.journal_undo.proofs.clear.Goals as goal

pub returns : goal.returns
returns c =
    let at = c.args.at in
    let n = c.args.n in
    let size : length (take (at + n - at) (drop at c.args.dst.now)) ≡ n = mid_len at (at + n) c.args.dst.now c.requires ∙ omega arith in
    let zeros : c.fill.new.self ≡ replicate n 0 = c.fill.ensures.after (λ y e. e) ∙ ap (λ m. replicate m 0) size in
    ap (put_mid at (at + n - at) c.args.dst.now) zeros
    ∙ put_there at (at + n - at) c.args.dst.now (replicate n 0) (length-replicate n 0 ∙ omega arith) (omega (arith, c.requires))
