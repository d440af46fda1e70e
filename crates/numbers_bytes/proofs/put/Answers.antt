-- `numbers_bytes::put` meets its contract.
use Rattle.std.proofs.Common.{arith}
use Rattle.numbers_bytes.proofs.Laws.Copies.{put_there}
use Rattle.numbers_bytes.proofs.put.Goals as goal

pub returns : goal.returns
returns c = rw c.copy_from_slice.ensures.after (put_there c.args.at _ c.args.s.now c.args.these.now (omega arith) (omega arith))
