-- `numbers_bytes::write_bytes` meets its contract.
use Rattle.numbers_bytes.proofs.Laws.Widths.{stored}
use Rattle.numbers_bytes.proofs.write_bytes.Goals as goal

pub returns-in-1 : goal.returns-in-1
returns-in-1 c = stored 1 _ _ _ _ _ c.in-1.is c.write.ensures

pub returns-in-2 : goal.returns-in-2
returns-in-2 c = stored 2 _ _ _ _ _ c.in-2.is c.write-in-2.ensures

pub returns-in-4 : goal.returns-in-4
returns-in-4 c = stored 4 _ _ _ _ _ c.in-4.is c.write-in-4.ensures
