-- `elf_read::has_rvc` meets its contract.
use mathlib.Core.Path.{ap}
use Prim.Native.Nat.{◌%◌}
use lib.Dec.{eqb}
use Rattle.elf_read.specs.Headers.{has_rvc}
use Rattle.elf_read.proofs.has_rvc.Goals as goal

pub returns : goal.returns
unfolding has_rvc
returns c = ap (λ n. eqb (n % 2) 1) c.flags_of.ensures
