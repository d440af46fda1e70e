-- `numbers_bytes::copy` meets its contract. The invariant: the first i bytes are stored.
use mathlib.Core.Path.{◌≡◌}
use lib.ListN.{length}
use lib.Seq.{sets}
use Rattle.numbers_definitions.specs.Bytes.{part}
use Rattle.numbers_bytes.proofs.copy.Given as goal

abbrev pub invariant-loop-i : goal.invariant-loop-i
invariant-loop-i l = (length l.dst ≡ length l.initial.dst) × (l.dst ≡ sets l.initial.dst l.at (part l.src l.from l.i))
