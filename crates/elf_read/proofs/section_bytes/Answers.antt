-- `elf_read::section_bytes` meets its contract.
use mathlib.Core.Path.{◌≡◌}
use Prim.Native.Nat.{◌+◌, ◌-◌}
use native.Mathlib.Omega.{arith}
use Rattle.numbers_definitions.specs.Bytes.{part}
use Rattle.elf_read.specs.Entries.{bytes_of}
use Rattle.elf_read.proofs.section_bytes.Goals as goal

pub returns : goal.returns
unfolding bytes_of part
returns c =
    let h = c.args.h in
    let size : h.offset.0 + h.size - h.offset.0 ≡ h.size = omega arith in
    rw size
