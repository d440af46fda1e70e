-- Scratch arrays that are long enough.
use mathlib.Core.List.{List}
use Prim.Native.Nat.{ℕ, ◌^◌, ◌≤◌, ◌<◌}
use native.Mathlib.Omega.{arith}
use lib.ListN.{replicate}
use Rattle.numbers_definitions.proofs.Laws.Lists.{zeros_length}
use Rattle.elf_read.specs.Entries.{relocation_count}
use Rattle.relocations_check_all.specs.Sites.{Roomy}
use Rattle.calls_judge.specs.Judged.{Lent}

-- an array of n zeros has room for n relocations
zeros_room : (object : List ℕ) (n : ℕ) → relocation_count object ≤ n → n < 2 ^ 32 → Roomy object (replicate n 0)
zeros_room object n some short =
    let long = zeros_length n in
    record { room = omega (arith, long); short = omega (arith, long) }

pub lent : (object : List ℕ) (n : ℕ) → relocation_count object ≤ n → n < 2 ^ 32 → Lent object (replicate n 0) (replicate n 0) (replicate n 0)
lent object n some short =
    let r = zeros_room object n some short in
    record { highs_room = r; words_room = r; sizes_room = r }
