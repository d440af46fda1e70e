-- `journal_format::is_sound` meets its contract.
use mathlib.Core.Path.{◌≡◌}
use mathlib.Core.Bool.{true}
use Prim.Native.Nat.{ℕ, ◌*◌, ◌^◌, ◌≤◌, ◌<◌}
use Rattle.numbers_definitions.specs.First.{tabulate}
use Rattle.journal_format.specs.Journals.{entry, total}
use Rattle.journal_format.proofs.Laws.Sound.{allowed}
use Rattle.journal_format.proofs.is_sound.Given as goal

abbrev pub invariant-loop-i : goal.invariant-loop-i
invariant-loop-i l =
    (l.sum ≤ 2 ^ 32 * l.i) × (l.sum ≡ total (tabulate (entry l.journal) l.i)) × ((m : ℕ) → m < l.i → allowed l.journal l.len m ≡ true)
