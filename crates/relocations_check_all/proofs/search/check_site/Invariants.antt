-- `relocations_check_all::search::check_site` meets its contract. The invariant: none of the first `j` relocations breaks a rule, and what they leave is stored.
use mathlib.Core.Path.{◌≡◌}
use mathlib.Core.List.{List}
use Prim.Native.Nat.{ℕ}
use lib.ListN.{length}
use Rattle.placing_symbols.specs.Arrays.{Valued}
use Rattle.relocations_rela.specs.Trails.{trail_at}
use Rattle.relocations_check_one.specs.Requires.{Listing}
use Rattle.relocations_check_all.proofs.Laws.Sites.{Searching}
use Rattle.relocations_check_all.proofs.search.check_site.Given as goal

abbrev pub invariant-loop-j : goal.invariant-loop-j
invariant-loop-j l =
    (l.trail ≡ trail_at l.source.object.now l.site l.j)
    × Listing l.source.object.now l.site l.highs l.known
    × (length l.highs ≡ length l.initial.highs)
    × (length l.words ≡ length l.initial.words)
    × (length l.sizes ≡ length l.initial.sizes)
    × ((o a : List ℕ) → Valued l.source.object.now o a l.source.values.now l.source.states.now → Searching l.source.object.now o a l.site l.base l.initial.words l.initial.sizes l.initial.highs l.words l.sizes l.highs l.trail l.last l.known l.j)
