-- `relocations_check_all::search::check_relocations` meets its contract. The invariant: none of the relocations of the sections below `i` breaks a rule, and what they leave is stored.
use mathlib.Core.Path.{◌≡◌}
use lib.ListN.{length}
use Rattle.relocations_check_all.proofs.Laws.Search.{Below}
use Rattle.relocations_check_all.proofs.search.check_relocations.Given as goal

abbrev pub invariant-search : goal.invariant-search
invariant-search l =
    Below l.object l.order l.addresses l.i l.number l.words l.sizes
    × (length l.highs ≡ length l.initial.highs)
    × (length l.words ≡ length l.initial.words)
    × (length l.sizes ≡ length l.initial.sizes)
