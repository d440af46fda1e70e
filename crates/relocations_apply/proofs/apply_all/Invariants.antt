-- `relocations_apply::apply_all` meets its contract.
use mathlib.Core.Path.{◌≡◌}
use mathlib.Core.List.{List}
use Prim.Native.Nat.{ℕ}
use lib.ListN.{length}
use Rattle.relocations_rela.specs.Sites.{count}
use Rattle.relocations_bytes.specs.Sections.{after}
use Rattle.relocations_check_all.specs.Sites.{Worded}
use Rattle.relocations_apply.proofs.apply_all.Given as goal

abbrev pub invariant-loop-j : goal.invariant-loop-j
invariant-loop-j l =
    (length l.part ≡ length l.initial.part)
    × ((o a : List ℕ) → Worded l.object o a l.site (count l.object l.site) l.words l.sizes l.base → l.part ≡ after l.object o a l.site l.j)
