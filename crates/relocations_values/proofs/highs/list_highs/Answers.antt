-- `relocations_values::highs::list_highs` meets its contract.
use borrow.Author.Rules.{rules}
use Rattle.std.proofs.lemmas.List.Sorted.{IsNonDecreasingBy-from_sort_by_key}
use Rattle.relocations_values.proofs.Laws.Highs.{listed}
use Rattle.relocations_values.proofs.Laws.Sorting.{lists_sorted, sorted_ordered}
use Rattle.relocations_values.specs.Gathered.{key_of}
use Rattle.relocations_values.proofs.highs.list_highs.Goals as goal

pub returns-then-gathered : goal.returns-then-gathered
returns-then-gathered c =
    let a = c.args in
    let lists = c.gather-gathered.ensures.lists in
    let moved = c.sort_unstable_by_key.ensures.permutation in (
      listed _ _ _ _ (lists_sorted _ _ _ _ _ lists moved)
          (sorted_ordered a.object.now a.site _ _ _ _ lists moved
          (IsNonDecreasingBy-from_sort_by_key (key_of a.object.now a.site) _ c.sort_unstable_by_key.ensures.sorted (λ a r g h. search rules))),
      search rules,
    )

pub returns-else-gathered : goal.returns-else-gathered
returns-else-gathered c =
    (listed _ _ _ _ c.gather-gathered.ensures.lists (c.gather-gathered.ensures.ordered c.if-gathered.false), search rules)
