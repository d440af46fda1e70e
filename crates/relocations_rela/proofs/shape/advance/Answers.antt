-- `relocations_rela::shape::advance` meets its contract.
use native.Mathlib.Omega.{arith}
use Rattle.relocations_rela.specs.Trails.{advanced}
use Rattle.relocations_rela.proofs.shape.advance.Goals as goal

pub overflow_add-result : goal.overflow_add-result
overflow_add-result c = omega (arith, c.requires.1, c.bytes_touched.ensures)

pub returns-then-is_store : goal.returns-then-is_store
unfolding advanced
returns-then-is_store c =
    rw (c.requires.0, c.bytes_touched.ensures, ← c.is_store.ensures, c.if-is_store.true)

pub returns-else-is_store : goal.returns-else-is_store
unfolding advanced
returns-else-is_store c =
    rw (← c.is_store.ensures, c.if-is_store.false)
