-- `placing_match::is_undefined` meets its contract.
use mathlib.Core.Path.{◌≡◌, ap, ◌∙◌}
use Prim.Native.Nat.{◌≤◌, ◌<◌}
use borrow.Author.Tests.{lt-ltb, le-ltb}
use Rattle.numbers_definitions.proofs.Laws.Tests.{and_true, and_false}
use Rattle.elf_read.specs.Sections.{section_at, symbol_table}
use Rattle.elf_read.specs.Entries.{symbol_at, symbol_count}
use Rattle.elf_check.proofs.Laws.Bounds.{symbol_inside}
use native.Mathlib.Omega.{arith}
use Rattle.placing_match.specs.Externals.{is_undefined}
use Rattle.placing_match.proofs.is_undefined.Goals as goal
use Rattle.placing_match.proofs.is_undefined.Goals.{Else-symbols-at}

-- the number is one of the table
in_table : (c : Else-symbols-at) → let a = c.args in a.k < symbol_count a.object.now
in_table c = omega (arith, c.requires.1.count)

table_is : (c : Else-symbols-at) → let a = c.args in a.symbols.table ≡ section_at a.object.now (symbol_table a.object.now)
table_is c = c.requires.1.table (omega arith)

pub returns-then-symbols-at : goal.returns-then-symbols-at
unfolding is_undefined
returns-then-symbols-at c =
    let out : symbol_count c.args.object.now ≤ c.args.k = omega (arith, c.requires.1.count) in
    simp (le-ltb _ _ out, and_false)

pub read_symbol-symbol-requires : goal.read_symbol-symbol-requires
read_symbol-symbol-requires c =
    rw (table_is (goal.at.read_symbol-symbol-requires c).Else-symbols-at) (symbol_inside c.args.object.now c.requires.0 c.args.k (in_table (goal.at.read_symbol-symbol-requires c).Else-symbols-at))

pub returns : goal.returns
unfolding is_undefined
returns c =
    let s = c.args.object.now in
    let k = c.args.k in
    let symbol : c.read_symbol-symbol.result ≡ symbol_at s (section_at s (symbol_table s)) k = c.read_symbol-symbol.ensures ∙ ap (λ h. symbol_at s h k) (table_is (goal.at.returns c).Else-symbols-at) in
    simp (lt-ltb _ _ (in_table (goal.at.returns c).Else-symbols-at), and_true) (rw symbol)
