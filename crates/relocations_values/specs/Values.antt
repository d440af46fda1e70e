-- S and T of a relocation ("How a record is read").
use Rattle.placing_symbols.specs.Reasons.{SymbolValue}
use Rattle.std.specs.Prelude.{List, ℕ, ℤ, pos, ◌+ℤ◌, Err, Ok}
use Rattle.numbers_definitions.specs.Whole.{residue}
use Rattle.placing_symbols.specs.Values.{symbol_value}
use Rattle.relocations_rela.specs.declared.sites.Site.{Site}
use Rattle.elf_read.specs.Headers.{address_width}
use Rattle.relocations_rela.specs.Sites.{entry, A}

-- S of relocation j, if its symbol resolves
abbrev pub value_at : List ℕ → List ℕ → List ℕ → Site → ℕ → SymbolValue
value_at object order addresses x j = symbol_value object order addresses (entry object x j).symbol

-- S. A symbol that does not resolve counts as 0 here; check 10 has refused it before the value is used.
abbrev pub S : SymbolValue → ℕ
S (Ok v) = v.0
S (Err reason) = 0

-- "S + A is reduced modulo 2^32, then called T": modulo 2^w, where addresses have w bits
abbrev pub T : ℕ → ℕ → ℤ → ℕ
T w s a = residue w (pos s +ℤ a)

-- T of relocation j
abbrev pub target_at : List ℕ → List ℕ → List ℕ → Site → ℕ → ℕ
target_at object order addresses x j = T (address_width object) (S (value_at object order addresses x j)) (A object x j)
