-- Why a symbol has no value (document 02, Ticket 9), and the number of each reason.
use Rattle.std.specs.Prelude.{ℕ, Bool, ⊤, cond, Result, Err}
use Rattle.numbers_definitions.specs.declared.Address.{Address}
use Rattle.placing_symbols.specs.declared.Reason.{Reason}
use Rattle.placing_symbols.specs.declared.Reason.TheVariants.{PastTable, NotAllocated, Common, Reserved, Undefined, WrongType, OutsideTarget}

-- S: the value of a symbol, or why it has none
abbrev pub SymbolValue : Type 0
SymbolValue = Result Address Reason

-- whether a symbol resolves, or why it does not
abbrev pub State : Type 0
State = Result ⊤ Reason

-- "past the table, row missing or not allocated .., common .., reserved section .., undefined, not weak and without a value in the order,
-- wrong type .., not in the target row ..; .. in this order, numbered 1 to 7"
abbrev pub reason_number : Reason → ℕ
reason_number PastTable = 1
reason_number NotAllocated = 2
reason_number Common = 3
reason_number Reserved = 4
reason_number Undefined = 5
reason_number WrongType = 6
reason_number OutsideTarget = 7

-- "the first that applies": this reason if it does, otherwise what those after it say
abbrev pub because : Reason → Bool → SymbolValue → SymbolValue
because reason applies next = cond applies (Err reason) next
