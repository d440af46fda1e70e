-- S of every symbol, worked out once: an array of values, and an array of states. A state says that the symbol resolves, or why it does
-- not; "past the table" is there before anything is stored. Both arrays are of one length, with an entry for symbol 0 and for each symbol
-- of the table.
use Rattle.std.specs.Prelude.{◌≡◌, ℕ, ◌≤◌, ◌<◌, cond, List, length, get_or, replicate, ltb, Err, Ok}
use Rattle.numbers_definitions.specs.Places.{address}
use Rattle.elf_read.specs.Entries.{symbol_count}
use Rattle.placing_symbols.specs.declared.Reason.TheVariants.{PastTable}
use Rattle.placing_symbols.specs.Reasons.{State, SymbolValue}
use Rattle.placing_symbols.specs.Values.{symbol_value}

-- arrays of n entries before anything is stored
abbrev pub no_values : ℕ → List ℕ
no_values n = replicate n 0

abbrev pub no_states : ℕ → List State
no_states n = replicate n (Err PastTable)

-- the state and the value that are stored for S
abbrev pub state_of : SymbolValue → State
state_of (Ok a) = Ok tt
state_of (Err reason) = Err reason

abbrev pub number_of : SymbolValue → ℕ
number_of (Ok a) = a.0
number_of (Err reason) = 0

-- S, from a state and a value
abbrev pub decoded : State → ℕ → SymbolValue
decoded (Ok _) value = Ok (address value)
decoded (Err reason) value = Err reason

-- the state at k; past the end of the array is past the table
abbrev pub state_at : List State → ℕ → State
state_at states k = get_or states k (Err PastTable)

-- what two arrays say about symbol k; past their end is past the table
unfoldable pub listed : List ℕ → List State → ℕ → SymbolValue
listed values states k = cond (ltb k (length states)) (decoded (state_at states k) (get_or values k 0)) (Err PastTable)

-- arrays of one length
pub record ValueArrays (values : List ℕ) (states : List State) : Type 0 where
  pub same_length : length values ≡ length states

-- arrays of one length with an entry for symbol 0 and for each symbol of the table
pub record Long (object values : List ℕ) (states : List State) : Type 0 where
  pub arrays : ValueArrays values states
  pub some : 0 < length states
  pub all : symbol_count object ≤ length states

-- such arrays before anything is stored
pub record Blank (object values : List ℕ) (states : List State) : Type 0 where
  pub long : Long object values states
  pub values_are : values ≡ no_values (length values)
  pub states_are : states ≡ no_states (length states)

-- the arrays hold S of every symbol
pub record Valued (object order addresses values : List ℕ) (states : List State) : Type 0 where
  pub long : Long object values states
  pub is : (k : ℕ) → k < length states → decoded (state_at states k) (get_or values k 0) ≡ symbol_value object order addresses k
