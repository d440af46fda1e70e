-- Number, place and reason of each answer of a call.
use Rattle.std.specs.Prelude.{⊤, Result, Ok, Err}
use Rattle.plan_pieces.specs.Answers.{Answer as Numbered, says, says_why, done}
use Rattle.placing_symbols.specs.Reasons.{reason_number}
use Rattle.calls_judge.specs.declared.Refusal.{Refusal}
use Rattle.calls_judge.specs.declared.Refusal.TheVariants.{JournalUnsound, OrderMalformed, WindowBroken, BadHeader, BadSection, PlacementsDiffer, WrongExternal, Misplaced, RelocationShape, SymbolUnresolved, WrongInstruction, NotOnePair, OutOfReach, PaddingOffBoundary, JournalFull, NothingStands}

abbrev pub answer_of : Result ⊤ Refusal → Numbered
answer_of (Ok _) = done
answer_of (Err JournalUnsound) = says 1 0
answer_of (Err OrderMalformed) = says 2 0
answer_of (Err WindowBroken) = says 3 0
answer_of (Err BadHeader) = says 4 0
answer_of (Err (BadSection section)) = says 5 section
answer_of (Err (PlacementsDiffer section)) = says 6 section
answer_of (Err (WrongExternal symbol)) = says 7 symbol
answer_of (Err (Misplaced section)) = says 8 section
answer_of (Err (RelocationShape relocation)) = says 9 relocation
answer_of (Err (SymbolUnresolved relocation reason)) = says_why 10 relocation (reason_number reason)
answer_of (Err (WrongInstruction relocation)) = says 11 relocation
answer_of (Err (NotOnePair relocation)) = says 12 relocation
answer_of (Err (OutOfReach relocation)) = says 13 relocation
answer_of (Err (PaddingOffBoundary relocation)) = says 14 relocation
answer_of (Err JournalFull) = says 15 0
answer_of (Err NothingStands) = says 16 0
