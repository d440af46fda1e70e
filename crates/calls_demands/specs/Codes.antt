-- What an exported function gives back, and which numbers and reasons each call can give. What a caller reads out of a code is `Reads` of `plan_pieces`.
use Rattle.std.specs.Prelude.{◌⊎◌, ◌≡◌, ℕ, ◌≤◌}
use Rattle.plan_pieces.specs.Answers.{packed}
use Rattle.journal_history.specs.Calls.{Files, Outcome}

-- an exported function gives the answer as one number, and leaves image and ledger as the call does
pub record Returned (code : ℕ) (left : Files) (o : Outcome Files) : Type 0 where
  pub code_is : code ≡ packed o.answer
  pub left_is : left ≡ o.after

-- the numbers that a fit can give, and those that a taking-back can give
abbrev pub FitGives : ℕ → Type 0
FitGives n = n ≤ 15

abbrev pub TakeBackGives : ℕ → Type 0
TakeBackGives n = (n ≡ 0) ⊎ ((n ≡ 1) ⊎ ((n ≡ 3) ⊎ (n ≡ 16)))

-- Document 02, Ticket 9: "Answer 10 carries it as a second number, ..; all other answers carry 0 there"
pub record CarriesReason (number reason : ℕ) : Type 0 where
  pub ten : number ≡ 10 → (1 ≤ reason) × (reason ≤ 7)
  pub others : (number ≡ 10 → ⊥) → reason ≡ 0
