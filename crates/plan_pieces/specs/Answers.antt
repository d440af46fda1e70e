-- What a call answers: document 01, "When the fitter says no", and document 02, Ticket 9.
use Rattle.std.specs.Prelude.{◌≡◌, ℕ, ◌+◌, ◌*◌, ◌/◌, ◌%◌, ◌^◌, ◌<◌}

-- A number, a place, and a second number, the reason. "Answer 10 carries it as a second number, ..; all other answers carry 0 there".
pub record Answer : Type 0 where
  pub number : ℕ
  pub place : ℕ
  pub reason : ℕ

abbrev pub says_why : ℕ → ℕ → ℕ → Answer
says_why n p r = record { number = n; place = p; reason = r }

abbrev pub says : ℕ → ℕ → Answer
says n p = says_why n p 0

-- "done"
abbrev pub done : Answer
done = says 0 0

-- an answer as one number, for callers in other languages: the number in the low eight bits, the reason in the next eight, the place in the
-- upper 32
abbrev pub packed : Answer → ℕ
packed a = a.number + 256 * a.reason + 4294967296 * a.place

-- What a caller in another language reads out of that number. The low eight bits are the answer's number, the next eight its reason, the
-- upper 32 its place, and the bits between are 0.
pub record Reads (code : ℕ) (a : Answer) : Type 0 where
  pub number_is : code % 2 ^ 8 ≡ a.number
  pub reason_is : code / 2 ^ 8 % 2 ^ 8 ≡ a.reason
  pub place_is : code / 2 ^ 32 ≡ a.place
  pub rest_is : code / 2 ^ 16 % 2 ^ 16 ≡ 0
  pub fits : code < 2 ^ 64
