-- An answer with a small number, a small reason and a place of 32 bits is read out of its code again.
use Prim.Native.Nat.{◌^◌, ◌<◌}
use native.Mathlib.Omega.{arith}
use Rattle.plan_pieces.specs.Answers.{Answer, packed, Reads}

pub unpacked : (a : Answer) → a.number < 256 → a.reason < 256 → a.place < 2 ^ 32 → Reads (packed a) a
unpacked a n r p = record { number_is = omega arith; reason_is = omega arith; place_is = omega arith; rest_is = omega arith; fits = omega arith }
