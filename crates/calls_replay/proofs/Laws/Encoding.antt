-- What is read of a list of calls is what the bytes spell: the list that is read has these bytes and no others.
use mathlib.Core.Path.{◌≡◌, refl, sym, ap, ap₂, ◌∙◌}
use mathlib.Core.Bool.{Bool, true, false, ◌||◌}
use mathlib.Core.List.{List, [], ◌∷◌, ◌++◌, append_assoc, append-nil}
use Prim.Native.Nat.{ℕ, zero, suc, ◌+◌, ◌-◌, ◌≤◌, ◌<◌}
use native.Mathlib.Omega.{arith}
use lib.ListN.{length}
use lib.Dec.{leb, eqb}
use borrow.Author.Tests.{eqb-true, eqb-false}
use Rattle.numbers_definitions.specs.Bytes.{le_at, bytes, part}
use Rattle.numbers_definitions.specs.First.{tabulate}
use Rattle.numbers_definitions.proofs.Laws.Bytes.{Bytes, bytes_le_at}
use Rattle.numbers_definitions.proofs.Laws.First.{length_tabulate, tabulate_snoc}
use Rattle.numbers_definitions.proofs.Laws.Lists.{length_part, part_append, part_whole}
use Rattle.numbers_definitions.proofs.Laws.Tests.{and_left, or_right}
use Rattle.journal_history.specs.Calls.{Call}
use Rattle.calls_replay.specs.Lists.{FIT, TAKE_BACK, counted, encode_call, encode_calls, encode, call_count, kind_at, object_length, order_length, call_end, is_call, call_at, call_start, is_list, calls_of}
use Rattle.calls_replay.specs.Requires.{first_calls}
use Rattle.calls_replay.proofs.Laws.Lists.{end_of_fit, end_of_other, ends_inside, end_above, start_above, list_call, list_end}
use Rattle.calls_replay.proofs.Laws.Replays.{call_fit, call_other}

module _ (s : List ℕ) (b : Bytes s) where
  -- bytes after their length
  counted_is : (at n : ℕ) → le_at 4 s at ≡ n → at + 4 + n ≤ length s → counted (part s (at + 4) n) ≡ part s at (4 + n)
  counted_is at n e h =
      ap₂ ◌++◌ (ap (bytes 4) (length_part s (at + 4) n h ∙ sym e) ∙ bytes_le_at 4 s at b (omega arith)) refl
      ∙ part_append s at 4 (at + 4) n refl

  -- a call of the bytes is spelt as they stand
  spelt : (at : ℕ) → is_call s at ≡ true → encode_call (call_at s at) ≡ part s at (call_end s at - at)
  unfolding encode_call is_call
  spelt at is = go (eqb (kind_at s at) FIT) refl
    where
      inside : call_end s at ≤ length s
      inside = ends_inside s at is

      kind : at + 4 ≤ length s → bytes 4 (kind_at s at) ≡ part s at 4
      kind h = bytes_le_at 4 s at b h

      go : (c : Bool) → eqb (kind_at s at) FIT ≡ c → encode_call (call_at s at) ≡ part s at (call_end s at - at)
      go true e =
          let fit : kind_at s at ≡ FIT = eqb-true _ _ e in
          let within : call_end s at ≤ length s = inside in
          let o : ℕ = object_length s at in
          let r : ℕ = order_length s at in
          let ends = end_of_fit s at fit in
          let from : at + 8 ≡ at + 4 + 4 = omega arith in
          let then : at + 12 + o ≡ at + 8 + o + 4 = omega arith in
          let size : 4 + (4 + o + (4 + r)) ≡ call_end s at - at = omega arith in
          ap encode_call (call_fit s at fit)
          ∙ ap₂ ◌++◌ (ap (bytes 4) (sym fit) ∙ kind (omega arith))
          (ap₂ ◌++◌ (ap (λ k. counted (part s k o)) from ∙ counted_is (at + 4) o refl (omega arith))
          (ap (λ k. counted (part s k r)) then ∙ counted_is (at + 8 + o) r refl (omega arith))
          ∙ part_append s (at + 4) (4 + o) (at + 8 + o) (4 + r) (omega arith))
          ∙ part_append s at 4 (at + 4) (4 + o + (4 + r)) refl
          ∙ ap (part s at) size
      go false e =
          let other : kind_at s at ≡ FIT → ⊥ = eqb-false _ _ e in
          let within : call_end s at ≤ length s = inside in
          let ends = end_of_other s at other in
          let size : 4 ≡ call_end s at - at = omega arith in
          let back : kind_at s at ≡ TAKE_BACK = eqb-true _ _ (or_right (eqb (kind_at s at) FIT) (eqb (kind_at s at) TAKE_BACK) e (and_left (eqb (kind_at s at) FIT || eqb (kind_at s at) TAKE_BACK) (leb (call_end s at) (length s)) is)) in
          ap encode_call (call_other s at other) ∙ ap (bytes 4) (sym back) ∙ kind (omega arith) ∙ ap (part s at) size

  encode_append : (a c : List Call) → encode_calls (a ++ c) ≡ encode_calls a ++ encode_calls c
  unfolding encode_calls
  encode_append [] c = refl
  encode_append (x ∷ a) c = ap (λ l. encode_call x ++ l) (encode_append a c) ∙ sym (append_assoc (encode_call x) (encode_calls a) (encode_calls c))

  -- the first i calls are spelt by the bytes up to where call i starts
  first_spelt : (i : ℕ) → ((j : ℕ) → j < i → is_call s (call_start s j) ≡ true) → encode_calls (first_calls s i) ≡ part s 4 (call_start s i - 4)
  unfolding encode_calls call_start part tabulate
  first_spelt zero are = let none : 4 - 4 ≡ 0 = omega arith in sym (ap (part s 4) none)
  first_spelt (suc i) are =
      let at : ℕ = call_start s i in
      let low = start_above s i in
      let above = end_above s (call_start s i) in
      let size : call_start s i - 4 + (call_end s (call_start s i) - call_start s i) ≡ call_end s (call_start s i) - 4 = omega arith in
      ap encode_calls (tabulate_snoc (λ j. call_at s (call_start s j)) i)
      ∙ encode_append (first_calls s i) (call_at s (call_start s i) ∷ [])
      ∙ ap₂ ◌++◌ (first_spelt i (λ j h. are j (omega arith))) (append-nil (encode_call (call_at s (call_start s i))) ∙ spelt (call_start s i) (are i (omega arith)))
      ∙ part_append s 4 (call_start s i - 4) (call_start s i) (call_end s (call_start s i) - call_start s i) (omega arith)
      ∙ ap (part s 4) size

  pub encode_calls_of : is_list s ≡ true → encode (calls_of s) ≡ s
  unfolding calls_of
  encode_calls_of is =
      let last = list_end s is in
      let low = start_above s (call_count s) in
      let size : 4 + (call_start s (call_count s) - 4) ≡ length s = omega arith in
      ap₂ ◌++◌ (ap (bytes 4) (length_tabulate (λ j. call_at s (call_start s j)) (call_count s)) ∙ bytes_le_at 4 s 0 b (omega arith)) (first_spelt (call_count s) (list_call s is))
      ∙ part_append s 0 4 4 (call_start s (call_count s) - 4) refl
      ∙ part_whole s (4 + (call_start s (call_count s) - 4)) (sym size)
