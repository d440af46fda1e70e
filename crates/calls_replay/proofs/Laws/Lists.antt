-- Laws of a list of calls: where a call ends, and when there is one.
use mathlib.Core.Path.{◌≡◌, sym, ap, ◌∙◌}
use mathlib.Core.Bool.{Bool, true, false, cond, ◌||◌}
use mathlib.Core.List.{List}
use Prim.Native.Nat.{ℕ, zero, suc, ◌+◌, ◌≤◌, ◌<◌}
use native.Mathlib.Numerals.{add-one}
use native.Mathlib.Omega.{arith}
use lib.ListN.{length}
use lib.Dec.{leb, eqb}
use borrow.Author.Tests.{leb-true, lt-leb, le-leb, eqb-true, eq-eqb, ne_eqb}
use Rattle.numbers_definitions.specs.First.{everywhere}
use Rattle.numbers_definitions.proofs.Laws.First.{everywhere_is, everywhere_at, everywhere_not}
use Rattle.numbers_definitions.proofs.Laws.Tests.{and_left, and_right, and_true, and_false, both}
use Rattle.calls_replay.specs.Lists.{FIT, TAKE_BACK, call_count, kind_at, object_length, order_length, call_end, is_call, call_start, is_list}

module _ (s : List ℕ) (at : ℕ) where
  -- where a call ends, by its kind
  pub end_of_fit : kind_at s at ≡ FIT → call_end s at ≡ at + 12 + object_length s at + order_length s at
  unfolding call_end
  end_of_fit e = rw (eq-eqb (kind_at s at) FIT e)

  pub end_of_other : (kind_at s at ≡ FIT → ⊥) → call_end s at ≡ at + 4
  unfolding call_end
  end_of_other n = rw (ne_eqb (kind_at s at) FIT n)

  pub end_above : at + 4 ≤ call_end s at
  unfolding call_end
  end_above = go (eqb (kind_at s at) FIT)
    where
      go : (b : Bool) → at + 4 ≤ cond b (at + 12 + object_length s at + order_length s at) (at + 4)
      go true = omega arith
      go false = omega arith

  -- a call ends inside the bytes
  pub ends_inside : is_call s at ≡ true → call_end s at ≤ length s
  unfolding is_call
  ends_inside e = leb-true (call_end s at) (length s) (and_right (eqb (kind_at s at) FIT || eqb (kind_at s at) TAKE_BACK) (leb (call_end s at) (length s)) e)

  -- there is no call that ends past the bytes
  pub none_past : length s < call_end s at → is_call s at ≡ false
  unfolding is_call
  none_past h = rw (lt-leb (call_end s at) (length s) h, and_false)

  -- for a fit, its end decides
  pub fit_decides : kind_at s at ≡ FIT → is_call s at ≡ leb (call_end s at) (length s)
  unfolding is_call
  fit_decides e = rw (eq-eqb (kind_at s at) FIT e)

  -- for any other kind that lies inside the bytes, the kind decides
  pub kind_decides : (kind : ℕ) → kind_at s at ≡ kind → (kind ≡ FIT → ⊥) → at + 4 ≤ length s → is_call s at ≡ eqb kind TAKE_BACK
  unfolding is_call
  kind_decides kind e n h =
      let none : kind_at s at ≡ FIT → ⊥ = λ f. n (sym e ∙ f) in
      rw (ne_eqb (kind_at s at) FIT none, end_of_other none, le-leb (at + 4) (length s) h, and_true) (ap (λ k. eqb k TAKE_BACK) e)

-- ---- lists

module _ (s : List ℕ) where
  pub start_above : (i : ℕ) → 4 ≤ call_start s i
  unfolding call_start
  start_above zero = omega arith
  start_above (suc i) = omega (arith, start_above i, end_above s (call_start s i))

  pub start_next : (i : ℕ) → call_start s (i + 1) ≡ call_end s (call_start s i)
  unfolding call_start
  start_next i = rw (add-one i)

  pub list_is : ((i : ℕ) → i < call_count s → is_call s (call_start s i) ≡ true) → call_start s (call_count s) ≡ length s → is_list s ≡ true
  unfolding is_list
  list_is calls e = both _ _ (everywhere_is (λ i. is_call s (call_start s i)) (call_count s) calls) (eq-eqb (call_start s (call_count s)) (length s) e)

  pub not_list_call : (i : ℕ) → i < call_count s → is_call s (call_start s i) ≡ false → is_list s ≡ false
  unfolding is_list
  not_list_call i h e = rw (everywhere_not (λ j. is_call s (call_start s j)) (call_count s) i h e)

  pub not_list_end : (call_start s (call_count s) ≡ length s → ⊥) → is_list s ≡ false
  unfolding is_list
  not_list_end n = rw (ne_eqb (call_start s (call_count s)) (length s) n, and_false)

  -- in a list, a call stands at every start, and the calls end where the bytes end
  pub list_call : is_list s ≡ true → (i : ℕ) → i < call_count s → is_call s (call_start s i) ≡ true
  unfolding is_list
  list_call e =
      everywhere_at (λ i. is_call s (call_start s i)) (call_count s)
      (and_left (everywhere (λ i. is_call s (call_start s i)) (call_count s)) (eqb (call_start s (call_count s)) (length s)) e)

  pub list_end : is_list s ≡ true → call_start s (call_count s) ≡ length s
  unfolding is_list
  list_end e =
      eqb-true (call_start s (call_count s)) (length s)
      (and_right (everywhere (λ i. is_call s (call_start s i)) (call_count s)) (eqb (call_start s (call_count s)) (length s)) e)
