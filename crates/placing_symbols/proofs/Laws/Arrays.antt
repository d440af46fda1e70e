-- The arrays of S, as they fill.
use Rattle.std.specs.Prelude.{Err, Ok}
use mathlib.Core.Path.{◌≡◌, refl, sym, ap, ◌∙◌}
use mathlib.Core.Bool.{Bool, true, false, cond}
use mathlib.Core.List.{List}
use Prim.Native.Nat.{ℕ, ◌+◌, ◌≤◌, ◌<◌}
use native.Mathlib.Omega.{arith}
use lib.ListN.{length, get_or, set, length-set, length-replicate, get_or-eq_default}
use Rattle.std.proofs.lemmas.List.{get_or-replicate}
use lib.Seq.{get_or-set_same, get_or-set_other}
use lib.Dec.{ltb}
use borrow.Author.Tests.{ltb-true, ltb-false}
use borrow.Author.Count.{below_more}
use Rattle.numbers_definitions.proofs.Laws.Lists.{zeros_length, zeros_at}
use Rattle.elf_read.specs.Entries.{symbol_count}
use Rattle.placing_symbols.specs.declared.Reason.TheVariants.{PastTable}
use Rattle.placing_symbols.specs.Reasons.{State, SymbolValue}
use Rattle.placing_symbols.specs.Values.{symbol_value}
use Rattle.placing_symbols.specs.Arrays.{no_values, no_states, state_of, number_of, decoded, state_at, listed, Long, Blank, Valued}
use Rattle.placing_symbols.proofs.Laws.Values.{value_past}

-- what is stored for S gives S back
decoded_stored : (v : SymbolValue) → decoded (state_of v) (number_of v) ≡ v
decoded_stored (Ok a) = refl
decoded_stored (Err reason) = refl

zero_at : (l : List ℕ) → l ≡ no_values (length l) → (k : ℕ) → get_or l k 0 ≡ 0
zero_at l e k = ap (λ s. get_or s k 0) e ∙ zeros_at (length l) k

-- a state before anything is stored
blank_at : (l : List State) → l ≡ no_states (length l) → (k : ℕ) → state_at l k ≡ Err PastTable
blank_at l e k = go (ltb k (length l)) refl
  where
    go : (b : Bool) → ltb k (length l) ≡ b → state_at l k ≡ Err PastTable
    go true h = ap (λ s. get_or s k (Err PastTable)) e ∙ get_or-replicate (length l) k (Err PastTable) (Err PastTable) (ltb-true k (length l) h)
    go false h = get_or-eq_default l (Err PastTable) (ltb-false k (length l) h)

-- two arrays of n entries
pub blank : (object : List ℕ) (n : ℕ) → 0 < n → symbol_count object ≤ n → Blank object (no_values n) (no_states n)
blank object n some all =
    let zeros = zeros_length n in
    let long = length-replicate {A = State} n (Err PastTable) in
    record {
      long = record { arrays = record { same_length = zeros ∙ sym long }; some = omega (arith, long); all = omega (arith, long) };
      values_are = sym (ap no_values zeros);
      states_are = sym (ap no_states long);
    }

module _ (object order addresses : List ℕ) where
  -- the arrays hold S of each symbol below n, and no state is stored from n on
  pub record ValuedBelow (values : List ℕ) (states : List State) (n : ℕ) : Type 0 where
    pub long : Long object values states
    pub below : (k : ℕ) → k < n → decoded (state_at states k) (get_or values k 0) ≡ symbol_value object order addresses k
    pub rest : (k : ℕ) → n ≤ k → state_at states k ≡ Err PastTable

  -- the arrays before anything is stored, with the state of symbol 0
  pub below_one : (values : List ℕ) (states : List State) → Blank object values states → ValuedBelow values (set states 0 (Ok tt)) 1
  unfolding symbol_value
  below_one values states b =
      let l = b.long in
      let same = length-set states 0 (Ok tt) in
      record {
        long = record {
          arrays = record { same_length = l.arrays.same_length ∙ sym same };
          some = omega (arith, same, l.some);
          all = omega (arith, same, l.all);
        };
        below = λ k h. let z : k ≡ 0 = omega arith in rw (z, get_or-set_same states 0 (Ok tt) (Err PastTable) l.some, zero_at values b.values_are 0);
        rest = λ k h. get_or-set_other states 0 k (Ok tt) (Err PastTable) (λ z. omega arith) ∙ blank_at states b.states_are k;
      }

  -- one more symbol
  pub below_next : (values : List ℕ) (states : List State) (n : ℕ) → ValuedBelow values states n → n < length states
      → (v : SymbolValue) → v ≡ symbol_value object order addresses n
      → ValuedBelow (set values n (number_of v)) (set states n (state_of v)) (n + 1)
  below_next values states n b h v is =
      let l = b.long in
      let long : n < length values = omega (arith, l.arrays.same_length) in
      let wider = length-set values n (number_of v) in
      let same = length-set states n (state_of v) in
      record {
        long = record {
          arrays = record { same_length = wider ∙ l.arrays.same_length ∙ sym same };
          some = omega (arith, same, l.some);
          all = omega (arith, same, l.all);
        };
        below =
            below_more (λ k. decoded (state_at (set states n (state_of v)) k) (get_or (set values n (number_of v)) k 0) ≡ symbol_value object order addresses k) n
            (λ k l. rw (get_or-set_other states n k (state_of v) (Err PastTable) (λ z. omega arith), get_or-set_other values n k (number_of v) 0 (λ z. omega arith)) (b.below k l))
            (rw (get_or-set_same states n (state_of v) (Err PastTable) h, get_or-set_same values n (number_of v) 0 long) (decoded_stored v ∙ is));
        rest = λ k l. get_or-set_other states n k (state_of v) (Err PastTable) (λ z. omega arith) ∙ b.rest k (omega arith);
      }

  -- every symbol of the table
  pub below_all : (values : List ℕ) (states : List State) (n : ℕ) → ValuedBelow values states n → 0 < n → symbol_count object ≤ n
      → Valued object order addresses values states
  below_all values states n b some all = record { long = b.long; is = λ k h. go k (ltb k n) refl }
    where
      go : (k : ℕ) (t : Bool) → ltb k n ≡ t → decoded (state_at states k) (get_or values k 0) ≡ symbol_value object order addresses k
      go k true e = b.below k (ltb-true k n e)
      go k false e =
          let past : n ≤ k = ltb-false k n e in
          rw (b.rest k past, value_past object order addresses k (omega arith) (omega arith))

-- what the arrays say about any symbol is S of that symbol
pub listed_is : {object order addresses values : List ℕ} {states : List State} → Valued object order addresses values states
    → (k : ℕ) → listed values states k ≡ symbol_value object order addresses k
unfolding listed
listed_is {object} {order} {addresses} {values} {states} v k = go (ltb k (length states)) refl
  where
    go : (b : Bool) → ltb k (length states) ≡ b → cond b (decoded (state_at states k) (get_or values k 0)) (Err PastTable) ≡ symbol_value object order addresses k
    go true e = v.is k (ltb-true k (length states) e)
    go false e =
        let past : length states ≤ k = ltb-false k (length states) e in
        sym (value_past object order addresses k (omega (arith, v.long.some)) (omega (arith, v.long.all)))
