-- What the judgement leaves for laying.
use Rattle.std.specs.Prelude.{◌≡◌, List, ℕ, Result, Ok, Err}
use Rattle.order_lookup.specs.Addresses.{addresses_for}
use Rattle.relocations_check_all.specs.Sites.{Roomy, Worked}
use Rattle.order_format.specs.declared.OrderHeader.{OrderHeader}
use Rattle.plan_pieces.specs.Plans.{refused, plan}
use Rattle.calls_judgement.specs.Judgement.{plan_of, judgement}
use Rattle.calls_judgement.specs.Requires.{Placeable}
use Rattle.calls_judge.specs.declared.Refusal.{Refusal}
use Rattle.calls_judge.specs.Answers.{answer_of}

-- scratch arrays with an entry for each relocation of the object
pub record Lent (object highs words sizes : List ℕ) : Type 0 where
  pub highs_room : Roomy object highs
  pub words_room : Roomy object words
  pub sizes_room : Roomy object sizes

-- the address array, and what each relocation stores
pub record Ready (object order array words sizes : List ℕ) : Type 0 where
  pub addresses_are : array ≡ addresses_for object order
  pub worked : Worked object order array words sizes

-- checks 2 to 8 have passed, and the address array is filled; or the refusal is that of the judgement
abbrev pub PlacedWell : (object order : List ℕ) (counts : OrderHeader) (len : ℕ) → Result (List ℕ) Refusal → Type 0
PlacedWell object order counts len (Ok addresses) = Placeable object order counts len × (addresses ≡ addresses_for object order)
PlacedWell object order counts len (Err refusal) = judgement object order len ≡ refused (answer_of (Err refusal))

-- every check of the judgement has passed, and everything is ready for laying; or the refusal is that of the judgement
abbrev pub JudgedWell : (object order : List ℕ) (len : ℕ) → Result (List ℕ) Refusal → (words sizes : List ℕ) → Type 0
JudgedWell object order len (Ok addresses) words sizes = (judgement object order len ≡ plan (plan_of object order)) × Ready object order addresses words sizes
JudgedWell object order len (Err refusal) words sizes = judgement object order len ≡ refused (answer_of (Err refusal))
