-- "Checks run in this order. Rows go upward. Records go by RELA row, then file order, each through 9 to 14 before the next." This file
-- says what the first broken rule of any list of checks is, and gives document 01's table as such a list. Document 02: "the class is read
-- before the order, so the checks run 1, 4, 2, 3, 5 for both classes".
use Rattle.std.specs.Prelude.{◌⊎◌, ◌≡◌, List, ℕ, ◌^◌, ◌<◌, length}
use Rattle.order_lookup.specs.Addresses.{base_for}
use Rattle.elf_read.specs.Headers.{class_of, address_width, section_count}
use Rattle.elf_read.specs.Entries.{relocation_count}
use Rattle.elf_check.specs.Sound.{SoundSection}
use Rattle.journal_format.specs.Journals.{Sound}
use Rattle.plan_pieces.specs.Answers.{Answer, says_why}
use Rattle.journal_history.specs.Calls.{Files}
use Rattle.placing_symbols.specs.declared.Reason.TheVariants.{PastTable, NotAllocated, Common, Reserved, Undefined, WrongType, OutsideTarget}
use Rattle.placing_symbols.specs.Reasons.{reason_number}
use Rattle.calls_demands.specs.Rules.{OrderWell, WindowWell, HeaderWell, TableWell, PlacedAsAllocated, ValuedIfUndefined, PlacedIfAllocated, InTable, InAllocated, NotCommon, NotReserved, NotMissing, RightType, InTarget, of_relocation, Shape, FormIs, OnePair, Reaches, OnBoundary, Room}

-- Rules with their numbers: document 01's number, and the reason, which is 0 but for 10. Each rule is a proposition about a place, and all of
-- them are checked at one place before the next.
pub data Line : Type 1 where
  nil : Line
  rule : ℕ → ℕ → (ℕ → Type 0) → Line → Line

-- checks, one after the other: how many places each has, and its rules
pub data Checks : Type 1 where
  none : Checks
  check : ℕ → Line → Checks → Checks

-- ---- every rule holds

-- at a place
abbrev pub HoldAt : Line → ℕ → Type 0
HoldAt nil p = Unit {0}
HoldAt (rule n r R l) p = R p × HoldAt l p

-- at every place below m
abbrev pub HoldBelow : Line → ℕ → Type 0
HoldBelow l m = (p : ℕ) → p < m → HoldAt l p

abbrev pub AllHold : Checks → Type 0
AllHold none = Unit {0}
AllHold (check m l c) = HoldBelow l m × AllHold c

-- ---- the first that is broken, which an answer names by its number, its place and its reason

-- the rules before it hold at its place
abbrev pub BrokenAt : Line → Answer → Type 0
BrokenAt nil a = ⊥
BrokenAt (rule n r R l) a = ((a ≡ says_why n a.place r) × (R a.place → ⊥)) ⊎ (R a.place × BrokenAt l a)

-- the checks before it hold everywhere, and its own check holds at every lower place
abbrev pub FirstBroken : Checks → Answer → Type 0
FirstBroken none a = ⊥
FirstBroken (check m l c) a = ((a.place < m) × HoldBelow l a.place × BrokenAt l a) ⊎ (HoldBelow l m × FirstBroken c a)

-- ---- document 01's table, with the reasons of document 02

-- a check with one rule, at place 0 alone
abbrev pub one : ℕ → Type 0 → Checks → Checks
one n R c = check 1 (rule n 0 (λ _. R) nil) c

-- a check with one rule, at each place below m
abbrev pub each : ℕ → ℕ → (ℕ → Type 0) → Checks → Checks
each m n R c = check m (rule n 0 R nil) c

unfoldable pub table : List ℕ → List ℕ → Files → Checks
table object order f =
    one 1 (Sound f.journal (length f.image))
    (one 4 (HeaderWell object)
    (one 2 (OrderWell (class_of object) order)
    (one 3 (WindowWell (address_width object) (base_for object order) (length f.image))
    (one 5 (TableWell object)
    (each (section_count object) 5 (SoundSection object)
    (each (2 ^ 32) 6 (PlacedAsAllocated object order)
    (each (2 ^ 32) 7 (ValuedIfUndefined object order)
    (each (section_count object) 8 (PlacedIfAllocated object order (length f.image))
    (check (relocation_count object)
    (rule 9 0 (Shape object order)
    -- Ticket 9: "the first that applies, in this order, numbered 1 to 7"
    (rule 10 (reason_number PastTable) (of_relocation object order (InTable object))
    (rule 10 (reason_number NotAllocated) (of_relocation object order (InAllocated object))
    (rule 10 (reason_number Common) (of_relocation object order (NotCommon object))
    (rule 10 (reason_number Reserved) (of_relocation object order (NotReserved object))
    (rule 10 (reason_number Undefined) (of_relocation object order (NotMissing object order))
    (rule 10 (reason_number WrongType) (of_relocation object order (RightType object))
    (rule 10 (reason_number OutsideTarget) (of_relocation object order (InTarget object))
    (rule 11 0 (FormIs object order)
    (rule 12 0 (OnePair object order)
    (rule 13 0 (Reaches object order)
    (rule 14 0 (OnBoundary object order) nil))))))))))))
    (one 15 (Room object order f.journal) none))))))))))
