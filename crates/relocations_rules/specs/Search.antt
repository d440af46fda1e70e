-- "Records go by RELA row, then file order, each through 9 to 14 before the next."
use Rattle.std.specs.Prelude.{ℕ, Bool, true, false, cond, List, [], ◌∷◌, ◌++◌, ltb, ⊤, Option, Some, None, Result, Ok, Err}
use Rattle.numbers_definitions.specs.First.{first}
use Rattle.elf_read.specs.Headers.{class_of, has_rvc}
use Rattle.elf_read.specs.Entries.{relocation_count, location_of}
use Rattle.relocations_rela.specs.declared.sites.Site.{Site}
use Rattle.relocations_rules.specs.declared.Finding.{Finding}
use Rattle.relocations_rules.specs.declared.Finding.TheVariants.{BadShape, BadSymbol, BadForm, NoPair, OutOfReach, OffBoundary}
use Rattle.relocations_rules.specs.declared.Broken.{Broken}
use Rattle.relocations_rela.specs.Sites.{site_at, decision_at, A, P}
use Rattle.placing_symbols.specs.Reasons.{reason_number}
use Rattle.relocations_values.specs.Values.{value_at, target_at}
use Rattle.relocations_rela.specs.Shape.{shape_well}
use Rattle.relocations_rules.specs.Rules.{symbol_well, why, form_well, pair_well, distance_well, boundary_well}

-- the number of a finding's check, and the second number that comes with it: that of the reason where the check is 10, otherwise 0
abbrev pub number : Finding → ℕ
number BadShape = 9
number (BadSymbol why) = 10
number BadForm = 11
number NoPair = 12
number OutOfReach = 13
number OffBoundary = 14

abbrev pub reason : Finding → ℕ
reason BadShape = 0
reason (BadSymbol why) = reason_number why
reason BadForm = 0
reason NoPair = 0
reason OutOfReach = 0
reason OffBoundary = 0

-- a check of one relocation: what is found where it is broken, and whether it is kept
pub record Check : Type 0 where
  pub broken : Finding
  pub kept : Bool

abbrev pub check : Finding → Bool → Check
check f b = record { broken = f; kept = b }

-- the first check of a list that is broken, if one is
unfoldable pub first_broken : List Check → Option Finding
first_broken [] = None
first_broken (c ∷ cs) = cond c.kept (first_broken cs) (Some c.broken)

-- "each through 9 to 14 before the next", in two runs
module _ (object order addresses : List ℕ) (x : Site) (j : ℕ) where
  -- 9 to 12
  abbrev pub earlier : List Check
  earlier =
      check BadShape (shape_well object x j)
      ∷ check (BadSymbol (why (value_at object order addresses x j))) (symbol_well object x j (value_at object order addresses x j))
      ∷ check BadForm (form_well object x j)
      ∷ check NoPair (pair_well object x j)
      ∷ []

  -- 13 and 14
  abbrev pub later : List Check
  later =
      check OutOfReach (distance_well (class_of object) (has_rvc object) (decision_at object x j) (target_at object order addresses x j) (P object x j))
      ∷ check OffBoundary (boundary_well (decision_at object x j) (P object x j) (A object x j))
      ∷ []

  -- the first of 9 to 14 that relocation j of a site breaks
  unfoldable pub finding : Option Finding
  finding = first_broken (earlier ++ later)

-- what relocation number k breaks, "counted from 0 over all"
unfoldable pub finding_of : List ℕ → List ℕ → List ℕ → ℕ → Option Finding
finding_of object order addresses k =
    let at = location_of object k in
    finding object order addresses (site_at object addresses at.section) at.entry

abbrev pub is_broken : Option Finding → Bool
is_broken None = false
is_broken (Some f) = true

-- what is answered where relocation number k is found to break a rule, if it is
abbrev pub blamed : Option Finding → ℕ → Result ⊤ Broken
blamed None k = Ok tt
blamed (Some f) k = Err (record { finding = f; relocation = k })

-- checks 9 to 14: the first broken rule of the first relocation that breaks one
unfoldable pub relocation_check : List ℕ → List ℕ → List ℕ → Result ⊤ Broken
relocation_check object order addresses =
    let k = first (λ k. is_broken (finding_of object order addresses k)) (relocation_count object) in
    cond (ltb k (relocation_count object)) (blamed (finding_of object order addresses k) k) (Ok tt)
