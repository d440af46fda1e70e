-- Document 01, "When the fitter says no": checks 2 to 14 in their order, and the plan of an install that passes them all. It depends
-- on object, order and image length alone. Document 02: "the class is read before the order, so the checks run 1, 4, 2, 3, 5 for both classes".
use Rattle.std.specs.Prelude.{ℕ, Bool, cond, List, Err, Ok, Result, ⊤}
use Rattle.order_format.specs.Orders.{base, well_formed}
use Rattle.order_format.specs.Windows.{window_allowed}
use Rattle.order_lookup.specs.Addresses.{addresses, addresses_for, base_for}
use Rattle.elf_read.specs.Headers.{class_of, address_width, section_count}
use Rattle.elf_header.specs.Headers.{header_allowed}
use Rattle.elf_check.specs.Rules.{section_check}
use Rattle.plan_pieces.specs.Answers.{says, says_why}
use Rattle.plan_pieces.specs.Plans.{Piece, Verdict, refused, plan, Judge}
use Rattle.placing_match.specs.Placements.{placement_check}
use Rattle.placing_match.specs.Externals.{external_check}
use Rattle.placing_check.specs.Placing.{placing_check}
use Rattle.relocations_rules.specs.declared.Broken.{Broken}
use Rattle.relocations_rules.specs.Search.{number, reason, relocation_check}
use Rattle.relocations_bytes.specs.Sections.{relocated}
use Rattle.placing_span.specs.Pieces.{pieces}

-- ---- a check that passes leaves the verdict to those after it; one that is broken gives its number and place

-- 2, 3 and 4, which have place 0
abbrev pub after_test : ℕ → Bool → Verdict → Verdict
after_test n kept next = cond kept next (refused (says n 0))

-- 5
abbrev pub after_sections : Result ⊤ ℕ → Verdict → Verdict
after_sections (Ok _) next = next
after_sections (Err i) next = refused (says 5 i)

-- 6, 7, 8
abbrev pub after_fault : ℕ → Result ⊤ ℕ → Verdict → Verdict
after_fault n (Ok _) next = next
after_fault n (Err place) next = refused (says n place)

-- 9 to 14; 10 carries its reason
abbrev pub after_relocations : Result ⊤ Broken → Verdict → Verdict
after_relocations (Ok _) next = next
after_relocations (Err b) next = refused (says_why (number b.finding) b.relocation (reason b.finding))

-- ---- the plan: the bytes of each loaded section after its relocations, "each at its address less that order's base"

unfoldable pub plan_of : List ℕ → List ℕ → List Piece
plan_of object order =
    let a = addresses_for object order in
    pieces (relocated object order a) object a (base_for object order) (section_count object)

-- ---- the judgement, document 01's table line by line

unfoldable pub judgement : Judge
judgement object order len =
    let c = class_of object in
    let a = addresses c order in
    -- 4 "header or file length"
    after_test 4 (header_allowed object)
    -- 2 "order bytes malformed"
    (after_test 2 (well_formed c order)
    -- 3 "window rule broken"
    (after_test 3 (window_allowed (address_width object) (base c order) len)
    -- 5 "row table (place 0) or row rule"
    (after_sections (section_check object)
    -- 6 "placements differ from allocated rows"
    (after_fault 6 (placement_check object order)
    -- 7 "outside value for a wrong symbol"
    (after_fault 7 (external_check object order)
    -- 8 "placing"
    (after_fault 8 (placing_check object a (base c order) len)
    -- 9 to 14
    (after_relocations (relocation_check object order a)
    (plan (plan_of object order)))))))))
