-- What inner functions ask of their callers, namely the checks that have passed; and what laying one section leaves.
use Rattle.std.specs.Prelude.{◌≡◌, true, cond, List, ℕ, ◌-◌, get_or, Ok, Some}
use Rattle.std.proofs.lemmas.List.Edits.{sets}
use Rattle.order_format.specs.declared.OrderHeader.{OrderHeader}
use Rattle.order_format.specs.Orders.{reading}
use Rattle.order_format.specs.Windows.{window_allowed}
use Rattle.order_lookup.specs.Addresses.{addresses_for, base_for}
use Rattle.elf_read.specs.Headers.{class_of, address_width}
use Rattle.elf_read.specs.Sections.{section_at}
use Rattle.elf_header.specs.Headers.{header_allowed}
use Rattle.elf_check.specs.Rules.{section_check}
use Rattle.placing_match.specs.Placements.{placement_check}
use Rattle.placing_match.specs.Externals.{external_check}
use Rattle.placing_check.specs.Placing.{placing_check, has_bytes}
use Rattle.relocations_bytes.specs.Sections.{relocated}
use Rattle.relocations_rules.specs.Search.{relocation_check}

-- checks 4, 2, 3 and 5
pub record Readable (object order : List ℕ) (counts : OrderHeader) (len : ℕ) : Type 0 where
  pub header : header_allowed object ≡ true
  pub reading_is : reading (class_of object) order ≡ Some counts
  pub window : window_allowed (address_width object) (base_for object order) len ≡ true
  pub sections : section_check object ≡ Ok tt

-- checks 2 to 7
pub record Named (object order : List ℕ) (counts : OrderHeader) (len : ℕ) : Type 0 where
  pub readable : Readable object order counts len
  pub placements : placement_check object order ≡ Ok tt
  pub externals : external_check object order ≡ Ok tt

-- checks 2 to 8
pub record Placeable (object order : List ℕ) (counts : OrderHeader) (len : ℕ) : Type 0 where
  pub named : Named object order counts len
  pub placing : placing_check object (addresses_for object order) (base_for object order) len ≡ Ok tt

-- checks 2 to 14
pub record Fitting (object order : List ℕ) (counts : OrderHeader) (len : ℕ) : Type 0 where
  pub placeable : Placeable object order counts len
  pub relocations : relocation_check object order (addresses_for object order) ≡ Ok tt

-- an image with section t laid into it
unfoldable pub with_section : List ℕ → List ℕ → ℕ → List ℕ → List ℕ
with_section object order t image =
    cond (has_bytes (section_at object t)) (sets image (get_or (addresses_for object order) t 0 - base_for object order) (relocated object order (addresses_for object order) t)) image
