-- What the final bytes of a section say when they are read by the manual's fields.
use Rattle.std.specs.Prelude.{◌≡◌, Bool, cond, List, ℕ, zero, suc, ◌/◌, ◌%◌, ◌^◌, eqb, ℤ, pos, ◌+ℤ◌, ◌-ℤ◌}
use Rattle.numbers_definitions.specs.Bytes.{le_at}
use Rattle.numbers_definitions.specs.Whole.{residue, signed}
use Rattle.instructions_fields.specs.declared.Field.{Field}
use Rattle.instructions_fields.specs.Layouts.{format_u, format_i, read, outside}
use Rattle.instructions_fields.specs.Fields.{layout, value_bits}
use Rattle.relocations_types.specs.declared.Calculation.{Calculation}
use Rattle.relocations_types.specs.declared.Calculation.TheVariants.{Of, Add, Sub, Set}
use Rattle.relocations_types.specs.declared.Part.{Part}
use Rattle.relocations_types.specs.declared.Part.TheVariants.{Whole, Distance, High, Low, BothHalves}
use Rattle.relocations_types.specs.declared.Decision.{Decision}
use Rattle.relocations_types.specs.declared.Decision.TheVariants.{Marker, Align, Store, Refused}
use Rattle.instructions_riscv.specs.Halves.{low}
use Rattle.instructions_riscv.specs.Ranges.{distance}
use Rattle.relocations_rela.specs.declared.sites.Site.{Site}
use Rattle.elf_read.specs.Headers.{address_width}
use Rattle.relocations_rela.specs.Sites.{count, decision_at, offset, P, found}
use Rattle.relocations_values.specs.Values.{target_at}
use Rattle.relocations_bytes.specs.Patches.{high_part, operand_of}
use Rattle.relocations_bytes.specs.Sections.{sum_at, pair_distance}

-- ---- ADD, SUB and SET at one place

-- One of them, applied to what those before it left. Check 9 lets no other type share their place; the last line only completes the match.
abbrev pub stack_step : Calculation → ℤ → ℤ → ℤ
stack_step Add v x = v +ℤ x
stack_step Sub v x = v -ℤ x
stack_step Set v x = x
stack_step (Of part operand) v x = v

abbrev pub stack_on : Decision → Bool → ℤ → ℤ → ℤ
stack_on (Store r) here v x = cond here (stack_step r.calculation v x) v
stack_on Marker here v x = v
stack_on Align here v x = v
stack_on Refused here v x = v

-- The whole number that the first j relocations make of v at an offset, in file order: "V + S + A, V - S - A", "S + A".
unfoldable pub stack_at : List ℕ → List ℕ → List ℕ → Site → ℕ → ℕ → ℕ → ℤ
stack_at object order addresses x at v zero = pos v
stack_at object order addresses x at v (suc j) =
    stack_on (decision_at object x j) (eqb (offset object x j) at) (stack_at object order addresses x at v j) (sum_at object order addresses x j)

-- ---- what is read out of the bytes b of a relocation, as one number, where addresses have w bits. t is T, p is P, d the paired high half's
-- T - P, total the stack's number. LUI and AUIPC leave 32 bits that the machine extends to w by their sign.

-- a number of 32 bits, extended by its sign to w bits
abbrev pub extended : ℕ → ℕ → ℕ
extended w u = residue w (signed 32 u)

-- a part of the operand v
abbrev pub SaidPart : ℕ → Part → Field → ℕ → ℕ → ℕ → ℕ → Type 0
-- 1, 57: the low 32 bits of T and of T - P; 2, in class 2: the 64 bits of T. They are as many as the field has.
SaidPart w Whole f b v t p = read (layout f) b ≡ v % 2 ^ value_bits f
-- 16, 17, 44, 45: "every jump gives its whole distance", which "means the reduced one": the field, as a signed number, is the distance, and P
-- plus it is T modulo 2^w
SaidPart w Distance f b v t p =
    (signed (value_bits f) (read (layout f) b) ≡ distance w t p) × (residue w (pos p +ℤ signed (value_bits f) (read (layout f) b)) ≡ t)
-- 23, 26: the high half of T - P; of T
SaidPart w High f b v t p = extended w (read (layout f) b) ≡ high_part w v
-- 27, 28: the low half of T, from -2,048 to 2,047; 24, 25: the low half of the paired high half's T - P
SaidPart w Low f b v t p = signed 12 (read (layout f) b) ≡ low w v
-- 18, 19: the high half and the low half, each read out of its own instruction, add up to T - P modulo 2^w
SaidPart w BothHalves f b v t p = residue w (signed 32 (read format_u b) +ℤ signed 12 (read format_i (b / 2 ^ 32))) ≡ v

abbrev pub Said : ℕ → Calculation → Field → ℕ → ℕ → ℕ → ℕ → ℤ → Type 0
Said w (Of part operand) f b t p d total = SaidPart w part f b (operand_of w operand t p d) t p
-- 33..40, 52..56: the number that the whole stack gives, modulo 2 to the power of the width
Said w Add f b t p d total = read (layout f) b ≡ residue (value_bits f) total
Said w Sub f b t p d total = read (layout f) b ≡ residue (value_bits f) total
Said w Set f b t p d total = read (layout f) b ≡ residue (value_bits f) total

-- A store at an offset of a section that was `before` and is now `final`: what is read there, and that the bits outside the field are still
-- the object's.
abbrev pub Stored : ℕ → Decision → List ℕ → List ℕ → ℕ → ℕ → ℕ → ℕ → (ℕ → ℤ) → Type 0
Stored w (Store r) before final at t p d total =
    Said w r.calculation r.field (le_at r.size final at) t p d (total (read (layout r.field) (le_at r.size before at)))
    × (outside (layout r.field) (le_at r.size final at) ≡ outside (layout r.field) (le_at r.size before at))
Stored w Marker before final at t p d total = Unit {0}
Stored w Align before final at t p d total = Unit {0}
Stored w Refused before final at t p d total = Unit {0}

-- relocation j, read out of the final bytes
unfoldable pub ReadsBack : List ℕ → List ℕ → List ℕ → Site → List ℕ → ℕ → Type 0
ReadsBack object order addresses x final j =
    Stored (address_width object) (decision_at object x j) (found object x) final (offset object x j) (target_at object order addresses x j) (P object x j)
    (pair_distance object order addresses x j) (λ v. stack_at object order addresses x (offset object x j) v (count object x))

-- ---- two halves of one number

-- The high half in field f of the bytes b and the low half in field g of the bytes v add up to a number "modulo 2^32", which is 2^w where
-- addresses have w bits.
abbrev pub AddUp : ℕ → Field → ℕ → Field → ℕ → ℕ → Type 0
AddUp w f b g v number = residue w (signed 32 (read (layout f) b) +ℤ signed 12 (read (layout g) v)) ≡ number
