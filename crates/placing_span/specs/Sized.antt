-- What the laws of pieces assume.
use Rattle.std.specs.Prelude.{◌≡◌, true, List, ℕ, ◌≤◌, ◌<◌, length, get_or}
use Rattle.elf_read.specs.Sections.{section_at}
use Rattle.placing_check.specs.Placing.{has_bytes}

-- f gives each laid section below n as many bytes as its size says
abbrev pub Sized : (ℕ → List ℕ) → List ℕ → ℕ → Type 0
Sized f object n = (i : ℕ) → i < n → has_bytes (section_at object i) ≡ true → length (f i) ≡ (section_at object i).size

-- each laid section below n starts at the base or above
abbrev pub FromBase : List ℕ → List ℕ → ℕ → ℕ → Type 0
FromBase object addresses base n = (i : ℕ) → i < n → has_bytes (section_at object i) ≡ true → base ≤ get_or addresses i 0
