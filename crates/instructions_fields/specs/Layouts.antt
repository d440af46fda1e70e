-- How an immediate lies in an instruction, as the RISC-V unprivileged manual draws it.
use Rattle.std.specs.Prelude.{ℕ, suc, ◌+◌, ◌-◌, ◌*◌, ◌/◌, ◌%◌, ◌^◌, List, [], ◌∷◌}

-- a run of an instruction's bits
pub data Bits : Type 0 where
  -- n bits that do not belong to the immediate: opcode, registers, funct fields
  keep : ℕ → Bits
  -- the manual's imm[high:low]: the immediate's bits high down to low
  imm : ℕ → ℕ → Bits

-- how many bits a run has
abbrev pub size : Bits → ℕ
size (keep n) = n
size (imm high low) = suc high - low

-- The manual's tables, read from bit 0 of the instruction up.
abbrev pub format_u : List Bits
format_u = keep 12 ∷ imm 31 12 ∷ []

abbrev pub format_i : List Bits
format_i = keep 20 ∷ imm 11 0 ∷ []

abbrev pub format_s : List Bits
format_s = keep 7 ∷ imm 4 0 ∷ keep 13 ∷ imm 11 5 ∷ []

abbrev pub format_b : List Bits
format_b = keep 7 ∷ imm 11 11 ∷ imm 4 1 ∷ keep 13 ∷ imm 10 5 ∷ imm 12 12 ∷ []

abbrev pub format_j : List Bits
format_j = keep 12 ∷ imm 19 12 ∷ imm 11 11 ∷ imm 10 1 ∷ imm 20 20 ∷ []

abbrev pub format_cb : List Bits
format_cb = keep 2 ∷ imm 5 5 ∷ imm 2 1 ∷ imm 7 6 ∷ keep 3 ∷ imm 4 3 ∷ imm 8 8 ∷ keep 3 ∷ []

abbrev pub format_cj : List Bits
format_cj =
    keep 2
    ∷ imm 5 5
    ∷ imm 3 1
    ∷ imm 7 7
    ∷ imm 6 6
    ∷ imm 10 10
    ∷ imm 9 8
    ∷ imm 4 4
    ∷ imm 11 11
    ∷ keep 3
    ∷ []

-- the value that is read out of the instruction w, with each run of the immediate at its own place
unfoldable pub read : List Bits → ℕ → ℕ
read [] w = 0
read (keep n ∷ runs) w = read runs (w / 2 ^ n)
read (imm high low ∷ runs) w = w % 2 ^ size (imm high low) * 2 ^ low + read runs (w / 2 ^ size (imm high low))

-- the instruction w with the value v put in: the kept bits come from w, the bits of the immediate from v
unfoldable pub put : List Bits → ℕ → ℕ → ℕ
put [] w v = 0
put (keep n ∷ runs) w v = w % 2 ^ n + 2 ^ n * put runs (w / 2 ^ n) v
put (imm high low ∷ runs) w v = v / 2 ^ low % 2 ^ size (imm high low) + 2 ^ size (imm high low) * put runs (w / 2 ^ size (imm high low)) v

-- the bits outside the field: w with zeros where the immediate lies
unfoldable pub outside : List Bits → ℕ → ℕ
outside [] w = 0
outside (keep n ∷ runs) w = w % 2 ^ n + 2 ^ n * outside runs (w / 2 ^ n)
outside (imm high low ∷ runs) w = 2 ^ size (imm high low) * outside runs (w / 2 ^ size (imm high low))
