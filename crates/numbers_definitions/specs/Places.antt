-- "a file offset, a row offset and a run-time address are three types that can't be mixed"
-- Each function here makes a number one of them. The number of x is `x.0`.
use Rattle.std.specs.Prelude.{ℕ}
use Rattle.numbers_definitions.specs.declared.FileOffset.{FileOffset}
use Rattle.numbers_definitions.specs.declared.SectionOffset.{SectionOffset}
use Rattle.numbers_definitions.specs.declared.Address.{Address}

-- a place in the object
abbrev pub file_offset : ℕ → FileOffset
file_offset n = record { 0 = n }

-- a place in a section (document 01: a row offset)
abbrev pub section_offset : ℕ → SectionOffset
section_offset n = record { 0 = n }

-- a run-time address
abbrev pub address : ℕ → Address
address n = record { 0 = n }
