-- What the functions that lay ask of their callers.
use Rattle.std.specs.Prelude.{◌≡◌, List, ℕ, Ok}
use Rattle.elf_check.specs.Requires.{SoundObject}
use Rattle.relocations_rela.specs.Requires.{Placed}
use Rattle.relocations_rules.specs.Search.{relocation_check}
use Rattle.relocations_check_all.specs.Sites.{Worked}

-- every check has passed, and what each relocation stores is worked out
pub record Layable (object order addresses words sizes : List ℕ) : Type 0 where
  pub sound : SoundObject object
  pub placed : Placed object addresses
  pub passed : relocation_check object order addresses ≡ Ok tt
  pub worked : Worked object order addresses words sizes
