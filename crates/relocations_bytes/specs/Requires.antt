-- What inner functions ask of their callers.
use Rattle.std.specs.Prelude.{◌≡◌, List, ℕ, ◌<◌, None}
use Rattle.relocations_rela.specs.declared.sites.Site.{Site}
use Rattle.relocations_rela.specs.Sites.{count}
use Rattle.relocations_rules.specs.Search.{finding}
use Rattle.relocations_rela.specs.Requires.{SoundSite}

-- a site whose relocations break no rule
pub record Checked (object order addresses : List ℕ) (x : Site) : Type 0 where
  pub site : SoundSite object x
  pub kept : (j : ℕ) → j < count object x → finding object order addresses x j ≡ None
