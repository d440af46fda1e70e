-- Which command the arguments ask for.
use Rattle.std.specs.Prelude.{ℕ, ◌≡◌, List, [], ◌∷◌}
use Rattle.program_text.specs.declared.Command.{Command}
use Rattle.program_text.specs.declared.Command.TheVariants.{Fit, TakeBack, Help, Version, Unknown}

-- "fit", in ASCII
abbrev pub «the-fit» : List ℕ
«the-fit» = 102 ∷ 105 ∷ 116 ∷ []

-- "take-back"
abbrev pub «the-take-back» : List ℕ
«the-take-back» = 116 ∷ 97 ∷ 107 ∷ 101 ∷ 45 ∷ 98 ∷ 97 ∷ 99 ∷ 107 ∷ []

-- "--help"
abbrev pub «the-help» : List ℕ
«the-help» = 45 ∷ 45 ∷ 104 ∷ 101 ∷ 108 ∷ 112 ∷ []

-- "--version"
abbrev pub «the-version» : List ℕ
«the-version» = 45 ∷ 45 ∷ 118 ∷ 101 ∷ 114 ∷ 115 ∷ 105 ∷ 111 ∷ 110 ∷ []

-- `word` is the first word, and `count` the number of arguments with the program's own name. A fit names four files, a taking-back two, and the other two none.
abbrev pub Asks : List ℕ → ℕ → Command → Type 0
Asks word count Fit = (word ≡ «the-fit») × (count ≡ 6)
Asks word count TakeBack = (word ≡ «the-take-back») × (count ≡ 4)
Asks word count Help = (word ≡ «the-help») × (count ≡ 2)
Asks word count Version = (word ≡ «the-version») × (count ≡ 2)
Asks word count Unknown =
    (word ≡ «the-fit» → count ≡ 6 → ⊥) × (word ≡ «the-take-back» → count ≡ 4 → ⊥) × (word ≡ «the-help» → count ≡ 2 → ⊥) × (word ≡ «the-version» → count ≡ 2 → ⊥)
