-- Numbers that are written at a width.
use mathlib.Core.Path.{◌≡◌, ap, ◌∙◌}
use mathlib.Core.List.{List}
use Prim.Native.Nat.{ℕ, ◌%◌, ◌^◌}
use lib.Seq.{sets}
use Rattle.numbers_definitions.specs.Bytes.{bytes}
use Rattle.numbers_definitions.proofs.Laws.Bytes.{bytes_mod}

-- the lowest n bytes of a number are those of the number modulo 256 ^ n
pub stored : (b n : ℕ) (l s : List ℕ) (at x : ℕ) → n ≡ b → l ≡ sets s at (bytes b (x % 256 ^ b)) → l ≡ sets s at (bytes n x)
stored b n l s at x e h = rw e (h ∙ ap (sets s at) (bytes_mod b x))
