-- Document 01, "Window": "the image covers base up to base + its length; length 0 to 65,536, end at most 2^32". Document 02: "object and image
-- up to 1,048,576 bytes", and of class 2 "window and rows end at most at 2^64". So the end is at most 2^w, where addresses have w bits.
use Rattle.std.specs.Prelude.{ℕ, ◌+◌, ◌^◌, Bool, ◌&&◌, leb}

abbrev pub max_image : ℕ
max_image = 1048576

-- check 3 of a rollback: the length only
unfoldable pub length_allowed : ℕ → Bool
length_allowed len = leb len max_image

-- check 3 of an install, where addresses have w bits
unfoldable pub window_allowed : ℕ → ℕ → ℕ → Bool
window_allowed w base len = length_allowed len && leb (base + len) (2 ^ w)
