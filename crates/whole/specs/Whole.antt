-- A natural number as an `f64`, `fl n`. Up to `limit`, 2 ^ 53, every whole number is a value of the format.
use Rattle.std.specs.Prelude.{ℕ, ◌^◌, false, pos, Float}
use Rattle.std.specs.Float.{binary64}
use Rattle.std.specs.Float.Ieee.{of_int}
use Rattle.std.specs.Float.Ieee.Exact.{HasValue}

-- the largest number up to which `fl` loses nothing
abbrev pub limit : ℕ
limit = 2 ^ 53

-- n as an `f64`, which is exact for an n up to `limit`
unfoldable pub fl : ℕ → Float
fl n = of_int binary64 (pos n)

-- x is the number n, and its sign is clear: what the laws go by
abbrev pub Is : Float → ℕ → Type 0
Is x n = HasValue x false n 1
