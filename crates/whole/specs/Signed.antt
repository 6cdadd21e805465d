-- Whole numbers below zero too: `flz z` is the integer z as an `f64`.
use Rattle.std.specs.Prelude.{Bool, true, false, ℤ, pos, negsuc, Float}
use Rattle.std.specs.Float.{binary64}
use Rattle.std.specs.Float.Ieee.{of_int}

-- the integer z as an `f64`
unfoldable pub flz : ℤ → Float
flz z = of_int binary64 z

abbrev pub sign : ℤ → Bool
sign (pos n) = false
sign (negsuc n) = true
