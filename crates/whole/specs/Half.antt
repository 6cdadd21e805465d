-- Numbers from 0 to one half, beside whole ones.
use Rattle.std.specs.Prelude.{ℕ, ◌^◌, false, T, negsuc, Float}
use Rattle.std.specs.Float.Ieee as Ieee
use Rattle.std.specs.Float.{fin}
use Rattle.whole.specs.Order.{nonneg}

-- one half
abbrev pub half : Float
half = fin false 1 (negsuc 0)

-- from 0 to one half
pub record Small (g : Float) : Type 0 where
  pub clear : T (nonneg g)
  pub low : T (Ieee.le g half)

-- up to here the halves between whole numbers are values of the format, too
abbrev pub halves : ℕ
halves = 2 ^ 52
