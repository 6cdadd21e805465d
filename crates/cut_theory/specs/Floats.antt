-- Floats as costs: +∞ stands for what cannot be done.
use Rattle.std.specs.Prelude.{T, Float}
use Rattle.whole.specs.Order.{nonneg}

-- no NaN, and the sign is clear
abbrev pub Nonneg : Float → Type 0
Nonneg x = T (nonneg x)
