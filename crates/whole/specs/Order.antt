-- The floats that are no NaN and whose sign is clear, an infinity included.
use Rattle.std.specs.Prelude.{Bool, false, not, Float}
use Rattle.std.specs.Float.{nan, inf, fin}

-- no NaN, and the sign is clear: 0 and above, an infinity included, and -0 not
abbrev pub nonneg : Float → Bool
nonneg nan = false
nonneg (inf s) = not s
nonneg (fin s m e) = not s
