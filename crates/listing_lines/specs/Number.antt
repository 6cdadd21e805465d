-- A float as a whole number. Definitions only.
use Rattle.std.specs.Prelude.{ℕ, true, false, cond, ◌&&◌, pos, Float}
use Rattle.std.specs.Float.{fin}
use Rattle.std.specs.Float.Ieee.{lt, to_unsigned}

-- x without its fraction, where it is above -1 and below 2 ^ 64
unfoldable pub whole_part : Float → ℕ
whole_part x = cond (lt (fin true 1 (pos 0)) x && lt x (fin false 1 (pos 64))) (to_unsigned 64 x) 0
