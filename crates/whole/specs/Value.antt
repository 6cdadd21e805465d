-- What a stored number means: the whole number that the float is, or none. A NaN, an infinity, a fraction, a negative number and -0.0 mean
-- none. Above 2 ^ 53 every finite float is whole and means its own exact value; the project's ranges end far below.
use Rattle.std.specs.Prelude.{ℕ, ◌*◌, ◌/◌, ◌%◌, true, false, ◌==◌, Float, Option, None}
use Rattle.std.specs.Float.{nan, inf, fin}
use Rattle.std.specs.Float.Ieee.{up, down}
use Rattle.basics.specs.Options.{given}

unfoldable pub value : Float → Option ℕ
value nan = None
value (inf s) = None
value (fin true m e) = None
value (fin false m e) = given (m * up e % down e == 0) (m * up e / down e)
