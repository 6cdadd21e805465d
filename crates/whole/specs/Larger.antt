-- The larger of two numbers, as Rust's `a.max(b)` on floats that are no NaN.
use Rattle.std.specs.Prelude.{cond, Float}
use Rattle.std.specs.Float.Ieee as Ieee

abbrev pub larger_f : Float → Float → Float
larger_f a b = cond (Ieee.lt a b) b a
