-- The least gain that counts: a part in 10 ^ 12 of the largest distance, the Rust's `gain_floor`. It
-- and what is reckoned with it are rounded.
use Rattle.std.specs.Prelude.{ℕ, Float}
use Rattle.std.specs.Float.Ieee as Ieee
use Rattle.std.specs.Float.{binary64}

-- 1e-12
abbrev pub share : Float
share = Ieee.of_bits binary64 0x3d71_9799_812d_ea11

unfoldable pub gain_floor_f : Float → Float
gain_floor_f scale = Ieee.mul binary64 share scale

-- the largest distance that a sheet may have
abbrev pub farthest : ℕ
farthest = 10000000
