-- Differences of whole numbers: `diff a b` is a - b as an `f64`, of either sign.
use Rattle.std.specs.Prelude.{ℕ, Float}
use Rattle.std.proofs.Math.IntN.{sub_ℕ}
use Rattle.whole.specs.Signed.{flz}

-- a - b
unfoldable pub diff : ℕ → ℕ → Float
diff a b = flz (sub_ℕ a b)
