-- A whole number that a float holds is its own whole part. Assumes nothing.
use Rattle.std.proofs.Common.{◌≡◌, ℕ, ◌≤◌}
use Rattle.whole.specs.Whole.{fl, limit}
use Rattle.whole.proofs.Bits.{fl-back, minus-one-lt, lt-top}
use Rattle.listing_lines.specs.Number.{whole_part}

pub whole-part-fl : (n : ℕ) → n ≤ limit → whole_part (fl n) ≡ n
unfolding whole_part
whole-part-fl n h = rw (minus-one-lt n h, lt-top n h) (fl-back n h)
