-- `number::whole_part` meets its contract. Assumes nothing.
use Rattle.std.proofs.Common.{T, sym, subst}
use lib.Ieee.{of_bits, neg}
use Rattle.listing_lines.specs.Number.{whole_part}
use Rattle.listing_lines.proofs.number.whole_part.Goals as goal

pub truncating_f64_to_u64-requires : goal.truncating_f64_to_u64-requires
unfolding of_bits neg
truncating_f64_to_u64-requires c = record { lower_bound = subst T (sym c.if-x.true) tt; upper_bound = subst T (sym c.if-x-2.true) tt }

pub returns-then-x-2 : goal.returns-then-x-2
unfolding whole_part of_bits neg
returns-then-x-2 c = rw (c.if-x.true, c.if-x-2.true) c.truncating_f64_to_u64.ensures

pub returns-else-x-2 : goal.returns-else-x-2
unfolding whole_part of_bits neg
returns-else-x-2 c = rw (c.if-x.true, c.if-x-2.false)

pub returns-else-x : goal.returns-else-x
unfolding whole_part of_bits neg
returns-else-x c = rw c.if-x.false
