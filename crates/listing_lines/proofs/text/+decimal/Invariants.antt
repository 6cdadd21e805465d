-- The measure of `text::decimal`: the number.
use Rattle.listing_lines.proofs.text.+decimal.Given as goal

abbrev pub decreases-decimal : goal.decreases-decimal
decreases-decimal l = l.n
