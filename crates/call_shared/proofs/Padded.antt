-- The customers lent, padded to 64 records, are an array gathered from them, and each array of 64 records is gathered from some customers. Assumes nothing.
use Prim.Native.Nat.{ℕ, ◌≤◌}
use native.Mathlib.Omega.{arith}
use native.Mathlib.Decide.{dec_le}
use mathlib.Core.Path.{◌≡◌, refl, sym, ◌∙◌}
use mathlib.Core.List.{List}
use lib.ListN.{length, take}
use lib.Seq.{take_all}
use Rattle.models.specs.declared.customer.Customer.{Customer}
use Rattle.lending.specs.Padding.{padded}
use Rattle.lending.proofs.Lists.{padded-length, take-padded, padded-whole}
use Rattle.refuse_order.specs.Lent.{Gathered}

module _ (cs : List Customer) where
  first-same : Dec (length cs ≤ 64) → take 64 cs ≡ take (length cs) (padded 64 cs)
  first-same (yes l) = take_all 64 cs l ∙ sym (padded-whole 64 cs l)
  first-same (no l) =
      sym (take-padded 64 64 cs (omega arith) (omega (arith, l)))
      ∙ take_all 64 (padded 64 cs) (omega (arith, padded-length 64 cs))
      ∙ sym (take_all (length cs) (padded 64 cs) (omega (arith, l, padded-length 64 cs)))

  pub padded-gathered : Gathered cs (length cs) (padded 64 cs)
  padded-gathered = record { counted = refl; first = first-same (dec_le (length cs) 64) }

module _ (array : List Customer) (full : length array ≡ 64) (count : ℕ) where
  first-lent : Dec (count ≤ 64) → take 64 (padded count array) ≡ take count array
  first-lent (yes l) =
      take_all 64 (padded count array) (omega (arith, l, padded-length count array))
      ∙ sym (take_all count (padded count array) (omega (arith, padded-length count array)))
      ∙ take-padded count count array (omega arith) (omega (arith, l, full))
  first-lent (no l) =
      take-padded 64 count array (omega (arith, l)) (omega (arith, full))
      ∙ take_all 64 array (omega (arith, full))
      ∙ sym (take_all count array (omega (arith, l, full)))

  -- from its first, and depots where more are counted than it holds
  pub gathered-from : Gathered (padded count array) count array
  gathered-from = record { counted = padded-length count array; first = first-lent (dec_le count 64) }
