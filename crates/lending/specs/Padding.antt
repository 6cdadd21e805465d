-- A list of customers filled up with the depot's record. Definitions only.
use Rattle.std.specs.Prelude.{ℕ, zero, suc, List, [], ◌∷◌}
use Rattle.models.specs.Records.{depot_record}
use Rattle.models.specs.declared.customer.Customer.{Customer}

-- the first k records, and the depot's after them where there are fewer
unfoldable pub padded : ℕ → List Customer → List Customer
padded zero xs = []
padded (suc k) [] = depot_record ∷ padded k []
padded (suc k) (x ∷ xs) = x ∷ padded k xs
