-- The depot's record in the code holds the definitions' depot. Assumes nothing.
use Prim.Native.Nat.{ℕ, zero, suc}
use mathlib.Core.Path.{◌≡◌, refl, ap, ◌∙◌}
use mathlib.Core.List.{List, ◌∷◌, map}
use lib.Ieee.{Float, of_int}
use lib.ListN.{replicate}
use Rattle.definitions.specs.Sheet.{CustomerOf, depot}
use Rattle.whole.specs.Whole.{fl}
use Rattle.models.specs.Image.{fl_customer}
use Rattle.models.specs.Records.{customer_of, depot_record}

depot-image : customer_of depot_record ≡ fl_customer depot
unfolding fl of_int
depot-image = refl

copies : (n : ℕ) → map customer_of (replicate n depot_record) ≡ replicate n (customer_of depot_record)
copies zero = refl
copies (suc n) = ap (λ (l : List (CustomerOf Float)). customer_of depot_record ∷ l) (copies n)

pub depots-image : map customer_of (replicate 64 depot_record) ≡ replicate 64 (fl_customer depot)
depots-image = copies 64 ∙ ap (replicate 64) depot-image
