-- What the cutting of a tour answers over what it is lent: the enum's case for each case of the complete answer of crates/definitions, the
-- lists, which are stored in bytes, by their lengths, cost and distance held in floats. Definitions only.
use Rattle.std.specs.Prelude.{ℕ, List, [], ◌∷◌, length, Float}
use Rattle.definitions.specs.Drop.{Result}
use Rattle.definitions.specs.Lent.{Lent}
use Rattle.definitions.specs.Bytes.{stored}
use Rattle.definitions.specs.Answers.{Answer, refused, gives, front, split_of, split_by_of}
use Rattle.whole.specs.Whole.{fl}
use Rattle.whole.specs.Value.{value}
use Rattle.models.specs.declared.customer.Customer.{Customer}
use Rattle.models.specs.declared.head.Head.{Head}
use Rattle.models.specs.declared.placement.Placement.{Placement}
use Rattle.refuse_order.specs.Lent.{sheet_of, lent_of}
use Rattle.placements.specs.Chosen.{placement_of}
use Rattle.split_tw.specs.declared.answer.SplitResult.{SplitResult}
use Rattle.call_cuts.specs.declared.cutting.Cut.{Cut}
use Rattle.call_cuts.specs.declared.cutting.Cut.TheVariants as Cases
use Rattle.call_shared.specs.Answers.{Answers}

-- ---- what is lent

-- the sheet, the tour, and the lengths of the lists for served customers, run ends and dropped positions
abbrev pub cut_lent : Head → List Customer → List Float → List Float → List ℕ → ℕ → ℕ → ℕ → Lent Float
cut_lent head customers distances times tour served ends dropped =
    lent_of (sheet_of head customers distances times) tour [] [] [] (served ∷ ends ∷ dropped ∷ [])

module _ (head : Head) (customers : List Customer) (distances times : List Float) (tour served ends dropped : List ℕ) where
  abbrev pub split_answer : Answer Result
  split_answer = split_of value (cut_lent head customers distances times tour (length served) (length ends) (length dropped))

  abbrev pub split_tw_answer : Placement → Answer Result
  split_tw_answer placement =
      split_by_of value (placement_of placement) (cut_lent head customers distances times tour (length served) (length ends) (length dropped))

-- with whatever customers
module _ (head : Head) (distances times : List Float) (tour served ends dropped : List ℕ) where
  abbrev pub split_for : List Customer → Answer Result
  split_for cs = split_answer head cs distances times tour served ends dropped

  abbrev pub split_tw_for : Placement → List Customer → Answer Result
  split_tw_for placement cs = split_tw_answer head cs distances times tour served ends dropped placement

-- ---- the answer

abbrev pub counts_of : Result → SplitResult
counts_of x =
    record {
      served = length x.served;
      runs = length x.ends;
      dropped = length x.dropped;
      cost = fl x.cost;
      distance = fl x.distance;
    }

abbrev pub cut_in : Answer Result → Cut
cut_in (refused number) = Cases.Refused number
cut_in (gives x) = Cases.Cut (counts_of x)

-- the answer, and the lent lists as they are left, whatever customers the array was gathered from
pub record Cuts (answered : List Customer → Answer Result) (count : ℕ) (array : List Customer) (served ends dropped : List ℕ)
    (r : Cut) (served' ends' dropped' : List ℕ) : Type 0 where
  pub answer : Answers (λ cs. cut_in (answered cs)) count array r
  pub served-left : Answers (λ cs. stored (front (λ x. x.served) (answered cs)) served) count array served'
  pub ends-left : Answers (λ cs. stored (front (λ x. x.ends) (answered cs)) ends) count array ends'
  pub dropped-left : Answers (λ cs. stored (front (λ x. x.dropped) (answered cs)) dropped) count array dropped'
