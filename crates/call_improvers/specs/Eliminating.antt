-- What route elimination answers over what it is lent: the enum's case for each case of the complete answer of crates/definitions, the
-- lists, which are stored in bytes, by their lengths. Definitions only.
use Rattle.std.specs.Prelude.{ℕ, List, [], ◌∷◌, length, Float}
use Rattle.definitions.specs.Lent.{Lent}
use Rattle.definitions.specs.Bytes.{stored}
use Rattle.definitions.specs.Answers.{Answer, refused, gives, front, Eliminated, eliminate_of}
use Rattle.whole.specs.Value.{value}
use Rattle.models.specs.declared.customer.Customer.{Customer}
use Rattle.models.specs.declared.head.Head.{Head}
use Rattle.refuse_order.specs.Lent.{sheet_of, lent_of}
use Rattle.route_elimination.specs.declared.route_elimination.Left.{Left}
use Rattle.call_improvers.specs.declared.eliminating.Elimination.{Elimination}
use Rattle.call_improvers.specs.declared.eliminating.Elimination.TheVariants as Cases
use Rattle.call_shared.specs.Answers.{Answers}

-- the sheet, the run list, and the lengths of the lists for the calls and the run ends that are left
abbrev pub elimination_lent : Head → List Customer → List Float → List Float → List ℕ → List ℕ → ℕ → ℕ → Lent Float
elimination_lent head customers distances times calls ends calls_left ends_left =
    lent_of (sheet_of head customers distances times) [] calls ends [] (calls_left ∷ ends_left ∷ [])

abbrev pub eliminate_answer : Head → List Customer → List Float → List Float → (calls ends calls_left ends_left : List ℕ) → Answer Eliminated
eliminate_answer head customers distances times calls ends calls_left ends_left =
    eliminate_of value (elimination_lent head customers distances times calls ends (length calls_left) (length ends_left))

-- for any customers, which stand last
abbrev pub eliminate_for : Head → List Float → List Float → (calls ends calls_left ends_left : List ℕ) → List Customer → Answer Eliminated
eliminate_for head distances times calls ends calls_left ends_left customers =
    eliminate_answer head customers distances times calls ends calls_left ends_left

abbrev pub left_of : Eliminated → Left
left_of x = record { calls = length x.calls; runs = length x.ends }

abbrev pub elimination_in : Answer Eliminated → Elimination
elimination_in (refused number) = Cases.Refused number
elimination_in (gives x) = Cases.Left (left_of x)

-- the answer, and the lent lists as they are left, whatever customers the array was gathered from
pub record Eliminates
    (answered : List Customer → Answer Eliminated) (count : ℕ) (array : List Customer)
    (calls_left ends_left : List ℕ) (r : Elimination) (left_calls' left_ends' : List ℕ) : Type 0 where
  pub answer : Answers (λ cs. elimination_in (answered cs)) count array r
  pub calls-left : Answers (λ cs. stored (front (λ x. x.calls) (answered cs)) calls_left) count array left_calls'
  pub ends-left : Answers (λ cs. stored (front (λ x. x.ends) (answered cs)) ends_left) count array left_ends'
