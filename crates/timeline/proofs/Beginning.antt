-- The service starts, visit by visit: what is written so far and what is left make the whole. Assumes nothing.
use Prim.Native.Nat.{ℕ, suc, ◌+◌, ◌≤◌, ◌<◌}
use native.Mathlib.Omega.{arith}
use native.Mathlib.Numerals.{add-one}
use mathlib.Core.Path.{◌≡◌, refl, sym, ap, ◌∙◌}
use mathlib.Core.List.{List, [], ◌∷◌, ◌++◌, map, append_assoc, append-nil}
use lib.ListN.{length, get_or, take, drop, set, length-set, drop_of_length-le}
use lib.Seq.{drop-cons, take-suc-set}
use lib.Ieee.{Float}
use Rattle.definitions.specs.Sheet.{CustomerOf}
use Rattle.models.specs.declared.customer.Customer.{Customer}
use Rattle.models.specs.Records.{customer_of}
use Rattle.evaluation.specs.Tables.{record_index, record_f}
use Rattle.evaluation.proofs.Reading.{read-record}
use Rattle.visits.specs.declared.visit.Visit.{Visit}
use Rattle.visits.specs.Visiting.{RestF, ready_at_f, begin_f}
use Rattle.timeline.specs.Timing.{window_f, begins_f}

-- a call's, with its record read in the array of 64
pub begin-is : (customers : List Customer) (c i : ℕ) (d : Customer) → length customers ≡ 64 → i ≡ record_index c → i < 64
    → (r : RestF) (k : ℕ) (arrival ready x : Float) → ready ≡ ready_at_f r k arrival → x ≡ begin_f (customer_of (get_or customers i d)).window ready
    → x ≡ begin_f (window_f (map customer_of customers) c) (ready_at_f r k arrival)
unfolding record_f
begin-is customers c i d long e h r k arrival ready x er ex =
    ex ∙ ap (begin_f (customer_of (get_or customers i d)).window) er ∙ ap (λ (y : CustomerOf Float). begin_f y.window (ready_at_f r k arrival)) (read-record customers [] [] 0 c i d long e h)

module _ (customers : List (CustomerOf Float)) (r : RestF) (visits : List Visit) where
  -- before visit number i + 1
  pub record Underway (begins : List Float) (i : ℕ) : Type 0 where
    pub goes : take i begins ++ begins_f customers r (suc i) (drop i visits) ≡ begins_f customers r 1 visits
    pub long : length begins ≡ 128

  pub set_out : (begins : List Float) → length begins ≡ 128 → Underway begins 0
  set_out begins l = record { goes = refl; long = l }

  module _ (begins : List Float) (i : ℕ) (U : Underway begins i) where
    abbrev visit : Visit → Visit
    visit d = get_or visits i d

    -- the next one, and those behind it
    left : (d : Visit) (x : Float) → i < length visits → x ≡ begin_f (window_f customers (visit d).customer_id) (ready_at_f r (i + 1) (visit d).arrival_time)
        → begins_f customers r (suc i) (drop i visits) ≡ x ∷ begins_f customers r (suc (suc i)) (drop (suc i) visits)
    unfolding begins_f
    left d x h e = rw (drop-cons visits i d h, e, add-one)

    pub turn : (d : Visit) (x : Float) → i < length visits → length visits ≤ 128 → x ≡ begin_f (window_f customers (visit d).customer_id) (ready_at_f r (i + 1) (visit d).arrival_time)
        → Underway (set begins i x) (i + 1)
    turn d x h few e =
        let room : i < length begins = omega (arith, U.long) in
        record {
          goes = rw (add-one, take-suc-set begins i x, append_assoc) (ap (λ (l : List Float). take i begins ++ l) (sym (left d x h e)) ∙ U.goes);
          long = simp length-set U.long;
        }

    pub arrive : (count : ℕ) → count ≡ i → length visits ≤ i → take count begins ≡ begins_f customers r 1 visits
    unfolding begins_f
    arrive count e h = rw e (sym (append-nil (take i begins)) ∙ rw (drop_of_length-le visits h) at U.goes)
