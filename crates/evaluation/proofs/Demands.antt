-- What each record asks for: gathered one by one, and read for a call. Assumes nothing.
use Prim.Native.Nat.{ℕ, ◌+◌, ◌<◌, ◌≤◌}
use native.Mathlib.Omega.{arith}
use mathlib.Core.Path.{◌≡◌, ap, subst, ◌∙◌}
use mathlib.Core.List.{List, map}
use lib.ListN.{length, get_or, set, length-set}
use lib.Seq.{get_or-set_same, get_or-set_other}
use lib.Dec.{ltb}
use lib.Ieee.{Float}
use borrow.Author.Tests.{ltb-true, ltb-false}
use Rattle.basics.proofs.TestLaws.{by-test}
use Rattle.definitions.specs.Sheet.{CustomerOf}
use Rattle.models.specs.declared.customer.Customer.{Customer}
use Rattle.models.specs.declared.load.Space.{Space}
use Rattle.models.specs.Load.{space_of}
use Rattle.models.specs.Records.{customer_of}
use Rattle.evaluation.specs.Tables.{record_index, blank, asked_at, Asks, demand_f}
use Rattle.evaluation.proofs.Reading.{get_d_of}

-- the list has two numbers for each record, and holds what the first i ask for
pub record AsksTo (customers : List (CustomerOf Float)) (demands : List ℕ) (i : ℕ) : Type 0 where
  pub long : length demands ≡ 128
  pub each : (k : ℕ) → k < i → asked_at demands k ≡ (get_or customers k blank).demand

pub asks_none : (customers : List (CustomerOf Float)) (demands : List ℕ) → length demands ≡ 128 → AsksTo customers demands 0
asks_none customers demands d = record { long = d; each = λ k h. absurd (omega arith) }

-- the record of a call is one of 64
pub index_below : (c : ℕ) → record_index c < 64
index_below c = by-test (ltb c 64) (λ t. rw t (ltb-true c 64 t)) (λ f. rw f (omega arith))

pub asks-all : (customers : List (CustomerOf Float)) (demands : List ℕ) (i : ℕ) → 64 ≤ i → AsksTo customers demands i → Asks customers demands
unfolding demand_f
asks-all customers demands i h A c = A.each (record_index c) (omega (arith, index_below c))

module _ (customers : List Customer) (long : length customers ≡ 64) (demands : List ℕ) (i : ℕ) where
  -- one record more, measure by measure
  pub asks-more : (x : Customer) → i < 64 → AsksTo (map customer_of customers) demands i
      → AsksTo (map customer_of customers) (set (set demands i (get_or customers i x).demand.seats) (64 + i) (get_or customers i x).demand.wheelchairs) (i + 1)
  asks-more x h A =
      record {
        long = length-set seated (64 + i) asked.wheelchairs ∙ length-set demands i asked.seats ∙ A.long;
        each = λ k b.
            by-test (ltb k i)
            (λ t. old k (ltb-true k i t) ∙ A.each k (ltb-true k i t))
            (λ f. subst (λ (j : ℕ). asked_at after j ≡ (get_or (map customer_of customers) j blank).demand) (omega (arith, ltb-false k i f)) (new ∙ here));
      }
    where
      asked : Space
      asked = (get_or customers i x).demand

      seated : List ℕ
      seated = set demands i asked.seats

      after : List ℕ
      after = set seated (64 + i) asked.wheelchairs

      here : space_of (get_or customers i x).demand ≡ (get_or (map customer_of customers) i blank).demand
      here = ap (λ (y : CustomerOf Float). y.demand) (get_d_of customer_of customers i x blank (omega arith))

      new : asked_at after i ≡ space_of (get_or customers i x).demand
      new = λ j. record { seats = seats j; wheelchairs = get_or-set_same seated (64 + i) asked.wheelchairs 0 (omega (arith, length-set demands i asked.seats, A.long)) j }
        where
          seats : get_or after i 0 ≡ asked.seats
          seats = get_or-set_other seated (64 + i) i asked.wheelchairs 0 (λ q. omega arith) ∙ get_or-set_same demands i asked.seats 0 (omega (arith, A.long))

      old : (k : ℕ) → k < i → asked_at after k ≡ asked_at demands k
      old k b =
          λ j. record { seats = same k (λ q. omega arith) (λ q. omega arith) j; wheelchairs = same (64 + k) (λ q. omega arith) (λ q. omega arith) j }
        where
          same : (n : ℕ) → (n ≡ i → ⊥) → (n ≡ 64 + i → ⊥) → get_or after n 0 ≡ get_or demands n 0
          same n p q = get_or-set_other seated (64 + i) n asked.wheelchairs 0 q ∙ get_or-set_other demands i n asked.seats 0 p
