-- The contract of the reader. Definitions only.
use Rattle.std.specs.Prelude.{ℕ, ◌≡◌, cond, List, [], ◌∷◌, map, length, Float, Option, None, Some}
use Rattle.definitions.specs.Answers.{read_customers, read_distances, read_times, read_tour}
use Rattle.definitions.specs.Words.{words_of, left_over}
use Rattle.definitions.specs.Reader as Reader
use Rattle.definitions.specs.Reader.{Outcome, Reading, start, walk, reader_needs, read_into}
use Rattle.definitions.specs.Room.{short, written}
use Rattle.whole.specs.Whole.{fl}
use Rattle.models.specs.Image.{fl_customer}
use Rattle.models.specs.declared.customer.Customer.{Customer}
use Rattle.call_reader.specs.declared.reading.Read.{Read}
use Rattle.call_reader.specs.declared.reading.Read.TheVariants as Cases
use Rattle.call_reader.specs.Reading.{customer_in, read_in}
use Rattle.planner.specs.Calls.{Untouched}

-- ---- the answer

-- the number by which it refuses
abbrev pub read_refusal : Read → Option ℕ
read_refusal (Cases.Refused number word) = Some number
read_refusal (Cases.Sheet contents) = None

-- accepted, or refused by a number at a word
abbrev pub outcome_of : Read → Outcome
outcome_of (Cases.Refused number word) = Reader.refused number word
outcome_of (Cases.Sheet contents) = Reader.accepted

-- ---- the lists that are written

pub record ReadOutput : Type 0 where
  pub customers : List Customer
  pub distances : List Float
  pub times : List Float
  pub tour : List ℕ

abbrev pub read_output : List Customer → (distances times : List Float) (tour : List ℕ) → ReadOutput
read_output customers distances times tour = record { customers = customers; distances = distances; times = times; tour = tour }

-- ---- the contract

-- the lengths of the lists
abbrev pub rooms : ReadOutput → List ℕ
rooms old = length old.customers ∷ length old.distances ∷ length old.times ∷ length old.tour ∷ []

module _ (bytes : List ℕ) (old : ReadOutput) where
  abbrev pub read_answer : Reading
  read_answer = read_into (rooms old) bytes

  -- 13 where a list is too short, else the leftmost word that can't stand, if there is one
  abbrev pub first_bad : Outcome
  first_bad = cond (short reader_needs (rooms old)) (Reader.refused 13 0) (walk start 0 (words_of bytes) (left_over bytes))

  -- of the answer, and of the lists as they are left
  pub record ReadContract (r : Read) (new : ReadOutput) : Type 0 where
    -- the complete answer
    pub result : r ≡ read_in read_answer
    pub customers-left : new.customers ≡ written (map customer_in (map fl_customer (read_customers read_answer))) old.customers
    pub distances-left : new.distances ≡ written (map fl (read_distances read_answer)) old.distances
    pub times-left : new.times ≡ written (map fl (read_times read_answer)) old.times
    pub tour-left : new.tour ≡ written (read_tour read_answer) old.tour
    -- by which number and at which word it is refused, if at one; nothing is written then
    pub refused : outcome_of r ≡ first_bad
    pub untouched : Untouched (read_refusal r) old new
