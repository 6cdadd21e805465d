-- What the contract of the reader says of a refusal. Assumes nothing.
use Prim.Native.Nat.{ℕ}
use mathlib.Core.Path.{◌≡◌, refl, sym, ap, subst, ◌∙◌}
use mathlib.Core.Bool.{Bool, true, false, cond}
use mathlib.Core.List.{List, map}
use Rattle.definitions.specs.Sheet.{Sheet}
use Rattle.definitions.specs.Answers.{read_customers, read_distances, read_times, read_tour}
use Rattle.definitions.specs.Words.{words_of, left_over}
use Rattle.definitions.specs.Reader as Reader
use Rattle.definitions.specs.Reader.{Outcome, accepted, refused, Reading, sheet, refused_at, start, walk, sheet_of, tour_of, read_words, read, reader_needs, read_into}
use Rattle.definitions.specs.Room.{short, written}
use Rattle.whole.specs.Whole.{fl}
use Rattle.models.specs.Image.{fl_customer}
use Rattle.call_reader.specs.declared.reading.Read.{Read}
use Rattle.call_reader.specs.Reading.{customer_in, read_in}
use Rattle.planner.specs.Calls.{Untouched}
use Rattle.planner.specs.Reading.{read_refusal, outcome_of, ReadOutput, read_output, rooms, read_answer, first_bad, ReadContract}

outcome-is : (b : Bool) (o : Outcome) (s : Sheet) (tour : List ℕ) → outcome_of (read_in (cond b (refused_at 13 0) (Reader.answer o s tour))) ≡ cond b (refused 13 0) o
outcome-is true o s tour = refl
outcome-is false accepted s tour = refl
outcome-is false (refused number word) s tour = refl

module _ (bytes : List ℕ) (old : ReadOutput) where
  outcome : outcome_of (read_in (read_answer bytes old)) ≡ first_bad bytes old
  unfolding read_into read read_words
  outcome = outcome-is (short reader_needs (rooms old)) (walk start 0 (words_of bytes) (left_over bytes)) (sheet_of (words_of bytes)) (tour_of (words_of bytes))

  -- the lists, with what is read written into them
  abbrev pub left : Reading → ReadOutput
  left a =
      read_output (written (map customer_in (map fl_customer (read_customers a))) old.customers) (written (map fl (read_distances a)) old.distances)
      (written (map fl (read_times a)) old.times) (written (read_tour a) old.tour)

  nothing_left : (a : Reading) → Untouched (read_refusal (read_in a)) old (left a)
  nothing_left (sheet s tour) = tt
  nothing_left (refused_at number word) = refl

  pub kept : {r : Read} {new : ReadOutput} → r ≡ read_in (read_answer bytes old) → new ≡ left (read_answer bytes old) → ReadContract bytes old r new
  kept is left_is =
      record {
        result = is;
        customers-left = λ i. (left_is i).customers;
        distances-left = λ i. (left_is i).distances;
        times-left = λ i. (left_is i).times;
        tour-left = λ i. (left_is i).tour;
        refused = ap outcome_of is ∙ outcome;
        untouched = subst (λ (z : Read × ReadOutput). Untouched (read_refusal z.0) old z.1) (λ i. (sym is i, sym left_is i)) (nothing_left (read_answer bytes old));
      }
