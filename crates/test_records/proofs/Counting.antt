-- The tally of a run, one answer more at a time. Assumes nothing.
use Prim.Native.Nat.{◌+◌, ◌≤◌, ◌<◌}
use native.Mathlib.Omega.{arith}
use mathlib.Core.Path.{◌≡◌, ap}
use Rattle.test_records.specs.declared.seen.Seen.{Seen}
use Rattle.test_records.specs.declared.seen.Seen.TheVariants.{Alike, Unlike, Noticed, Missed, End, CutShort, TooLong}
use Rattle.test_records.specs.declared.tally.Tally.{Tally}
use Rattle.test_records.specs.declared.tally.Weight.{Weight}
use Rattle.test_records.specs.Tally.{InRun, most_answers, weight_of, counted_with}

pub answers-more : (r t : Tally) (seen : Seen) → r ≡ counted_with t seen → r.answers ≡ t.answers + 1
unfolding counted_with
answers-more r t seen e = ap (λ (t : Tally). t.answers) e

-- an answer adds one to a count at the most
pub record Light (w : Weight) : Type 0 where
  pub wrong-light : w.wrong ≤ 1
  pub noticed-light : w.noticed ≤ 1
  pub unlike-light : w.unlike ≤ 1

pub light : (seen : Seen) → Light (weight_of seen)
light Alike = record { wrong-light = omega arith; noticed-light = omega arith; unlike-light = omega arith }
light Unlike = record { wrong-light = omega arith; noticed-light = omega arith; unlike-light = omega arith }
light Noticed = record { wrong-light = omega arith; noticed-light = omega arith; unlike-light = omega arith }
light Missed = record { wrong-light = omega arith; noticed-light = omega arith; unlike-light = omega arith }
light End = record { wrong-light = omega arith; noticed-light = omega arith; unlike-light = omega arith }
light CutShort = record { wrong-light = omega arith; noticed-light = omega arith; unlike-light = omega arith }
light TooLong = record { wrong-light = omega arith; noticed-light = omega arith; unlike-light = omega arith }

pub light-as : (w : Weight) (seen : Seen) → w ≡ weight_of seen → Light w
light-as w seen e = rw e (light seen)

pub run_on : (t : Tally) (seen : Seen) → InRun t → t.answers < most_answers → InRun (counted_with t seen)
unfolding counted_with
run_on t seen h more =
    let l = light seen in
    record {
      many = omega arith;
      some-wrong = omega (arith, h.some-wrong, l.wrong-light);
      some-noticed = omega (arith, h.some-noticed, l.noticed-light);
      some-unlike = omega (arith, h.some-unlike, l.unlike-light);
    }
