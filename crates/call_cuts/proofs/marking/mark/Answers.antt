-- `marking::mark` meets its contract. Assumes nothing.
use mathlib.Core.Path.{◌≡◌}
use lib.ListN.{length, take}
use Rattle.call_cuts.proofs.CutAnswers.{Asked}
use Rattle.call_cuts.proofs.MarkCase.{Given}
use Rattle.call_cuts.proofs.MarkAnswers.{ReadAs, refused-mark, tour-fits, read-runs, runs-asked, given-mark}
use Rattle.call_cuts.proofs.marking.mark.Goals as goal
use Rattle.call_cuts.proofs.marking.mark.Goals.{After-widen-placed}

-- behind the three lists that are read
module _ (k : After-widen-placed) where
  abbrev asked : Asked
  asked = let a = k.args in record { head = a.head; array = a.all; count = a.n; distances = a.distances.now; times = a.times.now; tour = a.tour.now; placement = a.placement }

  abbrev given : Given
  given = let a = k.args in record { calls = a.calls.now; ends = a.ends.now; places = a.places.now }

  -- the lists as they stand in the arrays
  abbrev read : Given
  read =
      let w₁ = k.widen-many in
      let w₂ = k.widen-runs in
      let w₃ = k.widen-placed in
      record { calls = take w₁.result w₁.new.numbers; ends = take w₂.result w₂.new.numbers; places = take w₃.result w₃.new.numbers }

  abbrev full : length k.args.all ≡ 64
  full = k.well_formed.1.0.1.0.1

  as-given : ReadAs given read
  as-given =
      let number = k.refuse_marking-number in
      let w₁ = k.widen-many in
      let w₂ = k.widen-runs in
      let w₃ = k.widen-placed in
      read-runs asked given number.result number.ensures.refused k.if-number-ne0.false full w₁.new.numbers w₂.new.numbers w₃.new.numbers
      w₁.result w₂.result w₃.result w₁.ensures.counted w₁.ensures.read w₂.ensures.counted w₂.ensures.read w₃.ensures.counted w₃.ensures.read

pub returns-then-number-ne0 : goal.returns-then-number-ne0
returns-then-number-ne0 c =
    let number = c.refuse_marking-number in
    let a = c.args in
    let q : Asked = record { head = a.head; array = a.all; count = a.n; distances = a.distances.now; times = a.times.now; tour = a.tour.now; placement = a.placement } in
    let g : Given = record { calls = a.calls.now; ends = a.ends.now; places = a.places.now } in
    refused-mark q g number.result number.ensures.refused c.if-number-ne0.true

pub mark_numbers-verdict-requires : goal.mark_numbers-verdict-requires
mark_numbers-verdict-requires c =
    let k = (goal.at.mark_numbers-verdict-requires c).After-widen-placed in
    let number = c.refuse_marking-number in
    let runs = runs-asked (asked k) (given k) number.result number.ensures.refused c.if-number-ne0.false (full k) (read k) (as-given k) in
    record {
      tour_len_bound = tour-fits (asked k) (given k) number.result number.ensures.refused c.if-number-ne0.false (full k);
      calls_len_bound = runs.0;
      calls_value = runs.1;
    }

pub returns : goal.returns
returns c =
    let k = (goal.at.returns c).After-widen-placed in
    let number = c.refuse_marking-number in
    given-mark (asked k) (given k) number.result number.ensures.refused c.if-number-ne0.false (full k) (read k) (as-given k)
    number.ensures.image c.mark_numbers-verdict.result c.mark_numbers-verdict.ensures
