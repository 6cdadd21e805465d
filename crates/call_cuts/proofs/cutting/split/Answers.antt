-- `cutting::split` meets its contract. Assumes nothing.
use mathlib.Core.List.{[]}
use Rattle.definitions.specs.Lent.{cutting}
use Rattle.definitions.specs.Drop.{split}
use Rattle.models.specs.declared.placement.Placement.TheVariants.{Clock}
use Rattle.split_tw.specs.SplitTw.{split_tw_f}
use Rattle.bounds.proofs.InBytes.{split-few}
use Rattle.call_cuts.specs.Stored.{plain_of, CutLists, cut_lists}
use Rattle.call_cuts.proofs.CutAnswers.{Asked, rooms, tour-fits, refused-cut, given-cut}
use Rattle.call_cuts.proofs.SplitCase.{split-holds}
use Rattle.call_cuts.proofs.cutting.split.Goals as goal
use Rattle.call_cuts.proofs.cutting.split.Goals.{Start}

abbrev asked : Start → Asked
asked s =
    let a = s.args in
    record { head = a.head; array = a.all; count = a.n; distances = a.distances.now; times = a.times.now; tour = a.tour.now; placement = Clock }

abbrev lists : Start → CutLists
lists s = let a = s.args in cut_lists a.served.now a.run_ends.now a.dropped.now

pub returns-then-number-ne0 : goal.returns-then-number-ne0
returns-then-number-ne0 c =
    let s = (goal.at.returns-then-number-ne0 c).Start in
    let number = c.refuse_cutting-number in
    refused-cut (asked s) (lists s) number.result number.ensures.refused (λ x. split x c.args.tour.now) c.if-number-ne0.true

pub split_stored-counts-requires : goal.split_stored-counts-requires
split_stored-counts-requires c =
    let s = (goal.at.split_stored-counts-requires c).Start in
    let number = c.refuse_cutting-number in
    tour-fits (asked s) (lists s) number.result number.ensures.refused c.if-number-ne0.false c.well_formed.1.0.1.0.1

pub returns : goal.returns
returns c =
    let s = (goal.at.returns c).Start in
    let a = c.args in
    let h = a.head in
    let number = c.refuse_cutting-number in
    let done = c.split_stored-counts in
    given-cut (asked s) (lists s) number.result number.ensures.refused (λ x. split x a.tour.now) number.ensures.image c.if-number-ne0.false
    (split-few a.tour.now) (split_tw_f (plain_of h a.all a.distances.now a.times.now) a.tour.now)
    (split-holds cutting (asked s) [] [] [] (rooms (asked s) (lists s))) done.result (cut_lists _ _ _) done.ensures
