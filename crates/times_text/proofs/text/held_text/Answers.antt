-- `text::held_text` meets its contract. Assumes nothing.
use native.Mathlib.Omega.{arith}
use mathlib.Core.Path.{◌≡◌}
use lib.ListN.{take}
use Rattle.definitions.specs.Domain.{most_calls}
use Rattle.byte_lists.proofs.Widened.{zeros, as_many, first_read, all_there}
use Rattle.mark_lines.proofs.Shown.{put_as}
use Rattle.times_text.proofs.RunsExact.{refused-times, few, few-ends, asked, times-told}
use Rattle.times_text.proofs.text.held_text.Goals as goal
use Rattle.times_text.proofs.text.held_text.Goals.{After-widen-placed}

-- The three lists that are read are those that were given.
module _ (k : After-widen-placed) where
  calls_are : take k.widen-many.result k.widen-many.new.numbers ≡ k.args.calls.now
  calls_are =
      let a = k.args in
      let number = k.refuse_marking-number in
      let q = k.requires.held in
      let w = k.widen-many in
      all_there a.calls.now zeros w.new.numbers w.result w.ensures.counted w.ensures.read
      (few q.0 a.tour.now a.head a.customers a.distances.now a.times.now q.1
      a.calls.now a.ends.now a.places.now number.result number.ensures.refused k.if-number-ne0.false)

  ends-are : take k.widen-runs.result k.widen-runs.new.numbers ≡ k.args.ends.now
  ends-are =
      let a = k.args in
      let number = k.refuse_marking-number in
      let q = k.requires.held in
      let w = k.widen-runs in
      all_there a.ends.now zeros w.new.numbers w.result w.ensures.counted w.ensures.read
      (few-ends q.0 a.tour.now a.head a.customers a.distances.now a.times.now q.1
      a.calls.now a.ends.now a.places.now number.result number.ensures.refused k.if-number-ne0.false)

  places-are : take k.widen-placed.result k.widen-placed.new.numbers ≡ take most_calls k.args.places.now
  places-are = let w = k.widen-placed in first_read k.args.places.now zeros w.new.numbers w.result w.ensures.counted w.ensures.read

pub returns-then-number-ne0 : goal.returns-then-number-ne0
returns-then-number-ne0 c =
    let r = c in
    let branch = r in
    let S = branch in
    let a = S.args in
    let number = branch.refuse_marking-number in
    let t = r.runs_refused.ensures in record {
      text = λ s H.
          put_as (refused-times s a.tour.now a.head a.customers a.distances.now a.times.now H
          a.calls.now a.ends.now a.places.now number.result number.ensures.refused branch.if-number-ne0.true)
          t.text;
      short = omega (arith, S.requires.in_bounds, t.short);
    }

pub slice_bounds-runs_text-end : goal.slice_bounds-runs_text-end
slice_bounds-runs_text-end c =
    let w = c.widen-many in
    as_many c.args.calls.now zeros w.new.numbers w.result w.ensures.counted w.ensures.read

pub slice_bounds-runs_text-end-2 : goal.slice_bounds-runs_text-end-2
slice_bounds-runs_text-end-2 c =
    let w = c.widen-runs in
    as_many c.args.ends.now zeros w.new.numbers w.result w.ensures.counted w.ensures.read

pub slice_bounds-runs_text-end-3 : goal.slice_bounds-runs_text-end-3
slice_bounds-runs_text-end-3 c =
    let w = c.widen-placed in
    as_many c.args.places.now zeros w.new.numbers w.result w.ensures.counted w.ensures.read

pub runs_text-requires : goal.runs_text-requires
runs_text-requires c =
    let k = (goal.at.runs_text-requires c).After-widen-placed in
    let a = c.args in
    let q = c.requires.held in
    let number = c.refuse_marking-number in
    let few-here = few-ends q.0 a.tour.now a.head a.customers a.distances.now a.times.now q.1
    a.calls.now a.ends.now a.places.now number.result number.ensures.refused c.if-number-ne0.false in
    let x = asked q.0 a.tour.now a.head a.customers a.distances.now a.times.now q.1
    a.calls.now a.ends.now a.places.now number.result number.ensures.refused c.if-number-ne0.false in
    rw (calls_are k, ends-are k, places-are k) (record { rise_to = x.0; calls_len_bound = x.1; all = x.2; ends_in_bounds = omega (arith, x.1, few-here, c.requires.in_bounds) })

pub returns : goal.returns
returns c =
    let k = (goal.at.returns c).After-widen-placed in
    let a = c.args in
    let number = c.refuse_marking-number in
    let t = c.runs_text.ensures in record {
      text = λ s H.
          put_as (times-told s a.tour.now a.head a.customers a.distances.now a.times.now H
          a.calls.now a.ends.now a.places.now number.result number.ensures.refused c.if-number-ne0.false)
          (rw (calls_are k, ends-are k, places-are k) at t.text);
      short = t.short;
    }
