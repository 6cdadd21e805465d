-- `onward::serve_all` meets its contract. Assumes nothing.
use Rattle.latest.specs.Times.{HoursOf, TimesOf, serve}
use lib.Ieee.{Float}
use Rattle.latest.proofs.Walking.{serves-turn, serves-end}
use Rattle.latest.specs.Floats.{floats, day_in, times_in, travel_f, hours_f, serves_f}
use Rattle.cut_stops.specs.Stops.{numbers, listed}
use Rattle.evaluation.specs.Records.{Tables}
use lib.ListN.{get_or, drop}
use native.Mathlib.Omega.{arith}
use Prim.Native.Nat.{◌+◌}
use mathlib.Core.Path.{sym, ap, ap₂, ◌∙◌}
use Rattle.latest.proofs.onward.serve_all.Goals as goal
use Rattle.latest.proofs.onward.serve_all.Goals.{Start}

abbrev tables : Start → Tables
tables s = let a = s.args in listed (numbers a.codes.now a.figures.now) a.distances.now a.times.now a.size

pub loop-cid-preserved : goal.loop-cid-preserved
loop-cid-preserved c =
    let l = c.loop-cid in
    let i = l.cid-index in
    let t = tables (goal.at.loop-cid-preserved c).Start in
    let calls = c.args.calls.now in
    let day = day_in c.args.day in
    let turn = serves-turn floats (travel_f t) (hours_f t.customers) day calls i (times_in l.left) l.last (omega arith) in
    ap (λ (x : TimesOf Float). serves_f t day x (get_or calls i 0) (drop (i + 1) calls))
    (c.serve-left.ensures ∙ ap₂ (λ (b : HoursOf Float) (w : Float). serve floats day b w (times_in l.left)) c.hours_at-hours.ensures c.open_time-travel.ensures)
    ∙ sym turn ∙ l.invariant

pub returns : goal.returns
returns c =
    let l = c.loop-cid in
    let t = tables (goal.at.returns c).Start in
    sym (serves-end floats (travel_f t) (hours_f t.customers) (day_in c.args.day) c.args.calls.now l.cid-index (times_in l.left) l.last (omega arith)) ∙ l.invariant
