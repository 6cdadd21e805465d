-- `runs::runs_text` meets its contract. The loop's invariant: the lines of the first k runs are put. Assumes nothing.
use native.Mathlib.Omega.{arith}
use borrow.Author.Rules.{rules}
use Rattle.models.specs.Load.{space_of}
use Rattle.evaluation.specs.Records.{lent, limits_of}
use Rattle.listing_lines.proofs.RunWalk.{begins, rises, inside}
use Rattle.times_text.proofs.RunTurns.{set_out, kept, ended, run_length, its_own, room, turn}
use Rattle.times_text.proofs.runs.runs_text.Goals as goal

pub loop-k-init : goal.loop-k-init
loop-k-init c =
    let past-S = c in
    let S = past-S in
    let a = S.args in
    set_out (record {
      tables = lent a.customers a.distances.now a.times.now a.head.places;
      capacity = space_of a.head.capacity;
      limits = limits_of a.head.limits;
      calls = a.calls.now;
      ends = a.ends.now;
      places = a.places.now;
    }) a.out.now S.requires.rise_to S.requires.all

pub offset_bounds-calls-from : goal.offset_bounds-calls-from
offset_bounds-calls-from c = omega (arith, begins c.loop-k.invariant.at-run)

pub slice_bounds-run_text-end : goal.slice_bounds-run_text-end
slice_bounds-run_text-end c = search (rules, inside c.loop-k.invariant.at-run c.loop-k-test.true)

pub run_text-end-requires : goal.run_text-end-requires
run_text-end-requires c =
    let t = c in
    let l = t in
    let past-S = l in
    let S = past-S in
    let q = l.loop-k.invariant in
    let more = t.loop-k-test.true in
    let placed = S.requires.calls_len_bound.1 in
    let enough = S.requires.ends_in_bounds in
    let long = run_length q more placed enough in record { route_len_bound = (omega (arith, long, rises q.at-run more, inside q.at-run more), its_own q more placed enough); route_in_bounds = omega (arith, room q more placed enough, kept q) }

pub loop-k-preserved : goal.loop-k-preserved
loop-k-preserved c =
    let r = c in
    let t = r in
    let l = t in
    let past-S = l in
    let S = past-S in
    turn l.loop-k.invariant t.loop-k-test.true S.requires.calls_len_bound.1 S.requires.ends_in_bounds r.run_text-end.ensures.text r.run_text-end.ensures.short

pub returns : goal.returns
returns c =
    let q = c.loop-k.invariant in
    let past-S = c in
    let S = past-S in
    record { text = ended q c.loop-k-test.false; short = omega (arith, q.short, q.at-run.within, begins q.at-run, S.requires.ends_in_bounds) }
