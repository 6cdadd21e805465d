-- `run::stop_lines` meets its contract. The loop's invariant: the lines of the first i calls are put. Assumes nothing.
use native.Mathlib.Omega.{arith}
use mathlib.Core.Path.{◌≡◌}
use mathlib.Core.List.{map}
use lib.ListN.{length, take, length-take}
use borrow.Author.Rules.{rules}
use Rattle.models.specs.Records.{customer_of}
use Rattle.listing_lines.proofs.Putting.{begun, turn, ended}
use Rattle.times_lines.proofs.Turns.{stops_left, stops-more, stops-ended, driven}
use Rattle.times_lines.proofs.run.stop_lines.Goals as goal

pub loop-i-init : goal.loop-i-init
loop-i-init c =
    let a = c.args in
    (omega arith, begun (stops_left (map customer_of a.customers) a.duration a.place a.start a.n (take a.count a.visits) a.begins a.count 0) a.at a.out.now (omega arith))

pub loop-i-preserved : goal.loop-i-preserved
loop-i-preserved c =
    let l = c.loop-i in
    let a = c.args in
    let long : length a.begins ≡ 128 = search (rules, c.well_formed.1.1.1.1.0) in
    let few = length-take a.count a.visits in
    let more = stops-more (map customer_of a.customers) a.duration a.place a.start a.n (take a.count a.visits) a.begins a.count l.i _ _ (omega arith) c.loop-i-test.true (omega arith) in
    (omega arith, turn l.invariant.1 _ c.line_of-end.ensures.text more (omega arith))

pub returns : goal.returns
returns c =
    let l = c.loop-i in
    let a = c.args in
    let longᵥ : length a.visits ≡ 128 = search (rules, c.well_formed.1.1.1.0) in
    let longᵦ : length a.begins ≡ 128 = search (rules, c.well_formed.1.1.1.1.0) in
    let few = length-take a.count a.visits in
    let done = stops-ended (map customer_of a.customers) a.duration a.place a.start a.n (take a.count a.visits) a.begins a.count l.i c.loop-i-test.false in
    record {
      text = ended l.invariant.1 done;
      short = omega arith;
      driven = driven (map customer_of a.customers) a.duration a.place a.start a.count a.visits a.begins (omega arith) (omega arith);
    }
