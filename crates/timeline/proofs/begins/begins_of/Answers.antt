-- `begins::begins_of` meets its contract. The loop's invariant: what is written and what is left make the whole. Assumes nothing.
use native.Mathlib.Omega.{arith}
use mathlib.Core.Path.{◌≡◌}
use lib.ListN.{length, length-take}
use Rattle.timeline.proofs.Beginning.{turn, arrive}
use borrow.Author.Rules.{rules}
use Rattle.timeline.proofs.begins.begins_of.Goals as goal

pub loop-i-preserved : goal.loop-i-preserved
loop-i-preserved c =
    let x = c.loop-i in
    let few = length-take c.args.count c.args.visits in
    turn _ _ _ x.begins x.i x.invariant _ c.begin_of.result c.loop-i-test.true (omega arith) c.begin_of.ensures

pub returns : goal.returns
returns c =
    let x = c.loop-i in
    let few = length-take c.args.count c.args.visits in
    let long : length c.args.visits ≡ 128 = search rules in
    arrive _ _ _ x.begins x.i x.invariant c.args.count (omega arith) c.loop-i-test.false
