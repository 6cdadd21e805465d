use Rattle.call_shared.proofs.Padded.{padded-gathered}
use Rattle.definitions.specs.Bytes.{numbers_of}
use Rattle.planner.specs.Calls.{lent_sheet}
use Rattle.planner.proofs.ImproversKept.{reversal-kept}
use Rattle.planner.proofs.reversing.two_opt_improve.Goals as goal

pub returns : goal.returns
returns c =
    let a = c.args in
    let cs = a.customers.now in
    let said = c.two_opt_improve.ensures in
    let answer-is = said.answer cs (rw (c.count-n.ensures, c.gathered-all.ensures) (padded-gathered cs)) in
    let calls-left-is = said.calls-left cs (rw (c.count-n.ensures, c.gathered-all.ensures) (padded-gathered cs)) in
    reversal-kept (lent_sheet a.head cs a.distances.now a.times.now) (numbers_of a.run.now) (numbers_of a.improved.now) answer-is calls-left-is
