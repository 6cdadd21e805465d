-- `called::repeats` meets its contract. Assumes nothing.
use mathlib.Core.Path.{sym, ap, ◌∙◌}
use mathlib.Core.Bool.{true}
use native.Mathlib.Omega.{arith}
use lib.ListN.{length, length-set}
use Rattle.refuse_lists.proofs.Calling.{twice-here, twice-on, twice-end}
use Rattle.refuse_lists.proofs.called.repeats.Goals as goal

pub returns-then-is_called : goal.returns-then-is_called
returns-then-is_called c =
    let l = c.loop-c in
    sym (twice-here c.args.tour.now l.c-index l.called (omega arith) (sym c.is_called.ensures ∙ c.if-is_called.true)) ∙ l.invariant.1

pub loop-c-preserved : goal.loop-c-preserved
loop-c-preserved c =
    let l = c.loop-c in
    let noted = c.note_call.ensures in
    let on = twice-on c.args.tour.now l.c-index l.called (omega arith) (sym c.is_called.ensures ∙ c.if-is_called.false) in
    (ap length noted ∙ length-set l.called _ true ∙ l.invariant.0, rw noted (on ∙ l.invariant.1))

pub returns : goal.returns
returns c = let l = c.loop-c in sym (twice-end c.args.tour.now l.c-index l.called (omega arith)) ∙ l.invariant.1
