-- `cells::read_back` meets its contract. The loop's invariant: what is still to be read from j, put in front of the tail that is written, is what is asked. Assumes nothing.
use native.Mathlib.Omega.{arith}
use lib.ListN.{get_or}
use Rattle.cut_theory.proofs.BackLaws.{begun, onward, done}
use Rattle.cut_table.proofs.cells.read_back.Goals as goal

pub loop-j-init : goal.loop-j-init
loop-j-init c = begun (λ k. get_or c.args.pred.now k 0) c.args.n _ c.requires.n_le_most_cut.1 (omega arith)

pub loop-j-preserved : goal.loop-j-preserved
loop-j-preserved c =
    let l = c.loop-j in
    let s = c in
    onward (λ k. get_or s.args.pred.now k 0) s.args.n l.ends l.at l.j s.requires.falls c.loop-j-test.true l.invariant

pub returns : goal.returns
returns c =
    let l = c.loop-j in
    let a = c.args in
    record { upper_bound = (l.invariant.high, l.invariant.long); ends_after = done (λ k. get_or a.pred.now k 0) a.n l.ends l.at l.j c.loop-j-test.false l.invariant }
