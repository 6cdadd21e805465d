-- `held::remove` meets its contract. The loop's invariant: the calls from `at` up to k are moved down by one. Assumes nothing.
use native.Mathlib.Omega.{arith}
use Rattle.cut_theory.proofs.Moved.{moved_all}
use Rattle.cut_table.proofs.held.remove.Goals as goal

pub returns : goal.returns
returns c =
    let l = c.loop-k in
    let a = c.args in
    moved_all a.list.now l.list a.at a.n l.k c.requires.0 c.requires.1 l.invariant.0 (omega (arith, c.loop-k-test.false)) l.invariant.1
