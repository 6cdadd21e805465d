-- `every::write_every` meets its contract. The loop's invariant: the first k ends are written. Assumes nothing.
use Rattle.std.proofs.Common.{arith}
use Rattle.bench_timing.proofs.Ends.{rises, set_out, turn, ends-ended, count-ended}
use Rattle.bench_timing.proofs.every.write_every.Goals as goal

pub loop-end-init : goal.loop-end-init
loop-end-init c = let a = c.args in set_out a.run a.n a.ends.now

pub loop-end-smaller : goal.loop-end-smaller
loop-end-smaller c = let l = c in let a = l.args in omega (arith, c.next_end-end.ensures, rises a.run a.n l.loop-end.end c.loop-end-test.true)

pub loop-end-preserved : goal.loop-end-preserved
loop-end-preserved c = let l = c in turn l.loop-end.invariant c.loop-end-test.true l.requires c.next_end-end.result c.next_end-end.ensures

pub returns : goal.returns
returns c = let q = c.loop-end.invariant in let h = c.loop-end-test.false in record { ends = ends-ended q h; count = count-ended q h }
