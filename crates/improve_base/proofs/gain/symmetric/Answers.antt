-- `gain::symmetric` meets its contract. The loop's invariant: the legs between the calls from number i on are all as long both ways exactly
-- when all legs are. Assumes nothing.
-- ---- where the legs of a call are known
use Prim.Native.Nat.{ℕ}
use mathlib.Core.Path.{sym, ◌∙◌}
use lib.Ieee.{Float}
use Rattle.distance.specs.Lookup.{number_f}
use Rattle.improve_base.proofs.Counting.{pairs-go, pairs-stop, pairs_end}
use Rattle.improve_base.proofs.gain.symmetric.Goals as goal
use Rattle.improve_base.proofs.gain.symmetric.Goals.{At-loop-i}

abbrev leg : At-loop-i → ℕ → ℕ → Float
leg c = let a = c.args in number_f a.distances.now a.size

pub returns-then-not-call_symmetric : goal.returns-then-not-call_symmetric
returns-then-not-call_symmetric c =
    let found = sym c.call_symmetric.ensures ∙ c.if-not-call_symmetric.true in
    sym (pairs-stop (leg (goal.at.returns-then-not-call_symmetric c).At-loop-i) c.args.calls.now c.loop-i.i c.loop-i-test.true found) ∙ c.loop-i.invariant

pub loop-i-preserved : goal.loop-i-preserved
loop-i-preserved c =
    let found = sym c.call_symmetric.ensures ∙ c.if-not-call_symmetric.false in
    sym (pairs-go (leg (goal.at.loop-i-preserved c).At-loop-i) c.args.calls.now c.loop-i.i c.loop-i-test.true found) ∙ c.loop-i.invariant

pub returns : goal.returns
returns c =
    sym (pairs_end (leg (goal.at.returns c).At-loop-i) c.args.calls.now c.loop-i.i c.loop-i-test.false) ∙ c.loop-i.invariant
