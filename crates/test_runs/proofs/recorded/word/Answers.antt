-- `recorded::word` meets its contract. Assumes nothing.
-- the entry, before the two slices and the two tests for room
use Prim.Native.Nat.{◌+◌, ◌-◌}
use native.Mathlib.Omega.{arith}
use lib.ListN.{length}
use borrow.Author.Rules.{rules}
use Rattle.test_runs.proofs.Along.{beyond, too_long, is-there, is-not-there}
use Rattle.test_runs.proofs.recorded.word.Goals as goal

pub returns-then-n-at : goal.returns-then-n-at
returns-then-n-at c =
    let a = c.args in
    beyond a.recorded.now a.at a.bytes.now (omega arith)

pub returns-then-n-at-2 : goal.returns-then-n-at-2
returns-then-n-at-2 c =
    let a = c.args in
    too_long a.recorded.now a.at a.bytes.now (omega arith)

pub returns-then-same : goal.returns-then-same
returns-then-same c =
    let compared = c in
    let a = compared.args in
    let m = compared.same in
    is-there a.recorded.now a.at a.bytes.now {n = a.at + length a.bytes.now - a.at} (omega arith) m.result m.ensures (omega arith) (search rules)

pub returns-else-same : goal.returns-else-same
returns-else-same c =
    let compared = c in
    let a = compared.args in
    let m = compared.same in
    is-not-there a.recorded.now a.at a.bytes.now {n = a.at + length a.bytes.now - a.at} (omega arith) m.result m.ensures (search rules)
