-- `given::is_counted` meets its contract. Assumes nothing.
use native.Mathlib.Omega.{arith}
use mathlib.Core.Path.{◌∙◌}
use lib.ListN.{length}
use borrow.Author.Tests.{le-ltb}
use Rattle.test_lists.proofs.Asked.{not_there, there-if-few}
use Rattle.test_lists.proofs.given.is_counted.Goals as goal

pub returns-then-bytes-eq0 : goal.returns-then-bytes-eq0
returns-then-bytes-eq0 c = not_there c.args.bytes.now (omega arith)

pub returns-then-n-bytes : goal.returns-then-n-bytes
returns-then-n-bytes c =
    let n = c in
    there-if-few n.args.bytes.now n.number_of-n.result n.number_of-n.ensures (omega arith)

pub returns-else-n-bytes : goal.returns-else-n-bytes
returns-else-n-bytes c =
    let n = c in
    let bytes = n.args.bytes.now in
    le-ltb n.number_of-n.result (length bytes) (omega arith) ∙ not_there bytes (omega (arith, n.number_of-n.ensures))
