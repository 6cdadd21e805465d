-- `Violations::pushed` meets its contract: nothing more, or one more. Assumes nothing.
use Prim.Native.Nat.{◌+◌}
use native.Mathlib.Nat.{add-zero}
use mathlib.Core.Path.{refl, sym}
use mathlib.Core.Bool.{true}
use Rattle.visits.specs.Visiting.{listed}
use Rattle.visits.specs.Violations.{when}
use mathlib.Core.List.{append-nil}
use lib.ListN.{length-set}
use Rattle.visits.proofs.Walking.{written-some}
use native.Mathlib.Omega.{arith}
use Rattle.visits.proofs.violation.Violations.pushed.Goals as goal

pub returns-then-not-test : goal.returns-then-not-test
unfolding when
returns-then-not-test c =
    let no = c.if-not-test.true in
    record { list-is = rw no (sym (append-nil (listed c.args.self))); count-is = rw no (sym (add-zero c.args.self.count)); long = c.requires.0 }

pub returns : goal.returns
unfolding when
returns c =
    let S = c in
    let a = S.args in
    let yes = c.if-not-test.false in
    record {
      list-is = rw yes (written-some a.self.list a.self.count (a.self.count + 1) a.violation true (omega (arith, S.requires.0, S.requires.1)) refl);
      count-is = rw yes;
      long = simp length-set S.requires.0;
    }
