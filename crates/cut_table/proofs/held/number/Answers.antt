-- `held::number` meets its contract. The loop's invariant: the first k numbers are written. Assumes nothing.
use Prim.Native.Nat.{ℕ, ◌+◌}
use native.Mathlib.Omega.{arith}
use mathlib.Core.Path.{◌≡◌, sym, ap, ◌∙◌}
use mathlib.Core.List.{List, ◌++◌}
use lib.ListN.{set, take, drop, length-set}
use lib.Seq.{length-take-le}
use Rattle.basics.specs.Lists.{count}
use Rattle.basics.proofs.ListLaws.{length-count}
use Rattle.definitions.specs.Room.{written}
use Rattle.cut_table.proofs.Writing.{numbered_more, written_over, given_back}
use Rattle.cut_table.proofs.held.number.Goals as goal

pub loop-k-preserved : goal.loop-k-preserved
loop-k-preserved c =
    let l = c.loop-k in
    let a = c.args in (
      length-set l.number-items l.k _ ∙ l.invariant.0,
      ap (λ (x : List ℕ). set x l.k (a.from + l.k)) l.invariant.1
          ∙ numbered_more (take a.n a.to.now) a.from l.k (omega (arith, length-take-le a.n a.to.now c.requires.0, c.loop-k-test.true)),
    )

pub returns : goal.returns
returns c =
    let l = c.loop-k in
    let a = c.args in
    let all : l.k ≡ a.n = omega arith in
    let long = length-take-le a.n a.to.now c.requires.0 ∙ sym (length-count a.from a.n) in
    ap (λ (x : List ℕ). x ++ drop a.n a.to.now)
    (l.invariant.1 ∙ ap (λ (k : ℕ). written (count a.from k) (take a.n a.to.now)) all ∙ written_over (count a.from a.n) (take a.n a.to.now) long)
    ∙ given_back (count a.from a.n) a.to.now a.n (length-count a.from a.n)
