-- `fill::filled` meets its contract. The loop's invariant: the first bytes of the template, up to the loop's index, are put, with k numbers. Assumes nothing.
use native.Mathlib.Omega.{arith}
use lib.ListN.{length, get_or}
use Rattle.listing_lines.proofs.Putting.{begun, turn}
use Rattle.templates.specs.Fill.{fill}
use Rattle.templates.proofs.Filling.{fill_more, used-few}
use Rattle.templates.proofs.fill.filled.Goals as goal

pub loop-b-init : goal.loop-b-init
loop-b-init c =
    let a = c.args in
    (omega arith, omega arith, begun (fill a.template.now a.numbers.now) a.at a.out.now (omega arith))

pub loop-b-preserved : goal.loop-b-preserved
loop-b-preserved c =
    let l = c.loop-b in
    let template = c.args.template.now in
    let numbers = c.args.numbers.now in
    let put = c.put_piece-end.ensures in
    let few = used-few (get_or template l.b-index 0) l.k (length numbers) (omega arith) in (
      omega (arith, few, c.used-k.ensures),
      omega (arith, c.used-k.ensures, put.short),
      rw c.used-k.ensures
          (turn l.invariant.2 _ put.text (fill_more template l.b-index l.k numbers (omega arith)) (omega (arith, few, put.short))),
    )
