-- `head::rest_of` meets its contract. Assumes nothing.
use Prim.Native.Nat.{suc}
use native.Mathlib.Omega.{arith}
use Rattle.definitions.specs.Words.{words_of}
use Rattle.sheet_read.proofs.Picking.{values-picked, next-picked, none-picked, behind}
use Rattle.sheet_read.proofs.head.rest_of.Goals as goal

pub returns-then-count-earliest : goal.returns-then-count-earliest
returns-then-count-earliest c =
    let ws = words_of c.args.bytes.now in
    let e = c.find-earliest in
    rw (none-picked (values-picked 6) ws 0 e.result e.ensures (omega arith))

pub returns-then-count-latest : goal.returns-then-count-latest
returns-then-count-latest c =
    let second = c in
    let first = second in
    let ws = words_of first.args.bytes.now in
    let e = first.find-earliest in
    let l = second.find-latest in
    rw (
      next-picked (values-picked 6) ws 0 e.result e.ensures (omega arith),
      none-picked (values-picked 6) ws (suc e.result) l.result (behind 6 ws e.result l.result l.ensures) (omega arith),
    )

pub returns-then-count-duration : goal.returns-then-count-duration
returns-then-count-duration c =
    let third = c in
    let second = third in
    let first = second in
    let ws = words_of first.args.bytes.now in
    let e = first.find-earliest in
    let l = second.find-latest in
    let d = third.find-duration in
    rw (
      next-picked (values-picked 6) ws 0 e.result e.ensures (omega arith),
      next-picked (values-picked 6) ws (suc e.result) l.result (behind 6 ws e.result l.result l.ensures) (omega arith),
      none-picked (values-picked 6) ws (suc l.result) d.result (behind 6 ws l.result d.result d.ensures) (omega arith),
    )

pub returns : goal.returns
returns c =
    let third = c in
    let second = third in
    let first = second in
    let ws = words_of first.args.bytes.now in
    let e = first.find-earliest in
    let l = second.find-latest in
    let d = third.find-duration in
    rw (
      next-picked (values-picked 6) ws 0 e.result e.ensures (omega arith),
      next-picked (values-picked 6) ws (suc e.result) l.result (behind 6 ws e.result l.result l.ensures) (omega arith),
      next-picked (values-picked 6) ws (suc l.result) d.result (behind 6 ws l.result d.result d.ensures) (omega arith),
      c.number_at.ensures,
      c.number_at-2.ensures,
      c.number_at-3.ensures,
    )
