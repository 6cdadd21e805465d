-- `text::decimal` meets its contract. Assumes nothing.
use Rattle.std.proofs.Common.{arith}
use Rattle.listing_lines.proofs.Digits.{small-room, more_room, put_small, put-more}
use Rattle.listing_lines.proofs.text.+decimal.Goals as goal

pub bounds-out-at : goal.bounds-out-at
bounds-out-at t c = omega (arith, small-room c.args.n c.if-n-lt10.true)

pub returns-then-n-lt10 : goal.returns-then-n-lt10
returns-then-n-lt10 t c =
    let a = c.args in
    put_small a.at a.n c.digit.result a.out.now c.if-n-lt10.true c.digit.ensures (omega (arith, small-room a.n c.if-n-lt10.true))

pub decimal-end-requires : goal.decimal-end-requires
decimal-end-requires t c =
    (omega arith, omega (arith, more_room c.args.n c.if-n-lt10.false))

pub bounds-out-end : goal.bounds-out-end
bounds-out-end t c = omega (arith, more_room c.args.n c.if-n-lt10.false)

pub overflow_add-result-2 : goal.overflow_add-result-2
overflow_add-result-2 t c = omega (arith, more_room c.args.n c.if-n-lt10.false)

pub returns : goal.returns
returns t c =
    let n = c.args.n in
    let e = c.decimal-end in
    put-more n c.digit-2.result c.if-n-lt10.false c.digit-2.ensures e.ensures (omega (arith, more_room n c.if-n-lt10.false))
