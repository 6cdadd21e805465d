-- `fill::put_piece` meets its contract. Assumes nothing.
use Prim.Native.Nat.{◌+◌}
use native.Mathlib.Omega.{arith}
use mathlib.Core.Path.{refl, sym, ◌∙◌}
use lib.ListN.{length, get_or}
use Rattle.listing_lines.proofs.Digits.{decimal-short}
use Rattle.listing_lines.proofs.Putting.{one}
use Rattle.templates.proofs.Filling.{gap-left, gap-used, plain-used, gap-piece, plain-piece}
use Rattle.templates.proofs.fill.put_piece.Goals as goal

pub offset_bounds-numbers-k : goal.offset_bounds-numbers-k
offset_bounds-numbers-k c =
    omega (arith, gap-left c.args.b c.args.k (length c.args.numbers.now) (sym c.is_gap.ensures ∙ c.if-is_gap.true))

pub bounds-numbers-k : goal.bounds-numbers-k
bounds-numbers-k c =
    let past-s = c in
    let s = past-s in
    let gap = sym c.is_gap.ensures ∙ c.if-is_gap.true in
    gap-left s.args.b s.args.k (length s.args.numbers.now) gap

pub decimal-requires : goal.decimal-requires
decimal-requires c =
    let past-a = c in
    let a = past-a.args in
    omega (arith, decimal-short (get_or a.numbers.now a.k 0) (omega (arith, c.type_inv.numbers a.k)))

pub returns-then-is_gap : goal.returns-then-is_gap
returns-then-is_gap c =
    let d = c in
    let before-if = d in
    let a = before-if.args in
    let gap = sym before-if.is_gap.ensures ∙ before-if.if-is_gap.true in
    let p = d.decimal.ensures in record { text = rw (gap-piece a.b a.k a.numbers.now gap) p; short = omega (arith, p.next, decimal-short (get_or a.numbers.now a.k 0) (omega (arith, c.type_inv.numbers a.k)), gap-used a.b a.k (length a.numbers.now) gap) }

pub returns : goal.returns
returns c =
    let s = c in
    let a = s.args in
    let plain = sym c.is_gap.ensures ∙ c.if-is_gap.false in record { text = rw (plain-piece a.b a.k a.numbers.now plain) (one a.at a.b (a.at + 1) a.out.now (omega arith) refl); short = omega (arith, plain-used a.b a.k (length a.numbers.now) plain) }
