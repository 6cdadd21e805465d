-- `heavy::write_dropped` meets its contract. The loop's invariant: of the positions dropped those of the first k calls are written; q of these calls fit alone, and a of their numbers are
-- passed. Assumes nothing.
use native.Mathlib.Omega.{arith}
use mathlib.Core.Path.{sym, ◌∙◌}
use Rattle.cut_stops.specs.Stops.{Below64}
use Rattle.cut_heavy.proofs.Writing.{none_more, one_more, all-written, heavy-here, gone-here, kept_here, none-spread}
use Rattle.cut_heavy.proofs.heavy.write_dropped.Goals as goal

pub fits_alone-requires : goal.fits_alone-requires
unfolding Below64
fits_alone-requires c =
    let l = c in
    let s = c in
    (s.requires.long.0, s.requires.long.1 l.loop-k.k c.loop-k-test.true)

pub loop-k-preserved-then-not-fits_alone : goal.loop-k-preserved-then-not-fits_alone
loop-k-preserved-then-not-fits_alone c =
    let l = c in
    let i = l.loop-k.invariant in
    let h = c.loop-k-test.true in (
      omega (arith, i.0),
      omega (arith, i.1),
      omega (arith, i.2),
      one_more i.3 _ _
          (heavy-here _ c.args.tour.now l.loop-k.k h c.args.gone.now l.loop-k.q l.loop-k.a (sym c.fits_alone.ensures ∙ c.if-not-fits_alone.true))
          (omega (arith, i.0, h, c.requires.tour_len_bound.1)),
    )

pub loop-k-preserved-then-not-is_next : goal.loop-k-preserved-then-not-is_next
loop-k-preserved-then-not-is_next c =
    let light = c in
    let l = light in
    let i = l.loop-k.invariant in
    let h = light.loop-k-test.true in (
      omega (arith, i.0),
      omega (arith, i.1),
      omega (arith, i.2),
      none_more i.3 _
          (kept_here _ c.args.tour.now l.loop-k.k h c.args.gone.now l.loop-k.q l.loop-k.a
          (sym light.fits_alone.ensures ∙ light.if-not-fits_alone.false) (sym c.is_next.ensures ∙ c.if-not-is_next.true)),
    )

pub loop-k-preserved : goal.loop-k-preserved
loop-k-preserved c =
    let light = c in
    let l = light in
    let i = l.loop-k.invariant in
    let h = light.loop-k-test.true in (
      omega (arith, i.0),
      omega (arith, i.1),
      omega (arith, i.2),
      one_more i.3 _ _
          (gone-here _ c.args.tour.now l.loop-k.k h c.args.gone.now l.loop-k.q l.loop-k.a
          (sym light.fits_alone.ensures ∙ light.if-not-fits_alone.false) (sym c.is_next.ensures ∙ c.if-not-is_next.false))
          (omega (arith, i.0, h, c.requires.tour_len_bound.1)),
    )

pub returns : goal.returns
returns c =
    let l = c in
    (all-written l.loop-k.invariant.3 (none-spread _ c.args.tour.now l.loop-k.k c.loop-k-test.false _ _ _)).1
