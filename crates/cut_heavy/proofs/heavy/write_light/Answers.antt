-- `heavy::write_light` meets its contract. The loop's invariant: of the calls that fit alone those among the first calls are written. Assumes nothing.
use native.Mathlib.Omega.{arith}
use mathlib.Core.Path.{sym, ◌∙◌}
use Rattle.cut_stops.specs.Stops.{Below64}
use Rattle.cut_heavy.proofs.Writing.{none_more, one_more, left_out, put_in}
use Rattle.cut_heavy.proofs.heavy.write_light.Goals as goal
use Rattle.cut_heavy.proofs.heavy.write_light.Goals.{then-fits_alone, else-fits_alone}

pub fits_alone-requires : goal.fits_alone-requires
unfolding Below64
fits_alone-requires c = (c.requires.long.0, c.requires.long.1 c.loop-c.c-index c.loop-c-test.true)

pub loop-c-preserved : goal.loop-c-preserved
loop-c-preserved c =
    let l = c.loop-c in
    let i = l.invariant in
    let h = c.loop-c-test.true in
    let fits = c.fits_alone.ensures in
    elim c.if-fits_alone.branch [
      | then-fits_alone w ↦
          rw (w.n-is, w.to-is) (
            omega (arith, i.0),
            one_more i.1 _ _ (put_in _ c.args.tour.now l.c-index h (sym fits ∙ w.if-fits_alone.true)) (omega (arith, i.0, h, c.requires.tour_in_bounds)),
          )
      | else-fits_alone w ↦ rw (w.n-is, w.to-is) (omega (arith, i.0), none_more i.1 _ (left_out _ c.args.tour.now l.c-index h (sym fits ∙ w.if-fits_alone.false)))
    ]
