-- `two_opt::two_opt_delta` meets its contract. Assumes nothing.
use native.Mathlib.Numerals.{add-one}
use Rattle.two_opt.specs.Delta.{delta_f}
use Rattle.two_opt.proofs.two_opt.two_opt_delta.Goals as goal

pub returns : goal.returns
unfolding delta_f
returns c =
    let behind = c in
    let ahead = behind in
    let s = ahead in
    rw (
      c.open_leg-2.ensures,
      c.open_leg-new_in.ensures,
      c.open_leg.ensures,
      behind.call_at-next_j.ensures,
      ahead.place_before-prev_i.ensures,
      s.requires.into_value,
      s.requires.turned_value,
      add-one s.args.j,
    )
