-- A call more, with a break on the sheet and without. Assumes nothing.
use mathlib.Core.Path.{◌≡◌}
use mathlib.Core.Bool.{true, false}
use Rattle.latest.specs.Times.{Arithmetic, HoursOf, DayOf, TimesOf, later, sooner, less, leave, rested, serve, entered, paused, back}

module _ {N : Type 0} (A : Arithmetic N) (day : DayOf N) (hours : HoursOf N) (travel : N) (t : TimesOf N) where
  pub serve-broken : day.broken ≡ true
      → record { before = leave A hours (A.plus t.before travel); after = sooner A (leave A hours (rested A day (A.plus t.before travel))) (leave A hours (A.plus t.after travel)) }
      ≡ serve A day hours travel t
  unfolding serve
  serve-broken e = rw e

  pub serve-whole : day.broken ≡ false → record { before = leave A hours (A.plus t.before travel); after = t.after } ≡ serve A day hours travel t
  unfolding serve
  serve-whole e = rw e

  pub back-broken : day.broken ≡ true
      → record { before = later A (entered A hours (less A t.before travel)) (paused A day (entered A hours (less A t.after travel))); after = entered A hours (less A t.after travel) }
      ≡ back A day hours travel t
  unfolding back
  back-broken e = rw e

  pub back_whole : day.broken ≡ false → record { before = entered A hours (less A t.before travel); after = t.after } ≡ back A day hours travel t
  unfolding back
  back_whole e = rw e
