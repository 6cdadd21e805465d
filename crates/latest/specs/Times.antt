-- A run's times, forward from the depot and back from its end: when its calls are left, and before when they have to be reached. By any
-- numbers with an infinity. Definitions only.
use Rattle.std.specs.Prelude.{ℕ, Bool, true, false, cond, ◌||◌, List, [], ◌∷◌, get_or, take, drop, Option, None, Some}
use Rattle.definitions.specs.Sheet.{WindowOf, BreakOf, CustomerOf}
use Rattle.evaluation.specs.Tables.{place_before}

-- what is asked of numbers
pub record Arithmetic (N : Type 0) : Type 0 where
  pub lt : N → N → Bool
  pub plus : N → N → N
  pub minus : N → N → N
  pub nought : N
  pub one : N
  -- above all others: a time that does not come, and no bound
  pub top : N

-- a call: from when on it is served, before when it has to be reached, and how long its service is
pub record HoursOf (N : Type 0) : Type 0 where
  pub ready : N
  pub bound : N
  pub service : N

-- Home before `long`, and before `spare` where the break is still to take; the break begins from `earliest` on and before `latest`. Without
-- one the last three are not read.
pub record DayOf (N : Type 0) : Type 0 where
  pub long : N
  pub spare : N
  pub broken : Bool
  pub earliest : N
  pub latest : N
  pub pause : N

-- with the break still to take, and with it taken; as times, or as bounds that these have to stay below
pub record TimesOf (N : Type 0) : Type 0 where
  pub before : N
  pub after : N

module _ {N : Type 0} (A : Arithmetic N) where
  abbrev pub later : N → N → N
  later x y = cond (A.lt x y) y x

  abbrev pub sooner : N → N → N
  sooner x y = cond (A.lt x y) x y

  -- the bound so much earlier; nothing is below nought
  abbrev pub less : N → N → N
  less bound by = cond (A.lt by bound) (A.minus bound by) A.nought

  -- ---- of a sheet

  -- above a limit, if there is one
  abbrev pub above : Option N → N
  above None = A.top
  above (Some most) = A.plus most A.one

  abbrev pub opens_at : Option (WindowOf N) → N
  opens_at None = A.nought
  opens_at (Some w) = w.ready

  -- a window with a penalty lets in at any time
  abbrev pub shuts_at : Option (WindowOf N) → Option N → N
  shuts_at None penalty = A.top
  shuts_at (Some w) None = A.plus w.due A.one
  shuts_at (Some w) (Some p) = A.top

  abbrev pub hours_of : CustomerOf N → HoursOf N
  hours_of c = record { ready = opens_at c.window; bound = shuts_at c.window c.penalty; service = c.service }

  abbrev pub day_of : Option N → Option (BreakOf N) → DayOf N
  day_of most None =
      record { long = above most; spare = above most; broken = false; earliest = A.nought; latest = A.nought; pause = A.nought }
  day_of most (Some b) =
      record {
        long = above most;
        spare = sooner (above most) b.earliest;
        broken = true;
        earliest = b.earliest;
        latest = A.plus b.latest A.one;
        pause = b.duration;
      }

  -- ---- forward

  -- when a call is left that can be entered from this time on
  unfoldable pub leave : HoursOf N → N → N
  leave hours arrival = cond (A.lt arrival hours.bound) (A.plus (later arrival hours.ready) hours.service) A.top

  -- after the break, which is begun on arrival here or later
  unfoldable pub rested : DayOf N → N → N
  rested day arrival =
      let start = later arrival day.earliest in
      cond (A.lt start day.latest) (A.plus start day.pause) A.top

  -- before the first call
  abbrev pub set_out : TimesOf N
  set_out = record { before = A.nought; after = A.top }

  -- a call more, so long away
  unfoldable pub serve : DayOf N → HoursOf N → N → TimesOf N → TimesOf N
  serve day hours travel t =
      let arrival = A.plus t.before travel in
      let taken = sooner (leave hours (rested day arrival)) (leave hours (A.plus t.after travel)) in
      record { before = leave hours arrival; after = cond day.broken taken t.after }

  -- ---- back

  -- before when a call has to be ready that has to be left before `bound`
  unfoldable pub entered : HoursOf N → N → N
  entered hours bound =
      let begin = less bound hours.service in
      cond (A.lt hours.ready begin) (sooner begin hours.bound) A.nought

  -- and before when it has to be reached, with the break there
  unfoldable pub paused : DayOf N → N → N
  paused day bound =
      let start = sooner (less bound day.pause) day.latest in
      cond (A.lt day.earliest start) start A.nought

  abbrev pub home : DayOf N → TimesOf N
  home day = record { before = day.spare; after = day.long }

  -- a call more in front, so far from the next
  unfoldable pub back : DayOf N → HoursOf N → N → TimesOf N → TimesOf N
  back day hours travel u =
      let plain = entered hours (less u.before travel) in
      let after = entered hours (less u.after travel) in
      record { before = cond day.broken (later plain (paused day after)) plain; after = cond day.broken after u.after }

  -- ---- a run

  -- so long away, at one of the two times below its bound
  unfoldable pub in_time : TimesOf N → N → TimesOf N → Bool
  in_time t travel u = A.lt (A.plus t.before travel) u.before || A.lt (A.plus t.after travel) u.after

  module _ (road : ℕ → ℕ → N) (hours : ℕ → HoursOf N) (day : DayOf N) where
    -- these calls from place a on
    unfoldable pub serves : TimesOf N → ℕ → List ℕ → TimesOf N
    serves t a [] = t
    serves t a (c ∷ cs) = serves (serve day (hours c) (road a c) t) c cs

    -- before when the first of these calls has to be reached; without one, the depot
    unfoldable pub bounds : List ℕ → TimesOf N
    bounds [] = home day
    bounds (c ∷ cs) = back day (hours c) (road c (get_or cs 0 0)) (bounds cs)

    -- c fits between the calls before number pos, left at t, and those from there on, which have to be reached before u
    unfoldable pub fits_f : List ℕ → ℕ → ℕ → TimesOf N → TimesOf N → Bool
    fits_f run pos c t u = in_time (serve day (hours c) (road (place_before run pos) c) t) (road c (get_or run pos 0)) u

    -- a run is in time with c before its call number pos
    abbrev pub timely : List ℕ → ℕ → ℕ → Bool
    timely run pos c = fits_f run pos c (serves set_out 0 (take pos run)) (bounds (drop pos run))
