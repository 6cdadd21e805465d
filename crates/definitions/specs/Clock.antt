-- The break clock: where no break place is named, the clock's place counts, 0 when no break is needed. Definitions only.
use Rattle.std.specs.Prelude.{ℕ, zero, suc, ◌+◌, Bool, cond, not, ◌&&◌, ◌||◌, List, [], ◌∷◌, get_or, take, ltb, eqb, Option, None, Some}
use Rattle.basics.specs.Options.{◌>>=◌, holds, given}
use Rattle.basics.specs.Lists.{is_empty}
use Rattle.definitions.specs.Sheet.{Break, Sheet, drive}
use Rattle.definitions.specs.Limits.{excused}
use Rattle.definitions.specs.Run.{Label, start, break_start, serve, serve_all, Run, last_of, Totals, home, fits, allowed, price}

-- the clock carries two labels, before and after the break
pub record Clock : Type 0 where
  pub before : Option Label
  pub after : Option Label

-- smaller by (time, lateness cost)
abbrev pub smaller : Label → Label → Bool
smaller x y = ltb x.time y.time || (eqb x.time y.time && ltb x.pay y.pay)

-- the smaller of the label carried on and the one broken here; a tie keeps the carried one
abbrev pub sooner : Option Label → Option Label → Option Label
sooner None broken = broken
sooner (Some carried) None = Some carried
sooner (Some carried) (Some broken) = cond (smaller broken carried) (Some broken) (Some carried)

-- one more call, number k, from a to customer c
abbrev pub tick : Sheet → ℕ → ℕ → ℕ → Clock → Clock
tick s k a c x =
    record {
      before = x.before >>= serve s None k a c;
      after = sooner (x.after >>= serve s None k a c) (s.head.rest >>= λ b. x.before >>= serve s (Some b) k a c);
    }

unfoldable pub clock_from : Sheet → ℕ → ℕ → Clock → List ℕ → Clock
clock_from s k a x [] = x
clock_from s k a x (c ∷ cs) = clock_from s (suc k) c (tick s k a c x) cs

-- A before-label that is excused needs no break; otherwise the after-label counts. Without a break on the sheet there
-- is the one label.
abbrev pub counts : Option Break → ℕ → Clock → Option Label
counts None back x = x.before
counts (Some b) back x = cond (holds x.before (λ l. excused b (l.time + back))) x.before x.after

-- the run's totals by the clock, its place among them; none where the run is illegal by the clock
unfoldable pub clock : Sheet → List ℕ → Option Totals
clock s calls = do
  back ← drive s (last_of 0 calls) 0
  l ← counts s.head.rest back.travel (clock_from s 1 0 (record { before = Some start; after = None }) calls)
  home s calls l

-- The clock's place: 0 when no break is needed. Where the run is illegal by the clock it is 0 too, which nobody reads: such a run is
-- legal with no place at all (theorems, `legal-arc`), so no cutting has it, and whoever asks for the place asks for a legal run first.
abbrev pub place_or : Option Totals → ℕ
place_or None = 0
place_or (Some t) = t.place

-- when the break of a run starts
unfoldable pub start_of : Sheet → Run → Option ℕ
start_of s r = go r.place
  where
    go : ℕ → Option ℕ
    go zero = None
    go (suc k) = do
      b ← s.head.rest
      l ← serve_all s 0 1 0 (Some start) (take k r.calls)
      leg ← drive s (last_of 0 (take k r.calls)) (get_or r.calls k 0)
      Some (break_start b (l.time + leg.travel))

-- what a run of these calls costs, and its break place
pub record Arc : Type 0 where
  pub place : ℕ
  pub cost : ℕ

-- the price of a run that comes to t; none where it is not legal
abbrev pub arc_of : Sheet → List ℕ → Totals → Option Arc
arc_of s calls t =
    given (not (is_empty calls) && fits s calls && allowed s t) (record { place = t.place; cost = price s t.distance t.pay })

-- by the clock
unfoldable pub arc : Sheet → List ℕ → Option Arc
arc s calls = clock s calls >>= arc_of s calls
