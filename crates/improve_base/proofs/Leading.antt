-- A run whose first calls are fixed: from where they leave the bus it ends as the whole run does. Assumes nothing.
use Prim.Native.Nat.{ℕ, suc, ◌+◌, ◌-◌, ◌<◌, ◌≤◌}
use native.Mathlib.Numerals.{add-one}
use native.Mathlib.Omega.{arith}
use mathlib.Core.Path.{◌≡◌, refl, sym, ap, ◌∙◌}
use mathlib.Core.Bool.{Bool, true, false, false≢true}
use mathlib.Core.List.{List, [], ◌∷◌, ◌++◌, append_assoc}
use Rattle.std.specs.Prelude.{Option, None, Some}
use lib.ListN.{length, get_or, take, drop, length-append, length-drop}
use lib.Seq.{take-suc, take_all, drop_at, length-take-le}
use lib.Ieee as Ieee
use lib.Ieee.{Float, binary64}
use Rattle.basics.proofs.TestLaws.{by-test}
use Rattle.basics.specs.Options.{◌>>=◌, given, present}
use Rattle.definitions.specs.Sheet.{BreakOf}
use Rattle.whole.specs.Whole.{fl}
use Rattle.distance.specs.declared.leg.Leg.{Leg}
use Rattle.clock.specs.declared.schedule.Scheduled.{Scheduled}
use Rattle.clock.specs.Records.{ClockF}
use Rattle.clock.specs.Clock.{begun_f, push_f, alive_f}
use Rattle.evaluation.specs.declared.way.Way.{Way}
use Rattle.evaluation.specs.Records.{Tables, LimitsF}
use Rattle.evaluation.specs.Tables.{record_f, leg_f}
use Rattle.evaluation.specs.Schedule.{TimedF, timed, tick_f, clock_from_f, clock_home_f, end_f}
use Rattle.evaluation.specs.Way.{start_way, through_f, way_f, homeward_f, plain_f}
use Rattle.evaluation.specs.Route.{totals_f, allowed_f, feasible_f}
use Rattle.evaluation.proofs.Growing.{end-gone}
use Rattle.evaluation.proofs.RouteExact.{joined}
use Rattle.improve_base.proofs.Onward.{ended-failed}
use Rattle.improve_base.specs.Prefix.{PrefixF, failed, plain, clocked, clocked_at, failed_f, index_f, set_out_f, reached_f, ticked_f, drive_f, on_f, on_all_f, home_from_f, ended_f, feasible_from_f, Leads}

-- ---- the run, ended

reached-on : (t : Tables) (cs : List ℕ) (o : Option Way) → ((v : Way) → ended_f t (plain v) cs ≡ plain_f t v cs)
    → ended_f t (reached_f o) cs ≡ ((o >>= λ v. way_f t v cs) >>= homeward_f t)
unfolding plain_f
reached-on t cs None h = ended-failed t cs
reached-on t cs (Some v) h = h v

ended-plain : (t : Tables) (w : Way) (calls : List ℕ) → ended_f t (plain w) calls ≡ plain_f t w calls
unfolding on_all_f on_f home_from_f plain_f through_f
ended-plain t w [] = refl
ended-plain t w (c ∷ cs) =
    reached-on t cs (drive_f t w c) (λ v. ended-plain t v cs) ∙ ap (λ (o : Option Way). o >>= homeward_f t) (joined (leg_f t w.prev c) _ (λ v. way_f t v cs))

ticked-on : (t : Tables) (cs : List ℕ) (o : Option TimedF) → ((y : TimedF) → ended_f t (clocked_at y) cs ≡ end_f t y.clock y.distance cs)
    → ended_f t (ticked_f o) cs ≡ ((o >>= λ y. clock_from_f t y cs) >>= clock_home_f t)
unfolding end_f
ticked-on t cs None h = ended-failed t cs
ticked-on t cs (Some y) h =
    by-test (alive_f y.clock) (λ e. rw e (h y)) (λ n. rw n (ended-failed t cs ∙ sym (end-gone t y.clock y.distance cs n)))

ended-clocked : (t : Tables) (x : ClockF) (far : Float) (calls : List ℕ) → ended_f t (clocked x far) calls ≡ end_f t x far calls
unfolding on_all_f on_f home_from_f end_f clock_from_f
ended-clocked t x far [] = refl
ended-clocked t x far (c ∷ cs) = ticked-on t cs (tick_f t (timed x far) c) (λ y. ended-clocked t y.clock y.distance cs)

ended-start : (t : Tables) (r : Option (BreakOf Float)) (calls : List ℕ) → ended_f t (set_out_f r) calls ≡ totals_f t r calls
unfolding totals_f
ended-start t None calls = ended-plain t start_way calls
ended-start t (Some b) calls = ended-clocked t (begun_f b) (fl 0) calls

-- a limit that is kept leaves the totals there
pub given-there : (b : Bool) (s : Scheduled) → b ≡ present (given b s)
given-there true s = refl
given-there false s = refl

-- ---- where calls lead

start-index : (r : Option (BreakOf Float)) → index_f (set_out_f r) ≤ 1
start-index None = omega arith
start-index (Some b) = omega arith

pub leads-start : (t : Tables) (limits : LimitsF) → Leads t limits [] (set_out_f limits.rest)
unfolding feasible_f allowed_f feasible_from_f
leads-start t limits = record { feasible = λ rest. rw (ended-start t limits.rest rest); index = start-index limits.rest }

reached-index : (o : Option Way) → index_f (reached_f o) ≤ 1
reached-index None = omega arith
reached-index (Some w) = omega arith

on-index : (t : Tables) (b : PrefixF) (c : ℕ) → index_f (on_f t b c) ≤ suc (index_f b)
unfolding on_f push_f
on-index t failed c = omega arith
on-index t (plain w) c = reached-index (drive_f t w c)
on-index t (clocked x far) c = ticked-index (leg_f t x.prev c)
  where
    after : Leg → TimedF
    after g = timed (push_f x c (record_f t c) g.time) (Ieee.add binary64 far g.distance)

    ticked-index : (o : Option Leg) → index_f (ticked_f (o >>= λ g. Some (after g))) ≤ suc x.index
    ticked-index None = omega arith
    ticked-index (Some g) = by-test (alive_f (after g).clock) (λ y. rw y (omega arith)) (λ n. rw n (omega arith))

module _ (t : Tables) (limits : LimitsF) where
  from_on : (b : PrefixF) (c : ℕ) (rest : List ℕ) → feasible_from_f t limits b (c ∷ rest) ≡ feasible_from_f t limits (on_f t b c) rest
  unfolding feasible_from_f on_all_f
  from_on b c rest = refl

  leads-on : (calls : List ℕ) (b : PrefixF) (c : ℕ) → Leads t limits calls b → Leads t limits (calls ++ (c ∷ [])) (on_f t b c)
  leads-on calls b c L =
      record {
        feasible = λ rest. ap (feasible_f t limits) (append_assoc calls (c ∷ []) rest) ∙ (L.feasible (c ∷ rest) ∙ from_on b c rest);
        index = omega (arith, on-index t b c, L.index, length-append calls (c ∷ []));
      }

  -- the next call of a run whose calls before it stayed
  pub leads-next : (i : ℕ) (run new : List ℕ) (b n : PrefixF) → i < length new → take i new ≡ take i run → Leads t limits (take i run) b
      → n ≡ on_f t b (get_or new i 0) → Leads t limits (take (i + 1) new) n
  leads-next i run new b n h e L en = rw (en, add-one i, take-suc new i 0 h, e) (leads-on (take i run) b (get_or new i 0) L)

  -- a run that keeps the first i calls, asked from there on
  pub asked : (i : ℕ) (run behind : List ℕ) (b : PrefixF) → i ≤ length run → Leads t limits (take i run) b
      → (r : Bool) → r ≡ feasible_from_f t limits b (take (length (take i run ++ behind) - i) (drop i (take i run ++ behind)))
      → feasible_f t limits (take i run ++ behind) ≡ r
  asked i run behind b h L r e =
      let new = take i run ++ behind in
      let tail : take (length new - i) (drop i new) ≡ behind =
      take_all (length new - i) (drop i new) (omega (arith, length-drop i new)) ∙ drop_at (take i run) behind i (length-take-le i run h) in
      L.feasible behind ∙ sym (e ∙ ap (feasible_from_f t limits b) tail)

  -- where the first calls cannot be served, no run is feasible
  never : (b : PrefixF) (rest : List ℕ) → failed_f b ≡ true → feasible_from_f t limits b rest ≡ false
  unfolding feasible_from_f
  never failed rest f = rw (ended-failed t rest)
  never (plain w) rest f = absurd (false≢true f)
  never (clocked x far) rest f = absurd (false≢true f)

  pub not-feasible : (calls rest : List ℕ) (b : PrefixF) → failed_f b ≡ true → Leads t limits calls b → feasible_f t limits (calls ++ rest) ≡ false
  not-feasible calls rest b f L = L.feasible rest ∙ never b rest f
