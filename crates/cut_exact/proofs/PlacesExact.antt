-- On a sheet within the limits the end of a stretch with its break at the best of its places is, on floats, that of its calls as a run of crates/definitions. Assumes nothing.
use Prim.Native.Nat.{ℕ, zero, suc, ◌≤◌}
use native.Mathlib.Nat.{le_of_lt}
use native.Mathlib.Omega.{arith}
use mathlib.Core.Path.{◌≡◌, refl, sym, ap, subst, ◌∙◌}
use mathlib.Core.Bool.{◌&&◌, and-true, and-false}
use mathlib.Core.List.{List}
use Rattle.std.specs.Prelude.{Option, Some, option_map}
use lib.ListN.{length, get_or, take}
use lib.Seq.{length-take-le}
use lib.Dec.{eqb}
use lib.Ieee.{Float, binary64, add}
use Rattle.basics.proofs.TestLaws.{by-test}
use Rattle.basics.specs.Options.{◌>>=◌, Holds, given}
use Rattle.basics.specs.Lists.{All}
use Rattle.bounds.specs.Sized.{SmallBreak, Sized, Place}
use Rattle.bounds.specs.Bounds.{Early, TotalsFit}
use Rattle.bounds.proofs.Inside.{call-inside}
use Rattle.definitions.specs.Domain.{most_calls}
use Rattle.definitions.specs.Limits.{excused}
use Rattle.definitions.specs.Sheet.{BreakOf, Break, Sheet, Leg, drive}
use Rattle.definitions.specs.Run as Whole
use Rattle.definitions.specs.Run.{serve, break_at, serve_all, last_of, Totals, home, allowed}
use Rattle.definitions.specs.Placement.{least_ride}
use Rattle.theorems.proofs.Roads.{by-leg, home_by}
use Rattle.theorems.proofs.Legality.{label_of}
use Rattle.whole.specs.Whole.{fl}
use Rattle.whole.proofs.WholeLaws.{fl-sum}
use Rattle.models.specs.Image.{fl_break}
use Rattle.distance.specs.declared.leg.Leg as Driven
use Rattle.distance.proofs.Exact.{fl_leg}
use Rattle.clock.specs.declared.schedule.Label.{Label}
use Rattle.clock.specs.declared.schedule.Scheduled.{Scheduled}
use Rattle.clock.specs.Serving.{serve_f}
use Rattle.clock.specs.Least.{KeptF, kept_home_f, excused_home_f, pick_f}
use Rattle.clock.specs.Image.{fl_label, fl_totals}
use Rattle.clock.proofs.ServingExact.{through}
use Rattle.clock.proofs.HomeExact.{excused-exact}
use Rattle.evaluation.specs.Records.{Tables}
use Rattle.evaluation.specs.Tables.{record_f, leg_f, place_before}
use Rattle.evaluation.specs.Image.{fl_limits, Image}
use Rattle.evaluation.proofs.ClockExact.{leg-exact, carry-exact}
use Rattle.evaluation.proofs.RouteExact.{joined}
use Rattle.placements.proofs.PickExact.{kept-exact, ridden-fits, least-exact}
use Rattle.cut_runs.specs.Places as Places
use Rattle.cut_runs.specs.Stretch.{way_of}
use Rattle.cut_runs.specs.Places.{here_f, home_of, least_to, least_of}
use Rattle.cut_exact.proofs.StretchExact.{place_inside}
use Rattle.cut_exact.proofs.ClocksExact.{after, after-early, after_more, home-through}

module _ (s : Sheet) (S : Sized s) (t : Tables) (I : Image s t) (st : List ℕ) (inside : All (Place s) st) (b : Break) (rest-is : s.head.rest ≡ Some b) where
  break-small : SmallBreak b
  break-small = subst (Holds SmallBreak) rest-is S.rest-small

  abbrev limits : KeptF
  limits = record { max_distance = (fl_limits s).max_distance; max_duration = (fl_limits s).max_duration }

  -- ---- the labels

  -- the break at call p alone
  here-exact : (p k : ℕ) → here_f (fl_break b) p k ≡ option_map fl_break (break_at s p k)
  here-exact p k = by-test (eqb p k) (λ e. rw (e, rest-is)) (λ e. rw e)

  here-small : (p k : ℕ) → Holds SmallBreak (break_at s p k)
  here-small p k = by-test (eqb p k) (λ e. rw (e, rest-is) break-small) (λ e. rw e tt)

  label-exact : (p m : ℕ) → m ≤ length st → m ≤ most_calls → Places.label_of t st (fl_break b) p m ≡ option_map fl_label (after s S t I st inside p m)
  unfolding Places.label_of serve_all
  label-exact p zero h few = refl
  label-exact p (suc m) h few =
      rw (label-exact p m (le_of_lt h) (le_of_lt few))
      (through (after s S t I st inside p m) fl_label _ fl_label (serve s (break_at s p (suc m)) (suc m) (place_before st m) (get_or st m 0))
      (λ l e. one l (subst (Holds (Early m)) e (after-early s S t I st inside p m (le_of_lt h) (le_of_lt few))))
      ∙ ap (option_map fl_label) (sym (after_more s S t I st inside p m h)))
    where
      one : (l : Whole.Label) → Early m l
          → (leg_f t (place_before st m) (get_or st m 0) >>= λ g. serve_f (record_f t (get_or st m 0)) (here_f (fl_break b) p (suc m)) (suc m) g.time (fl_label l))
          ≡ option_map fl_label (serve s (break_at s p (suc m)) (suc m) (place_before st m) (get_or st m 0) l)
      one l E =
          let c = get_or st m 0 in
          let a = place_before st m in
          let q = call-inside s S st m inside in
          let looked = leg-exact s S t I a c (place_inside s st S inside m) q in
          by-leg s a c (λ e. rw (looked, e))
          (λ g e. ap (λ (o : Option Driven.Leg). o >>= λ g. serve_f (record_f t c) (here_f (fl_break b) p (suc m)) (suc m) g.time (fl_label l)) (looked ∙ ap (option_map fl_leg) e)
          ∙ ap (λ (o : Option (BreakOf Float)). serve_f (record_f t c) o (suc m) (fl g.travel) (fl_label l)) (here-exact p (suc m))
          ∙ carry-exact s S t I m few (break_at s p (suc m)) (here-small p (suc m)) (suc m) a c g e q (Some l) E)

  -- ---- home

  module _ (m : ℕ) (h : m ≤ length st) (few : m ≤ most_calls) where
    abbrev run : List ℕ
    run = take m st

    run-few : length run ≤ most_calls
    run-few = omega (arith, length-take-le m st h)

    -- home after label l, along a leg that is open
    module _ (p : ℕ) (l : Whole.Label) (is : label_of s run p ≡ Some l) (d : ℕ) (w : Leg) (back : drive s (last_of 0 run) 0 ≡ Some w)
        (comes : home s run l ≡ Some (home_by s run d w.travel l)) where
      abbrev totals : Totals
      totals = home_by s run d w.travel l

      fit : TotalsFit totals
      fit = ridden-fits s S run run-few p totals (ap (λ (o : Option Whole.Label). o >>= home s run) is ∙ comes)

      at_home : add binary64 (fl l.time) (fl w.travel) ≡ fl totals.duration
      at_home = fl-sum l.time w.travel fit.duration-fits

      -- with the break taken
      kept-home : kept_home_f limits (fl d) (fl w.travel) (fl_label l) ≡ option_map fl_totals (given (allowed s totals) totals)
      unfolding kept_home_f
      kept-home = rw at_home (kept-exact s S totals fit)

      -- without one
      excused-home : excused_home_f (fl_break b) limits (fl d) (fl w.travel) (fl_label l)
          ≡ option_map fl_totals (given (allowed s totals && excused b totals.duration) totals)
      unfolding excused_home_f
      excused-home =
          rw (kept-home, at_home, excused-exact b break-small totals.duration fit.duration-fits)
          (by-test (excused b totals.duration) (λ e. rw (e, and-true (allowed s totals))) (λ e. rw (e, and-false (allowed s totals))))

    -- the end with the break at p, by what is made of the label
    homes : (p : ℕ) (f : Float → Float → Label → Option Scheduled) (g : Totals → Option Totals)
        → ((l : Whole.Label) → label_of s run p ≡ Some l → (d : ℕ) (w : Leg) → drive s (last_of 0 run) 0 ≡ Some w → home s run l ≡ Some (home_by s run d w.travel l)
        → f (fl d) (fl w.travel) (fl_label l) ≡ option_map fl_totals (g (home_by s run d w.travel l)))
        → (Places.label_of t st (fl_break b) p m >>= λ l. way_of (leg_f t) st m >>= λ far. leg_f t (place_before st m) 0 >>= λ back. f far back.time l)
        ≡ option_map fl_totals (label_of s run p >>= home s run >>= g)
    homes p f g same =
        rw (label-exact p m h few)
        (through (label_of s run p) fl_label _ fl_totals (λ l. home s run l >>= g)
        (λ l e. home-through s S t I st inside m h few fl_totals l (λ far back. f far back (fl_label l)) g (same l e))
        ∙ ap (option_map fl_totals) (sym (joined (label_of s run p) (home s run) g)))

    -- ---- the best place

    pub least-of-exact : least_of t st (fl_break b) limits m ≡ option_map fl_totals (least_ride s run)
    unfolding least_to home_of
    least-of-exact =
        ap (least_to t st (fl_break b) limits m) (sym (length-take-le m st h))
        ∙ least-exact s S run run-few b rest-is (least_to t st (fl_break b) limits m)
        (homes 0 (excused_home_f (fl_break b) limits) (λ u. given (allowed s u && excused b u.duration) u) (excused-home 0))
        (λ k _. ap (pick_f (least_to t st (fl_break b) limits m k)) (homes (suc k) (kept_home_f limits) (λ u. given (allowed s u) u) (kept-home (suc k))))
