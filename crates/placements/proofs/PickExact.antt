-- On a sheet within the limits the best of a run's break places on floats is that of crates/definitions, where the end with each place is. Assumes nothing.
use Prim.Native.Nat.{ℕ, zero, suc, ◌+◌, ◌≤◌, ◌<◌}
use native.Mathlib.Nat.{add-zero, le_refl}
use native.Mathlib.Omega.{arith}
use mathlib.Core.Path.{◌≡◌, refl, sym, ap, subst, ◌∙◌}
use mathlib.Core.Bool.{Bool, ◌&&◌}
use mathlib.Core.List.{List, map, map-map}
use Rattle.std.specs.Prelude.{Option, None, Some, option_map}
use lib.ListN.{length}
use Rattle.basics.proofs.TestLaws.{by-test}
use Rattle.basics.specs.Options.{◌>>=◌, Holds, given}
use Rattle.basics.specs.Lists.{count}
use Rattle.bounds.specs.Sized.{Sized}
use Rattle.bounds.specs.Bounds.{TotalsFit}
use Rattle.bounds.proofs.BoundLaws.{ride-most, totals-fit}
use Rattle.definitions.specs.Domain.{most_calls}
use Rattle.definitions.specs.Limits.{excused}
use Rattle.definitions.specs.Sheet.{Break, Sheet}
use Rattle.definitions.specs.Run.{Totals, home, ride, allowed}
use Rattle.definitions.specs.Placement.{preferred, pick, pick_all, least_ride}
use Rattle.theorems.proofs.Legality.{label_of, with}
use Rattle.theorems.proofs.Labels.{kept_end, excused_end, least-ends}
use Rattle.whole.specs.Whole.{fl}
use Rattle.whole.proofs.WholeLaws.{fl-lt, fl-eq}
use Rattle.models.specs.Limits.{allow_f}
use Rattle.models.proofs.Exact.{allow-exact}
use Rattle.clock.specs.declared.schedule.Scheduled.{Scheduled}
use Rattle.clock.specs.Least.{better_f, pick_f}
use Rattle.clock.specs.Image.{fl_totals}
use Rattle.evaluation.specs.Image.{fl_limits}
use Rattle.evaluation.proofs.RouteExact.{small-limit}

-- ---- the better of two

better-exact : (y x : Totals) → TotalsFit y → TotalsFit x → better_f (fl_totals y) (fl_totals x) ≡ preferred y x
better-exact y x Y X =
    rw (fl-lt y.pay x.pay Y.pay-fits X.pay-fits, fl-eq y.pay x.pay Y.pay-fits X.pay-fits, fl-lt y.duration x.duration Y.duration-fits X.duration-fits)

pick-exact : (x y : Option Totals) → Holds TotalsFit x → Holds TotalsFit y → pick_f (option_map fl_totals x) (option_map fl_totals y) ≡ option_map fl_totals (pick x y)
unfolding pick_f
pick-exact None y X Y = refl
pick-exact (Some x) None X Y = refl
pick-exact (Some x) (Some y) X Y = rw (better-exact y x Y X) (by-test (preferred y x) (λ t. rw t) (λ f. rw f))

pick-fits : (x y : Option Totals) → Holds TotalsFit x → Holds TotalsFit y → Holds TotalsFit (pick x y)
pick-fits None y X Y = Y
pick-fits (Some x) None X Y = X
pick-fits (Some x) (Some y) X Y = by-test (preferred y x) (λ t. rw t Y) (λ f. rw f X)

-- ---- the best of many, one after the other

module _ (f : ℕ → Option Totals) where
  -- the best of those before, and one more
  pick-last : (a n : ℕ) (old : Option Totals) → pick_all old (map f (count a (suc n))) ≡ pick (pick_all old (map f (count a n))) (f (a + n))
  pick-last a zero old = ap (λ (k : ℕ). pick old (f k)) (sym (add-zero a))
  pick-last a (suc n) old = pick-last (suc a) n (pick old (f a)) ∙ ap (λ (k : ℕ). pick (pick_all (pick old (f a)) (map f (count (suc a) n))) (f k)) (shift a n)
    where
      shift : (a n : ℕ) → suc a + n ≡ a + suc n
      shift a n = omega arith

  module _ (g : ℕ → Option Scheduled) (old : Option Totals) (O : Holds TotalsFit old) (first : g 0 ≡ option_map fl_totals old) where
    -- `g n` is the best of the old and of the first n on floats
    picks-exact : (n : ℕ) → ((k : ℕ) → k < n → Holds TotalsFit (f (suc k))) → ((k : ℕ) → k < n → g (suc k) ≡ pick_f (g k) (option_map fl_totals (f (suc k))))
        → (g n ≡ option_map fl_totals (pick_all old (map f (count 1 n)))) × Holds TotalsFit (pick_all old (map f (count 1 n)))
    picks-exact zero F more = (first, O)
    picks-exact (suc n) F more =
        let (e, B) = picks-exact n (λ k h. F k (up k h)) (λ k h. more k (up k h)) in
        let best = pick_all old (map f (count 1 n)) in
        let l : pick best (f (suc n)) ≡ pick_all old (map f (count 1 (suc n))) = sym (pick-last 1 n old ∙ ap (λ (k : ℕ). pick best (f k)) (number n)) in (
          more n (le_refl (suc n)) ∙ ap (λ (o : Option Scheduled). pick_f o (option_map fl_totals (f (suc n)))) e ∙ pick-exact best (f (suc n)) B (F n (le_refl (suc n)))
              ∙ ap (option_map fl_totals) l,
          subst (Holds TotalsFit) l (pick-fits best (f (suc n)) B (F n (le_refl (suc n)))),
        )
      where
        up : (k : ℕ) → k < n → k < suc n
        up k h = omega arith

        number : (n : ℕ) → 1 + n ≡ suc n
        number n = omega arith

-- ---- of a run's break places

module _ (s : Sheet) (S : Sized s) where
  -- totals that keep the limits
  pub kept-exact : (u : Totals) → TotalsFit u
      → given (allow_f (fl_limits s).max_distance (fl_limits s).max_duration (fl u.distance) (fl u.duration)) (fl_totals u) ≡ option_map fl_totals (given (allowed s u) u)
  kept-exact u F =
      let far = small-limit s.head.max_distance S.far-small in
      let long = small-limit s.head.max_duration S.long-small in
      rw (allow-exact s.head.max_distance s.head.max_duration u.distance u.duration far long F.distance-fits F.duration-fits)
      (by-test (allowed s u) (λ y. rw y) (λ n. rw n))

  module _ (calls : List ℕ) (few : length calls ≤ most_calls) where
    -- what a run comes to with some place
    pub ridden-fits : (p : ℕ) (u : Totals) → (label_of s calls p >>= home s calls) ≡ Some u → TotalsFit u
    unfolding ride
    ridden-fits p u e = totals-fit (length calls) few u (ride-most s S (with s calls p) few u e)

    given-fits : (p : ℕ) (test : Totals → Bool) → Holds TotalsFit (label_of s calls p >>= home s calls >>= λ u. given (test u) u)
    given-fits p test = go (label_of s calls p >>= home s calls) (ridden-fits p)
      where
        go : (o : Option Totals) → ((u : Totals) → o ≡ Some u → TotalsFit u) → Holds TotalsFit (o >>= λ u. given (test u) u)
        go None F = tt
        go (Some u) F = by-test (test u) (λ t. rw t (F u refl)) (λ n. rw n tt)

    module _ (b : Break) (rest-is : s.head.rest ≡ Some b) where
      abbrev kept_at : ℕ → Option Totals
      kept_at p = kept_end s b rest-is calls (label_of s calls p)

      -- `g n` is the best with none and with the first n calls
      pub least-exact : (g : ℕ → Option Scheduled) → g 0 ≡ option_map fl_totals (excused_end s b rest-is calls (label_of s calls 0))
          → ((k : ℕ) → k < length calls → g (suc k) ≡ pick_f (g k) (option_map fl_totals (kept_at (suc k))))
          → g (length calls) ≡ option_map fl_totals (least_ride s calls)
      least-exact g first more =
          (picks-exact kept_at g (excused_end s b rest-is calls (label_of s calls 0)) (given-fits 0 (λ u. allowed s u && excused b u.duration)) first (length calls)
          (λ k _. given-fits (suc k) (allowed s)) more).0
          ∙ ap (option_map fl_totals)
          (ap (pick_all (excused_end s b rest-is calls (label_of s calls 0))) (sym (map-map (kept_end s b rest-is calls) (label_of s calls) (count 1 (length calls))))
          ∙ sym (least-ends s b rest-is calls))
