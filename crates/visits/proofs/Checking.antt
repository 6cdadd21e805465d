-- The violations after the windows, pushed one by one: their list, and that there is room for each. Assumes nothing.
use Prim.Native.Nat.{ℕ, zero, suc, ◌+◌, ◌≤◌}
use native.Mathlib.Omega.{arith}
use native.Mathlib.Nat.{add_assoc}
use mathlib.Core.Path.{◌≡◌, refl, sym}
use mathlib.Core.Bool.{Bool, true, false, not, ◌&&◌}
use mathlib.Core.List.{List, [], ◌∷◌, ◌++◌, append_assoc}
use lib.Dec.{eqb}
use lib.ListN.{length, take, length-append}
use borrow.Author.Tests.{eqb-true, eq-eqb, ne_eqb}
use lib.Ieee.{Float}
use Rattle.basics.proofs.TestLaws.{and_right}
use Rattle.basics.specs.Lists.{is_empty}
use Rattle.definitions.specs.Load.{Load, seated, wheeled}
use Rattle.models.specs.Limits.{limit_f}
use Rattle.evaluation.specs.Records.{LimitsF}
use Rattle.visits.specs.declared.visit.ViolationType.TheVariants.{BreakNotPlaceable, MaxDistanceExceeded, MaxDurationExceeded}
use Rattle.visits.specs.declared.visit.Violation.{Violation}
use Rattle.visits.specs.declared.violation.Violations.{Violations}
use Rattle.visits.specs.Visiting.{listed, most_violations}
use Rattle.visits.specs.Violations.{over_f, when, over_capacity_f, over_wheelchairs_f, overloads_f, checked_f, Added, Checked}

-- nothing is counted exactly where nothing is listed
counts-none : {A : Type 0} (n : ℕ) (l : List A) → n ≤ length l → eqb n 0 ≡ is_empty (take n l)
counts-none zero l h = eq-eqb 0 0 refl
counts-none (suc n) [] h = absurd (none h)
  where
    none : suc n ≤ 0 → ⊥
    none h = omega arith
counts-none (suc n) (x ∷ l) h = ne_eqb (suc n) 0 none
  where
    none : suc n ≡ 0 → ⊥
    none e = omega arith

one : (b : Bool) (v : Violation) → length (when b v) ≤ 1
unfolding when
one true v = omega arith
one false v = omega arith

pub one_more : (f r : Violations) (b : Bool) (v : Violation) → Added f (when b v) r → r.count ≤ f.count + 1
one_more f r b v P = omega (arith, P.count-is, one b v)

-- the break is counted only where nothing else is
pub break-room : (f p : Violations) (missing b : Bool) (v : Violation) → b ≡ (missing && eqb f.count 0) → Added f (when b v) p → f.count ≤ 128 → p.count ≤ 128
unfolding when
break-room f p missing true v eb P h = let z = eqb-true f.count 0 (and_right missing (eqb f.count 0) (sym eb)) in omega (arith, one_more f p true v P)
break-room f p missing false v eb P h = omega (arith, P.count-is)

-- ---- the load

-- more, and after it more
added : (f s r : Violations) (vs ws : List Violation) → Added f vs s → Added s ws r → Added f (vs ++ ws) r
added f s r vs ws S R =
    record {
      list-is = rw (R.list-is, S.list-is) (append_assoc (listed f) vs ws);
      count-is = rw (R.count-is, S.count-is, length-append vs ws) (add_assoc f.count (length vs) (length ws));
      long = R.long;
    }

module _ (load capacity : Load) where
  abbrev seats : Violation
  seats = over_capacity_f load capacity

  abbrev places : Violation
  places = over_wheelchairs_f load capacity

  -- s is f with the seats, and r with the wheelchair places too
  pub all-loaded : (f s r : Violations) (b c : Bool)
      → b ≡ not (seated load capacity) → Added f (when b seats) s → c ≡ not (wheeled load capacity) → Added s (when c places) r → Added f (overloads_f load capacity) r
  unfolding overloads_f
  all-loaded f s r b c eb S ec R = rw (← eb, ← ec) (added f s r (when b seats) (when c places) S R)

  pub two-more : (f r : Violations) → Added f (overloads_f load capacity) r → r.count ≤ f.count + 2
  unfolding overloads_f
  two-more f r L =
      let full = not (seated load capacity) in
      let taken = not (wheeled load capacity) in
      omega (arith, L.count-is, length-append (when full seats) (when taken places), one full seats, one taken places)

-- ---- all of them

-- f is what is found before, and p, l, n and r with the break, the load, the distance and the duration
module _ (f p l n r : Violations) (missing : Bool) (load capacity : Load) (limits : LimitsF) (distance duration : Float) (long : length f.list ≡ most_violations) (few : f.count ≤ 128)
    (b : Bool) (eb : b ≡ (missing && eqb f.count 0)) (P : Added f (when b (record { kind = BreakNotPlaceable })) p)
    (L : Added p (overloads_f load capacity) l)
    (d : Bool) (far : Float) (ed : d ≡ over_f limits.max_distance distance) (ef : far ≡ limit_f limits.max_distance)
    (N : Added l (when d (record { kind = MaxDistanceExceeded distance far })) n)
    (t : Bool) (late : Float) (et : t ≡ over_f limits.max_duration duration) (el : late ≡ limit_f limits.max_duration)
    (R : Added n (when t (record { kind = MaxDurationExceeded duration late })) r) where
  pub all-checked : Checked f missing load capacity limits distance duration r
  unfolding checked_f
  all-checked =
      record {
        list-is = rw (R.list-is, N.list-is, L.list-is, P.list-is, et, el, ed, ef, eb, counts-none f.count f.list (omega arith));
        room = omega (arith, break-room f p missing b _ eb P few, two-more load capacity p l L, one_more l n d _ N, one_more n r t _ R);
        long = R.long;
      }
