-- On a sheet within the limits the runs of `split_tw` on floats are, for either placement of the break, the arcs of crates/definitions. Assumes nothing.
use Prim.Native.Nat.{ℕ, ◌+◌, ◌-◌, ◌*◌, ◌<◌, ◌≤◌}
use native.Mathlib.Omega.{arith}
use mathlib.Core.Path.{◌≡◌, refl, sym, ap, ap₂, subst, ◌∙◌}
use mathlib.Core.Bool.{Bool, true, false, not, ◌&&◌}
use mathlib.Core.List.{List, [], ◌∷◌}
use Rattle.std.specs.Prelude.{Option, None, Some, option_map}
use lib.ListN.{length, drop}
use Rattle.basics.proofs.TestLaws.{by-test}
use Rattle.basics.specs.Options.{◌>>=◌, given, value_or}
use Rattle.basics.specs.Lists.{All, is_empty}
use Rattle.bounds.specs.Sized.{Sized, Place}
use Rattle.bounds.specs.Bounds.{SmallTotals}
use Rattle.bounds.proofs.BoundLaws.{ride-most}
use Rattle.bounds.specs.CostBounds.{most_cost}
use Rattle.bounds.proofs.CostBoundLaws.{price-room, arcs-priced}
use Rattle.definitions.specs.Domain.{most_calls}
use Rattle.definitions.specs.Sheet.{Break, Sheet, customer}
use Rattle.definitions.specs.Run.{length_of, Totals, ride, fits, allowed, price}
use Rattle.definitions.specs.Clock.{clock, Arc, arc_of, arc}
use Rattle.definitions.specs.Placement.{by_clock, least_ride, least_arc, arc_by}
use Rattle.theorems.proofs.Legality.{with, clock-own, distance-of}
use Rattle.theorems.proofs.LeastPay.{least-own}
use Rattle.theorems.proofs.Beside.{unbroken-arcs}
use Rattle.models.specs.declared.placement.Placement.{Placement}
use Rattle.models.specs.declared.placement.Placement.TheVariants.{Clock, Least}
use Rattle.models.specs.Image.{fl_break}
use Rattle.models.proofs.Exact.{allow-exact}
use Rattle.whole.specs.Whole.{fl}
use Rattle.whole.proofs.WholeLaws.{fl-sum}
use Rattle.clock.specs.Image.{fl_totals}
use Rattle.evaluation.specs.Records.{LimitsF}
use Rattle.evaluation.specs.Image.{fl_limits}
use Rattle.evaluation.specs.Image as Evaluation
use Rattle.evaluation.proofs.ClockExact.{leg-exact}
use Rattle.evaluation.proofs.RouteExact.{small-limit}
use Rattle.evaluation.specs.Tables.{demand_f}
use Rattle.placements.specs.Chosen.{placement_of}
use Rattle.cut_runs.specs.Stretch.{fits_of}
use Rattle.cut_runs.specs.Tariff.{legal_of, runs_of, stretches}
use Rattle.cut_runs.specs.Runs.{Instance, End, end_of, least_end, end_by, end_in, allowed_f, pay_f, tariff}
use Rattle.cut_runs.proofs.Placing.{as_end, least-end}
use Rattle.cut_exact.proofs.StretchExact.{fits-exact}
use Rattle.cut_exact.proofs.ClocksExact.{fl_end, end-exact}
use Rattle.cut_exact.proofs.PlacesExact.{least-of-exact}
use Rattle.cut_exact.proofs.TableExact.{Setting, calls, calls-taken, room, calls-many, few-here, from-inside, far-is, run-far, RunIs, barred, priced}

-- what is lent holds the sheet
pub record ImageTw (s : Sheet) (I : Instance) : Type 0 where
  pub tables-hold : Evaluation.Image s I.tables
  pub limits-hold : I.limits ≡ fl_limits s
  pub capacity-holds : I.capacity ≡ s.head.capacity
  pub fixed-holds : I.fixed ≡ fl s.head.fixed

and-swap : (a b : Bool) → (a && b) ≡ (b && a)
and-swap true true = refl
and-swap true false = refl
and-swap false true = refl
and-swap false false = refl

-- a run of some calls is not empty
some-calls : (l : List ℕ) → 0 < length l → not (is_empty l) ≡ true
some-calls [] h = absurd (None h)
  where
    None : 0 < 0 → ⊥
    None h = omega arith
some-calls (c ∷ cs) h = refl

module _ (s : Sheet) (S : Sized s) (I : Instance) (M : ImageTw s I) (held : List ℕ) (inside : All (Place s) held) (few : length held ≤ most_calls)
    (demand-exact : (c : ℕ) → Place s c → demand_f I.tables.customers c ≡ (customer s c).demand) where
  abbrev pub X : Setting
  X =
      record {
        sheet = s;
        sized = S;
        arc = arc_by (placement_of I.placement) s;
        costs-small = arcs-priced s S (placement_of I.placement);
        held = held;
        inside = inside;
        few = few;
        tariff = tariff I;
        legs-exact = leg-exact s S I.tables M.tables-hold;
      }

  module _ (i j : ℕ) (o : i < j) (within : j ≤ length held) where
    abbrev run : List ℕ
    run = calls X i j

    abbrev far : ℕ
    far = length_of s run

    -- ---- the end of the run

    -- totals of the run with the place that they have: its end on floats is theirs, and so is its arc
    record Ends : Type 0 where
      totals : Option Totals
      own : (u : Totals) → totals ≡ Some u → ride s (with s run u.place) ≡ Some u
      end_is : end_in I (drop i held) (j - i) ≡ option_map fl_end totals
      arc-is : arc_by (placement_of I.placement) s run ≡ (totals >>= arc_of s run)

    abbrev ends_by : Placement → Option End
    ends_by p = end_by I.tables (drop i held) (j - i) I.limits p

    clock-end : end_of I.tables (drop i held) (j - i) I.limits.rest ≡ option_map fl_end (clock s run)
    clock-end =
        rw M.limits-hold
        (end-exact s S I.tables M.tables-hold (drop i held) (from-inside X i j o within) (j - i) (room X i j o within) (few-here X i j o within)
        ∙ ap (λ (l : List ℕ). option_map fl_end (clock s l)) (sym (calls-taken X i j o within)))

    by-clock : end_in I (drop i held) (j - i) ≡ end_of I.tables (drop i held) (j - i) I.limits.rest → arc_by (placement_of I.placement) s run ≡ arc s run → Ends
    unfolding arc
    by-clock e a = record { totals = clock s run; own = λ u q. (clock-own s run u q).0; end_is = e ∙ clock-end; arc-is = a }

    rest-holds : I.limits.rest ≡ option_map fl_break s.head.rest
    rest-holds = ap (λ (l : LimitsF). l.rest) M.limits-hold

    -- on a sheet without a break there is one placement
    unbroken : I.placement ≡ Least → s.head.rest ≡ None → Ends
    unfolding end_by least_end
    unbroken p z =
        let r = rest-holds ∙ ap (option_map fl_break) z in
        by-clock (rw (p, r)) (unbroken-arcs s z (placement_of I.placement) by_clock run)

    -- with one, the best of its places
    by-pay : I.placement ≡ Least → (b : Break) → s.head.rest ≡ Some b → Ends
    unfolding least_arc
    by-pay p b z =
        record {
          totals = least_ride s run;
          own = λ u q. (least-own s run u q).0;
          end_is =
              least-end I p (fl_break b) (rest-holds ∙ ap (option_map fl_break) z) (drop i held) (j - i)
              ∙ rw M.limits-hold
              (ap as_end
              (least-of-exact s S I.tables M.tables-hold (drop i held) (from-inside X i j o within) b z (j - i) (room X i j o within) (few-here X i j o within)
              ∙ ap (λ (l : List ℕ). option_map fl_totals (least_ride s l)) (sym (calls-taken X i j o within)))
              ∙ as-end (least_ride s run));
          arc-is = ap (λ (q : Placement). arc_by (placement_of q) s run) p;
        }
      where
        as-end : (o : Option Totals) → as_end (option_map fl_totals o) ≡ option_map fl_end o
        as-end None = refl
        as-end (Some u) = refl

    ends : Ends
    unfolding end_by
    ends = go I.placement refl s.head.rest refl
      where
        go : (p : Placement) → I.placement ≡ p → (r : Option Break) → s.head.rest ≡ r → Ends
        go Clock p r z = by-clock (ap ends_by p) (ap (λ (q : Placement). arc_by (placement_of q) s run) p)
        go Least p None z = unbroken p z
        go Least p (Some b) z = by-pay p b z

    -- ---- the run

    fits-is : fits_of (demand_f I.tables.customers) I.capacity (drop i held) (j - i) ≡ fits s run
    fits-is =
        rw M.capacity-holds
        (fits-exact s (drop i held) S (from-inside X i j o within) (demand_f I.tables.customers) demand-exact (j - i) (room X i j o within) ∙ ap (fits s) (sym (calls-taken X i j o within)))

    module _ (E : Ends) where
      -- without an end there is no run
      none_is : E.totals ≡ None → RunIs X i j
      unfolding legal_of allowed_f
      none_is e = barred (E.arc-is ∙ ap (λ (o : Option Totals). o >>= arc_of s run) e) (rw (E.end_is, e) refl)

      -- with one
      module _ (u : Totals) (e : E.totals ≡ Some u) where
        abbrev here : Arc
        here = record { place = u.place; cost = price s far u.pay }

        small : SmallTotals (j - i) u
        small =
            subst (λ (n : ℕ). SmallTotals n u) (calls-many X i j o within)
            (ride-most s S (with s run u.place) (omega (arith, calls-many X i j o within, few-here X i j o within)) u (E.own u e))

        far-here : u.distance ≡ far
        far-here = sym (ap (value_or 0) (distance-of s (with s run u.place) u (E.own u e)))

        arc-is : arc_by (placement_of I.placement) s run ≡ given (fits s run && allowed s u) here
        arc-is =
            E.arc-is
            ∙ rw (e, some-calls run (omega (arith, calls-many X i j o within)))
            (ap (λ (d : ℕ). given (fits s run && allowed s u) (record { place = u.place; cost = price s d u.pay })) far-here)

        allowed-is : allowed_f I (drop i held) (j - i) ≡ allowed s u
        unfolding allowed_f
        allowed-is =
            rw (E.end_is, e, M.limits-hold)
            (allow-exact s.head.max_distance s.head.max_duration u.distance u.duration
            (small-limit s.head.max_distance S.far-small) (small-limit s.head.max_duration S.long-small)
            (omega (arith, small.distance_most, few-here X i j o within)) (omega (arith, small.duration-most, few-here X i j o within)))

        legal-is : (runs_of (tariff I) (stretches held)).legal i j ≡ fits s run && allowed s u
        unfolding legal_of
        legal-is = ap₂ (λ (x y : Bool). x && y) allowed-is fits-is ∙ and-swap (allowed s u) (fits s run)

        pay-is : pay_f I (drop i held) (j - i) ≡ fl u.pay
        unfolding pay_f
        pay-is = rw (E.end_is, e) refl

        ext-is : (c : ℕ) → c ≤ i * most_cost → (runs_of (tariff I) (stretches held)).ext (fl c) i j ≡ fl (c + price s far u.pay)
        ext-is c h =
            let r = price-room s S i (j - i) c far u.pay (omega arith) (omega arith) h (run-far X i j o within) small.pay-most in
            rw (
              far-is X i j o within,
              pay-is,
              M.fixed-holds,
              fl-sum c s.head.fixed (omega (arith, r)),
              fl-sum (c + s.head.fixed) far (omega (arith, r)),
              fl-sum (c + s.head.fixed + far) u.pay r,
            )
            (ap fl (bracket c s.head.fixed far u.pay))
          where
            bracket : (a b c d : ℕ) → a + b + c + d ≡ a + (b + c + d)
            bracket a b c d = omega arith

        some_is : RunIs X i j
        some_is =
            by-test (fits s run && allowed s u) (λ t. priced here (arc-is ∙ ap (λ b. given b here) t) (legal-is ∙ t) ext-is)
            (λ f. barred (arc-is ∙ ap (λ b. given b here) f) (legal-is ∙ f))

    pub run_is : RunIs X i j
    run_is = go ends.totals refl
      where
        go : (o : Option Totals) → ends.totals ≡ o → RunIs X i j
        go None e = none_is ends e
        go (Some u) e = some_is ends u e
