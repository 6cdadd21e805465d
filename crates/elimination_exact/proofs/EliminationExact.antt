-- On a sheet of whole numbers within the limits, held in floats, eliminate_routes is that of crates/definitions. Assumes nothing.
use Prim.Native.Nat.{ℕ, zero, suc, ◌+◌, ◌-◌, ◌<◌, ◌≤◌}
use native.Mathlib.Omega.{arith}
use native.Mathlib.Nat.{zero-add, not-suc-le-zero}
use mathlib.Core.Path.{◌≡◌, refl, sym, ap, ap₂, subst, ◌∙◌}
use mathlib.Core.Bool.{true, false, cond}
use mathlib.Core.List.{List, [], ◌∷◌}
use Rattle.std.specs.Prelude.{Option, None, Some, option_map}
use lib.ListN.{length, drop}
use lib.Ieee as Ieee
use lib.Ieee.{Float, binary64}
use borrow.Author.Tests.{lt-ltb}
use Rattle.basics.specs.Options.{value_or, or_else, Holds}
use Rattle.basics.specs.Lists.{All}
use Rattle.bounds.specs.Sized.{Sized, Place}
use Rattle.bounds.proofs.Inside.{sized, few-calls, calls-inside}
use Rattle.basics.proofs.ListLaws.{all_take, all_drop}
use Rattle.bounds.proofs.BoundLaws.{legs-most, open-small}
use Rattle.definitions.specs.Domain.{most_calls}
use Rattle.definitions.specs.Sheet.{Sheet}
use Rattle.definitions.specs.Refusals.{Within, WithinCalls, ends_fall}
use Rattle.definitions.specs.Sort.{rising, sort}
use Rattle.definitions.specs.RunList.{runs_from, runs_of}
use Rattle.theorems.proofs.RunListLaws.{RiseTo, calls_back}
use Rattle.definitions.specs.Improver.{open_leg, given_of, distance_of, total}
use Rattle.definitions.specs.Elimination.{non_empty, Parted, parted, placed_all, emptied, first_emptied, search, searches, eliminated}
use Rattle.theorems.proofs.SortLaws.{sort-all}
use Rattle.theorems.proofs.EliminationLaws.{Calls}
use Rattle.whole.specs.Whole.{fl}
use Rattle.whole.specs.Half.{halves}
use Rattle.whole.specs.Gain.{farthest, gain_floor_f}
use Rattle.whole.proofs.GainLaws.{elimination-test}
use Rattle.whole.proofs.DifferenceLaws.{diff-none}
use Rattle.improve_runs.specs.Least.{by_seats}
use Rattle.improve_runs.proofs.Holding.{rises-to}
use Rattle.improve_runs.proofs.Sorting.{sort-map, map-itself, sort-length}
use Rattle.place_choice.specs.Insertion.{GivenF, demand_f}
use Rattle.route_elimination.specs.Placing.{PlacedF, place_all_f}
use Rattle.route_elimination.specs.Elimination.{finite_f, emptied_f, first_emptied_f, search_f, searches_f, eliminated_f}
use Rattle.elimination_exact.specs.Image.{Image}
use Rattle.route_elimination.proofs.Fewer.{calls}
use Rattle.elimination_exact.proofs.GoodRuns.{Good, GoodPart, parted-good, non-empty-good}
use Rattle.elimination_exact.proofs.CostExact.{finite-exact, demand-exact, total-most, saved-exact}
use Rattle.elimination_exact.proofs.PlaceExact.{most_total, answered, all-exact, all-good, all-below}

module _ (s : Sheet) (D : Within s) (T : GivenF) (I : Image s T) where
  abbrev S : Sized s
  S = sized s D

  moving-exact : (run : List ℕ) → All (Place s) run → sort (by_seats (demand_f T)) run ≡ sort (by_seats (given_of s).demand) run
  moving-exact run a =
      ap (sort (by_seats (demand_f T))) (sym (map-itself run))
      ∙ sort-map (by_seats (demand_f T)) (λ (c : ℕ). c) (by_seats (given_of s).demand) (Place s) (λ x y p q. rw (demand-exact s S T I x p, demand-exact s S T I y q)) run a
      ∙ map-itself (sort (by_seats (given_of s).demand) run)

  -- ---- a run that may go

  module _ (p : Parted) (n : ℕ) (h : n ≤ most_calls) (P : GoodPart s n p) where
    abbrev base : ℕ
    base = total (given_of s) p.rest

    abbrev saved : ℕ
    saved = distance_of (given_of s) p.run + s.head.fixed

    abbrev moving : List ℕ
    moving = sort (by_seats (given_of s).demand) p.run

    pub base-small : base ≤ most_total
    base-small = omega (arith, total-most s S p.rest P.others.some-calls, P.few)

    pub saved-small : saved ≤ halves
    saved-small = go p.run P.run-calls (omega (arith, P.few))
      where
        go : (run : List ℕ) → Calls run → length run ≤ most_calls → distance_of (given_of s) run + s.head.fixed ≤ halves
        go [] c few = absurd c
        go (x ∷ xs) c few = omega (arith, legs-most (open_leg s) (open-small s S) 0 (x ∷ xs), S.fixed-small)

    room : calls p.rest + length moving ≤ most_calls
    room = omega (arith, sort-length (by_seats (given_of s).demand) p.run, P.few)

    moving-inside : All (Place s) moving
    moving-inside = sort-all (by_seats (given_of s).demand) (Place s) p.run P.run_inside

    -- what the others come to, with its customers
    abbrev left : Option (List (List ℕ))
    left = placed_all (given_of s) (saved + base) moving p.rest

    placed-exact : place_all_f T (fl 0) (fl saved) (sort (by_seats (demand_f T)) p.run) p.rest ≡ option_map (answered s D T I base saved base-small (omega (arith, saved-small))) left
    placed-exact =
        ap₂ (λ (z : Float) (l : List ℕ). place_all_f T z (fl saved) l p.rest) (sym (diff-none base)) (moving-exact p.run P.run_inside)
        ∙ all-exact s D T I base saved base-small (omega (arith, saved-small)) moving p.rest (calls p.rest) room moving-inside P.others

    left-good : Holds (Good s most_calls) left
    left-good = all-good s D T I base saved base-small (omega (arith, saved-small)) moving p.rest (calls p.rest) room moving-inside P.others

    left_below : Holds (λ (new : List (List ℕ)). total (given_of s) new < saved + base) left
    left_below = go moving (let e : 0 < length moving = omega (arith, Some p.run P.run-calls, sort-length (by_seats (given_of s).demand) p.run) in e)
      where
        Some : (run : List ℕ) → Calls run → 0 < length run
        Some [] c = absurd c
        Some (x ∷ xs) c = omega arith

        go : (l : List ℕ) → 0 < length l → Holds (λ (new : List (List ℕ)). total (given_of s) new < saved + base) (placed_all (given_of s) (saved + base) l p.rest)
        go [] z = absurd (not-suc-le-zero z)
        go (c ∷ cs) z = all-below s (saved + base) c cs p.rest

    -- The Rust's last test, with the gain floor of any largest distance: it holds, so the code leaves it out.
    pub floor-decides-nothing : (most : ℕ) → most ≤ farthest → Holds (λ (new : List (List ℕ)).
        Ieee.lt (answered s D T I base saved base-small (omega (arith, saved-small)) new).added (Ieee.sub binary64 (fl saved) (gain_floor_f (fl most))) ≡ true) left
    floor-decides-nothing most m = go left left-good left_below
      where
        go : (o : Option (List (List ℕ))) → Holds (Good s most_calls) o → Holds (λ (new : List (List ℕ)). total (given_of s) new < saved + base) o → Holds (λ (new : List (List ℕ)).
            Ieee.lt (answered s D T I base saved base-small (omega (arith, saved-small)) new).added (Ieee.sub binary64 (fl saved) (gain_floor_f (fl most))) ≡ true) o
        go None W b = tt
        go (Some new) W b =
            let far = total (given_of s) new in
            let t = total-most s S new W.some-calls in
            elimination-test most far base m (omega (arith, t, W.few)) (omega (arith, base-small)) saved saved-small ∙ lt-ltb far (saved + base) b

    -- the runs that are left
    runs-exact : (o : Option (List (List ℕ))) → option_map (λ (q : PlacedF). q.runs) (option_map (answered s D T I base saved base-small (omega (arith, saved-small))) o) ≡ o
    runs-exact None = refl
    runs-exact (Some new) = refl

    emptied-exact : emptied_f T p ≡ emptied (given_of s) p
    unfolding emptied_f emptied
    emptied-exact =
        let bound : saved + base ≡ distance_of (given_of s) p.run + base + s.head.fixed = omega arith in
        let by : Float → Option (List (List ℕ)) =
        λ x. cond (finite_f x) (option_map (λ (q : PlacedF). q.runs) (place_all_f T (fl 0) x (sort (by_seats (demand_f T)) p.run) p.rest)) None in
        ap by (saved-exact s S T I p.run P.run_inside (omega (arith, P.few)))
        ∙ rw (finite-exact saved (omega (arith, saved-small))) (ap (option_map (λ (q : PlacedF). q.runs)) placed-exact ∙ runs-exact left)
        ∙ ap (λ (b : ℕ). placed_all (given_of s) b moving p.rest) bound

    emptied-good : Holds (Good s most_calls) (emptied (given_of s) p)
    unfolding emptied
    emptied-good =
        let bound : saved + base ≡ distance_of (given_of s) p.run + base + s.head.fixed = omega arith in
        subst (λ (b : ℕ). Holds (Good s most_calls) (placed_all (given_of s) b moving p.rest)) bound left-good

  -- ---- the searches

  module _ (n : ℕ) (h : n ≤ most_calls) where
    first-exact : (ps : List Parted) → All (GoodPart s n) ps → first_emptied_f T ps ≡ first_emptied (given_of s) ps
    unfolding first_emptied_f first_emptied
    first-exact [] a = refl
    first-exact (p ∷ ps) a = ap₂ (λ (o later : Option (List (List ℕ))). or_else o later) (emptied-exact p n h a.0) (first-exact ps a.1)

    first_good : (ps : List Parted) → All (GoodPart s n) ps → Holds (Good s most_calls) (first_emptied (given_of s) ps)
    unfolding first_emptied
    first_good [] a = tt
    first_good (p ∷ ps) a = go (emptied (given_of s) p) (emptied-good p n h a.0) (first_emptied (given_of s) ps) (first_good ps a.1)
      where
        go : (o : Option (List (List ℕ))) → Holds (Good s most_calls) o → (later : Option (List (List ℕ))) → Holds (Good s most_calls) later → Holds (Good s most_calls) (or_else o later)
        go None x later y = y
        go (Some new) x later y = x

  module _ (rs : List (List ℕ)) (W : Good s most_calls rs) where
    parts : All (GoodPart s (calls rs)) (sort (rising (λ (p : Parted). length p.run)) (parted rs))
    parts = sort-all (rising (λ (p : Parted). length p.run)) (GoodPart s (calls rs)) (parted rs) (parted-good s rs W.inside W.some-calls)

    search-exact : search_f T rs ≡ search (given_of s) rs
    unfolding search_f search
    search-exact = first-exact (calls rs) W.few (sort (rising (λ (p : Parted). length p.run)) (parted rs)) parts

    search-good : Holds (Good s most_calls) (search (given_of s) rs)
    unfolding search
    search-good = first_good (calls rs) W.few (sort (rising (λ (p : Parted). length p.run)) (parted rs)) parts

  searches-exact : (bound : ℕ) (rs : List (List ℕ)) → All (All (Place s)) rs → calls rs ≤ most_calls → searches_f T bound rs ≡ searches (given_of s) bound rs
  unfolding searches_f searches
  searches-exact zero rs a h = refl
  searches-exact (suc bound) rs a h =
      ap (λ (o : Option (List (List ℕ))). value_or (non_empty rs) (option_map (searches_f T bound) o)) (search-exact (non_empty rs) (non-empty-good s rs a h))
      ∙ go (λ new W. searches-exact bound new W.inside W.few) (search (given_of s) (non_empty rs)) (search-good (non_empty rs) (non-empty-good s rs a h))
    where
      go : ((new : List (List ℕ)) → Good s most_calls new → searches_f T bound new ≡ searches (given_of s) bound new) → (o : Option (List (List ℕ))) → Holds (Good s most_calls) o
          → value_or (non_empty rs) (option_map (searches_f T bound) o) ≡ value_or (non_empty rs) (option_map (searches (given_of s) bound) o)
      go ih None W = refl
      go ih (Some new) W = ih new W

  -- the runs that eliminate_routes gives
  pub placed-elimination-exact : (rs : List (List ℕ)) → All (All (Place s)) rs → calls rs ≤ most_calls → eliminated_f T rs ≡ eliminated (given_of s) rs
  unfolding eliminated_f eliminated
  placed-elimination-exact rs a h = searches-exact (length rs) rs a h

-- ---- by the limits of the Domain

runs-inside : (s : Sheet) (p : ℕ) (cs ends : List ℕ) → All (Place s) cs → All (All (Place s)) (runs_from p cs ends)
unfolding runs_from
runs-inside s p cs [] a = tt
runs-inside s p cs (e ∷ ends) a = (all_take (Place s) (e - p) cs a, runs-inside s e (drop (e - p) cs) ends (all_drop (Place s) (e - p) cs a))

-- a run list as it is lent
pub elimination-exact : (s : Sheet) → Within s → (T : GivenF) → Image s T → (cs ends : List ℕ) → WithinCalls s cs → ends_fall 0 ends (length cs) ≡ false
    → eliminated_f T (runs_of cs ends) ≡ eliminated (given_of s) (runs_of cs ends)
elimination-exact s W T I cs ends C rises =
    let r : RiseTo 0 ends (0 + length cs) = subst (RiseTo 0 ends) (sym (zero-add (length cs))) (rises-to 0 ends (length cs) rises) in
    placed-elimination-exact s W T I (runs_of cs ends) (runs-inside s 0 cs ends (calls-inside s cs C)) (omega (arith, few-calls s cs C, ap length (calls_back 0 cs ends r)))
