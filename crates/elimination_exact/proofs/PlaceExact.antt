-- On a sheet of whole numbers within the limits the customers of a run are placed as crates/definitions has it. Assumes nothing.
use Prim.Native.Nat.{ℕ, zero, suc, ◌+◌, ◌*◌, ◌<◌, ◌≤◌}
use native.Mathlib.Omega.{arith}
use mathlib.Core.Path.{◌≡◌, refl, sym, ap, ap₂, subst, ◌∙◌}
use mathlib.Core.Bool.{Bool, true, false, cond, not, ◌&&◌, false≢true}
use mathlib.Core.List.{List, [], ◌∷◌, map}
use Rattle.std.specs.Prelude.{Option, None, Some, option_map}
use lib.ListN.{length}
use lib.Dec.{ltb, leb}
use lib.Ieee as Ieee
use lib.Ieee.{Float, binary64, nan, inf, fin}
use borrow.Author.Tests.{lt-ltb, ltb-true}
use Rattle.basics.proofs.TestLaws.{by-test}
use Rattle.basics.specs.Options.{◌>>=◌, Holds, given}
use Rattle.basics.specs.Lists.{All}
use Rattle.bounds.specs.Sized.{Sized, Place}
use Rattle.bounds.proofs.Inside.{sized}
use Rattle.definitions.specs.Domain.{most_calls, most_number}
use Rattle.definitions.specs.Sheet.{Sheet}
use Rattle.definitions.specs.Sort.{rising, sort}
use Rattle.definitions.specs.Refusals.{Within}
use Rattle.definitions.specs.Improver.{Given, checks_needed, given_of, distance_of, total, allowed}
use Rattle.definitions.specs.Elimination.{Put, candidates, first_below, placed, placed_all}
use Rattle.theorems.proofs.SortLaws.{sort-all}
use Rattle.whole.specs.Whole.{fl, limit}
use Rattle.whole.specs.Difference.{diff}
use Rattle.whole.proofs.DifferenceLaws.{diff-same, diff-fl, diff-add, diff-lt, diff-lt-fl}
use Rattle.models.specs.Limits.{within_f}
use Rattle.evaluation.specs.Records.{LimitsF}
use Rattle.evaluation.specs.Image.{fl_limits}
use Rattle.improve_base.specs.Route.{route_distance_f, far_f}
use Rattle.improve_base.proofs.FarExact.{guard-exact}
use Rattle.latest.specs.Times.{timely}
use Rattle.latest.specs.Floats.{floats, travel_f, hours_f, day_f}
use Rattle.latest.proofs.InsertionExact.{inserted-exact}
use Rattle.improve_runs.specs.RunLists.{run_at, insert_at}
use Rattle.improve_runs.proofs.Sorting.{sort-map}
use Rattle.place_choice.specs.declared.insertion.Spot.{Spot}
use Rattle.place_choice.specs.declared.tested.Mover.{Mover}
use Rattle.place_choice.specs.Insertion.{GivenF, leg_f, folded, nowhere_f, cheaper_f, candidates_f, pays_f, fits_in_f, allowed_f, better_of, tested_f, best_f}
use Rattle.route_elimination.specs.Placing.{PlacedF, mover_f, put_at, place_f, place_all_f}
use Rattle.elimination_exact.specs.Image.{Image}
use Rattle.place_choice.proofs.Spots.{pays-nowhere}
use Rattle.elimination_exact.proofs.FirstLeast.{lesser, lesser-none, lesser-assoc, lesser-holds, first, least, first-sorted, least-holds, least-passes, any, Leads, least-leads}
use Rattle.elimination_exact.proofs.GoodRuns.{Good, good-run, good-few, inserted-calls}
use Rattle.elimination_exact.proofs.CostExact.{run-most, distance-run-exact}
use Rattle.elimination_exact.proofs.CandidatesExact.{put_of, Priced, key, small, all-priced, candidates-are, below-exact}

-- ---- finite numbers

under-infinity : (x y : Float) → Ieee.lt x y ≡ true → Ieee.lt x (inf false) ≡ true
unfolding Ieee.lt
under-infinity nan y e = absurd (false≢true e)
under-infinity (inf true) y e = refl
under-infinity (inf false) nan e = absurd (false≢true e)
under-infinity (inf false) (inf t) e = absurd (false≢true e)
under-infinity (inf false) (fin t n d) e = absurd (false≢true e)
under-infinity (fin b m e') y e = refl

-- a run is no longer than all of them
total-run : (G : Given) (rs : List (List ℕ)) (k : ℕ) → distance_of G (run_at rs k) ≤ total G rs
total-run G [] k = omega arith
total-run G (r ∷ rs) zero = omega arith
total-run G (r ∷ rs) (suc k) = omega (arith, total-run G rs k)

-- the most that the runs come to
abbrev pub most_total : ℕ
most_total = most_calls * (2 * most_number)

module _ (s : Sheet) (D : Within s) (T : GivenF) (I : Image s T) where
  abbrev S : Sized s
  S = sized s D

  -- c at a place of a run, which makes it so long
  allowed-exact : (c : ℕ) (run : List ℕ) (x : Spot) → Place s c → All (Place s) run → length run ≤ most_calls → x.pos ≤ length run
      → distance_of (given_of s) (insert_at x.pos c run) ≤ limit
      → Ieee.add binary64 (route_distance_f (leg_f T) run) x.cost ≡ fl (distance_of (given_of s) (insert_at x.pos c run))
      → allowed_f T c run x ≡ allowed (given_of s) (insert_at x.pos c run)
  unfolding allowed_f fits_in_f
  allowed-exact c run x p a few h far sum =
      let new = insert_at x.pos c run in
      let in-time : LimitsF → Bool = λ l. timely floats (travel_f T.tables) (hours_f T.tables.customers) (day_f l) run x.pos c in
      let fits : LimitsF → Bool = λ l. within_f l.max_distance (Ieee.add binary64 (far_f l (leg_f T) run) x.cost) && in-time l in
      ap₂ (λ (b : Bool) (l : LimitsF). cond b (fits l) true) I.asked-where-needed I.limits-hold
      ∙ ap (λ (b : Bool). cond (checks_needed s) b true)
      (ap (λ (b : Bool). b && in-time (fl_limits s)) (guard-exact s S (leg_f T) run x.cost (distance_of (given_of s) new) far sum)
      ∙ inserted-exact s D I.none-closed T.tables I.tables-hold run x.pos c a p h few)

  -- `base` is what the other runs come to at first, and `saved` what goes with the run
  module _ (base saved : ℕ) (hb : base ≤ most_total) (hs : saved ≤ limit) where
    abbrev pub answered : List (List ℕ) → PlacedF
    answered new = record { runs = new; added = diff (total (given_of s) new) base }

    module _ (c : ℕ) (p : Place s c) (rs : List (List ℕ)) (n : ℕ) (few : n < most_calls) (W : Good s n rs) where
      abbrev key_of : Put → ℕ
      key_of q = total (given_of s) q.runs

      abbrev now : Float
      now = diff (total (given_of s) rs) base

      abbrev cands : List Spot
      cands = candidates_f T c rs

      abbrev Is : Spot → Type 0
      Is = Priced s S T I c p rs n few W

      abbrev by : Spot → ℕ
      by = key s S T I c p rs n few W

      -- the customer that is to be placed, and whether a place is paid and allowed
      abbrev m : Mover
      m = mover_f c now (fl saved)

      abbrev pass : Spot → Bool
      pass x = pays_f m x.cost && allowed_f T c (run_at rs x.run) x

      module _ (x : Spot) (X : Is x) where
        abbrev new : List (List ℕ)
        new = (put_of c rs x).runs

        new-small : total (given_of s) new ≤ most_total
        new-small = small s S T I c p rs n few W (suc n) new few X.next

        now-small : total (given_of s) rs ≤ most_total
        now-small = small s S T I c p rs n few W n rs (omega arith) W

        sum-exact : Ieee.add binary64 now x.cost ≡ diff (total (given_of s) new) base
        sum-exact =
            let t = total (given_of s) rs in
            let u = total (given_of s) new in
            rw X.cost-is (diff-add t base u t (omega (arith, now-small)) (omega arith) (omega (arith, new-small)) (omega (arith, now-small)) ∙ diff-same (t + u) (base + t) u base (omega arith))

        pays-exact : pays_f m x.cost ≡ ltb (by x) (saved + base)
        pays-exact = rw sum-exact (diff-lt-fl (total (given_of s) new) base saved (omega (arith, new-small)) (omega arith) hs)

        grown-exact : allowed_f T c (run_at rs x.run) x ≡ allowed (given_of s) (put_of c rs x).grown
        grown-exact =
            let run = run_at rs x.run in
            let grown = insert_at x.pos c run in
            let old-far = distance_of (given_of s) run in
            let new-far = distance_of (given_of s) grown in
            let run-few = good-few s n rs W x.run in
            let long = good-few s (suc n) new X.next x.run in
            let most = run-most s S grown (inserted-calls x.pos c run) in
            let old-most = total-run (given_of s) rs x.run in
            let far : new-far ≤ limit = omega (arith, most, long, ap length X.grown-is) in
            let sum =
            ap₂ (λ (y z : Float). Ieee.add binary64 y z) (distance-run-exact s S T I run (good-run s n rs W x.run) (omega (arith, run-few)) ∙ sym (diff-fl old-far)) X.adds-is
            ∙ diff-add old-far 0 new-far old-far (omega (arith, old-most, now-small)) (omega arith) far (omega (arith, old-most, now-small))
            ∙ diff-same (old-far + new-far) (0 + old-far) new-far 0 (omega arith) ∙ diff-fl new-far in
            allowed-exact c run x p (good-run s n rs W x.run) (omega (arith, run-few)) X.pos-inside far sum ∙ ap (allowed (given_of s)) (sym X.grown-is)

        -- what it adds is finite
        finite : Ieee.lt x.cost (inf false) ≡ true
        finite =
            let t = total (given_of s) rs in
            let u = total (given_of s) new in
            rw X.cost-is (under-infinity (diff u t) (diff (u + 1) t)
            (diff-lt u t (u + 1) t (omega (arith, new-small)) (omega (arith, now-small)) (omega (arith, new-small)) (omega (arith, now-small)) ∙ lt-ltb (u + t) (u + 1 + t) (omega arith)))

      -- ---- the scans, with no place so far or with one

      abbrev spot_or : Option Spot → Spot
      spot_or None = nowhere_f
      spot_or (Some x) = x

      module _ (f : Spot → Spot → Spot) (ok : Spot → Bool)
          (step : (o : Option Spot) → Holds Is o → (x : Spot) → Is x → f (spot_or o) x ≡ spot_or (lesser by o (given (ok x) x))) where
        scan : (l : List Spot) → All Is l → (o : Option Spot) → Holds Is o → folded f (spot_or o) l ≡ spot_or (lesser by o (least by ok l))
        unfolding folded least
        scan [] a o h = ap spot_or (sym (lesser-none by o))
        scan (x ∷ l) a o h =
            let g = given (ok x) x in
            ap (λ (b : Spot). folded f b l) (step o h x a.0)
            ∙ scan l a.1 (lesser by o g) (lesser-holds by Is o g h (here (ok x)))
            ∙ ap spot_or (lesser-assoc by o g (least by ok l))
          where
            here : (b : Bool) → Holds Is (given b x)
            here false = tt
            here true = a.0

      cheaper-step : (o : Option Spot) → Holds Is o → (x : Spot) → Is x → cheaper_f (spot_or o) x ≡ spot_or (lesser by o (Some x))
      cheaper-step None h x X = rw (finite x X)
      cheaper-step (Some b) h x X =
          let e = below-exact s S T I c p rs n few W x b X h in
          by-test (leb (by b) (by x)) (λ t. (let u = e ∙ ap not t in rw (u, t))) (λ g. (let u = e ∙ ap not g in rw (u, g)))

      better-step : (o : Option Spot) → Holds Is o → (x : Spot) → Is x → better_of T m rs (spot_or o) x ≡ spot_or (lesser by o (given (pass x) x))
      better-step o h x X =
          by-test (pays_f m x.cost)
          (λ t.
          by-test (allowed_f T c (run_at rs x.run) x)
          (λ u. rw (t, u) (opens (Ieee.lt x.cost (spot_or o).cost) x (spot_or o) ∙ cheaper-step o h x X))
          (λ g. rw (t, g) (shut (Ieee.lt x.cost (spot_or o).cost) x (spot_or o) ∙ ap spot_or (sym (lesser-none by o)))))
          (λ g. rw g (ap spot_or (sym (lesser-none by o))))
        where
          opens : (b : Bool) (x y : Spot) → cond (b && true) x y ≡ cond b x y
          opens true x y = refl
          opens false x y = refl

          shut : (b : Bool) (x y : Spot) → cond (b && false) x y ≡ y
          shut true x y = refl
          shut false x y = refl

      all_are : All Is cands
      all_are = all-priced s S T I c p rs n few W

      least-is : folded cheaper_f nowhere_f cands ≡ spot_or (least by (any by) cands)
      least-is = scan cheaper_f (any by) cheaper-step cands all_are None tt

      tested-is : tested_f T m rs ≡ spot_or (least by pass cands)
      tested-is = scan (better_of T m rs) pass better-step cands all_are None tt

      -- ---- the best place is the first least of those that pass

      best-exact : best_f T m rs ≡ least by pass cands
      unfolding best_f
      best-exact =
          ap₂ (λ (x y : Spot). cond (pays_f m x.cost) (cond (allowed_f T c (run_at rs x.run) x) (Some x) (given (pays_f m y.cost) y)) None) least-is tested-is
          ∙ go (least by (any by) cands) (least by pass cands) (least-leads by pass cands) (least-holds by (any by) Is cands all_are) (least-holds by pass Is cands all_are)
          (least-passes by pass cands)
        where
          paying : (z : Spot) → pass z ≡ true → pays_f m z.cost ≡ true
          paying z e = by-test (pays_f m z.cost) (λ t. t) (λ f. absurd (false≢true ((let d : false ≡ pass z = rw f in d) ∙ e)))

          found : (o : Option Spot) → Holds (λ (z : Spot). pass z ≡ true) o → given (pays_f m (spot_or o).cost) (spot_or o) ≡ o
          found None h = rw (pays-nowhere m)
          found (Some z) h = rw (paying z h)

          stopped : (y : Spot) → Is y → pays_f m y.cost ≡ false → (o : Option Spot) → Holds (λ (z : Spot). by y ≤ by z) o → Holds Is o → Holds (λ (z : Spot). pass z ≡ true) o → None ≡ o
          stopped y Y f None u X h = refl
          stopped y Y f (Some z) u X h =
              let v = ltb-true (by z) (saved + base) (sym (pays-exact z X) ∙ paying z h) in
              absurd (false≢true (sym f ∙ pays-exact y Y ∙ lt-ltb (by y) (saved + base) (omega arith)))

          go : (o q : Option Spot) → Leads by pass o q → Holds Is o → Holds Is q → Holds (λ (z : Spot). pass z ≡ true) q
              → cond (pays_f m (spot_or o).cost) (cond (allowed_f T c (run_at rs (spot_or o).run) (spot_or o)) (Some (spot_or o)) (given (pays_f m (spot_or q).cost) (spot_or q))) None ≡ q
          go None q L Y Z h = rw (pays-nowhere m) (sym L)
          go (Some y) q L Y Z h =
              by-test (pays_f m y.cost)
              (λ t.
              by-test (allowed_f T c (run_at rs y.run) y)
              (λ u. (let e : pass y ≡ true = rw (t, u) in rw (t, u) (sym (L.1 e))))
              (λ g. rw (t, g) (found q h)))
              (λ f. rw f (stopped y Y f q L.0 Z h))

      found-exact : (xs : List Spot) → All Is xs → first_below (given_of s) (saved + base) (map (put_of c rs) xs) ≡ option_map (λ (x : Spot). (put_of c rs x).runs) (first by pass xs)
      unfolding first_below
      found-exact [] a = refl
      found-exact (x ∷ xs) a =
          let e : ltb (by x) (saved + base) && allowed (given_of s) (put_of c rs x).grown ≡ pass x = ap₂ (λ (u v : Bool). u && v) (sym (pays-exact x a.0)) (sym (grown-exact x a.0)) in
          by-test (pass x) (λ t. (let u = e ∙ t in rw (u, t))) (λ f. (let u = e ∙ f in rw (u, f) (found-exact xs a.1)))

      placed-is : placed (given_of s) (saved + base) c rs ≡ option_map (λ (x : Spot). (put_of c rs x).runs) (least by pass cands)
      unfolding placed
      placed-is =
          ap (λ (l : List Put). first_below (given_of s) (saved + base) (sort (rising key_of) l)) (sym (candidates-are s S T I c p rs n few W))
          ∙ ap (first_below (given_of s) (saved + base)) (sort-map (rising key_of) (put_of c rs) (rising by) Is (λ x y X Y. refl) cands all_are)
          ∙ found-exact (sort (rising by) cands) (sort-all (rising by) Is cands all_are)
          ∙ ap (option_map (λ (x : Spot). (put_of c rs x).runs)) (first-sorted by pass cands)

      place-exact : place_f T now (fl saved) c rs ≡ option_map answered (placed (given_of s) (saved + base) c rs)
      place-exact =
          ap (option_map (put_at m rs)) best-exact ∙ go (least by pass cands) (least-holds by pass Is cands all_are) ∙ ap (option_map answered) (sym placed-is)
        where
          go : (o : Option Spot) → Holds Is o → option_map (put_at m rs) o ≡ option_map answered (option_map (λ (x : Spot). (put_of c rs x).runs) o)
          go None h = refl
          go (Some x) h = rw (sum-exact x h)

      place-good : Holds (Good s (suc n)) (placed (given_of s) (saved + base) c rs)
      place-good = subst (Holds (Good s (suc n))) (sym placed-is) (go (least by pass cands) (least-holds by pass Is cands all_are))
        where
          go : (o : Option Spot) → Holds Is o → Holds (Good s (suc n)) (option_map (λ (x : Spot). (put_of c rs x).runs) o)
          go None h = tt
          go (Some x) h = h.next

    -- ---- all of them

    pub all-exact : (cs : List ℕ) (rs : List (List ℕ)) (n : ℕ) → n + length cs ≤ most_calls → All (Place s) cs → Good s n rs
        → place_all_f T (diff (total (given_of s) rs) base) (fl saved) cs rs ≡ option_map answered (placed_all (given_of s) (saved + base) cs rs)
    unfolding place_all_f placed_all
    all-exact [] rs n h a W = refl
    all-exact (c ∷ cs) rs n h a W =
        let few : n < most_calls = omega arith in
        ap (λ (o : Option PlacedF). o >>= λ q. place_all_f T q.added (fl saved) cs q.runs) (place-exact c a.0 rs n few W)
        ∙ go (λ new Q. all-exact cs new (suc n) (omega arith) a.1 Q) (placed (given_of s) (saved + base) c rs) (place-good c a.0 rs n few W)
      where
        go : ((new : List (List ℕ)) → Good s (suc n) new → place_all_f T (diff (total (given_of s) new) base) (fl saved) cs new ≡ option_map answered (placed_all (given_of s) (saved + base) cs new))
            → (o : Option (List (List ℕ))) → Holds (Good s (suc n)) o
            → (option_map answered o >>= λ q. place_all_f T q.added (fl saved) cs q.runs) ≡ option_map answered (o >>= placed_all (given_of s) (saved + base) cs)
        go ih None Q = refl
        go ih (Some new) Q = ih new Q

    pub all-good : (cs : List ℕ) (rs : List (List ℕ)) (n : ℕ) → n + length cs ≤ most_calls → All (Place s) cs → Good s n rs → Holds (Good s most_calls) (placed_all (given_of s) (saved + base) cs rs)
    unfolding placed_all
    all-good [] rs n h a W = record { inside = W.inside; some-calls = W.some-calls; few = omega (arith, W.few) }
    all-good (c ∷ cs) rs n h a W =
        go (λ new Q. all-good cs new (suc n) (omega arith) a.1 Q) (placed (given_of s) (saved + base) c rs) (place-good c a.0 rs n (omega arith) W)
      where
        go : ((new : List (List ℕ)) → Good s (suc n) new → Holds (Good s most_calls) (placed_all (given_of s) (saved + base) cs new)) → (o : Option (List (List ℕ))) → Holds (Good s (suc n)) o
            → Holds (Good s most_calls) (o >>= placed_all (given_of s) (saved + base) cs)
        go ih None Q = tt
        go ih (Some new) Q = ih new Q

-- ---- what is added stays below what is saved

module _ (s : Sheet) (bound : ℕ) where
  abbrev Below : List (List ℕ) → Type 0
  Below new = total (given_of s) new < bound

  first_below_lem : (ps : List Put) → Holds Below (first_below (given_of s) bound ps)
  unfolding first_below
  first_below_lem [] = tt
  first_below_lem (q ∷ ps) =
      by-test (ltb (total (given_of s) q.runs) bound)
      (λ t. by-test (allowed (given_of s) q.grown) (λ u. rw (t, u) (ltb-true (total (given_of s) q.runs) bound t)) (λ u. rw (t, u) (first_below_lem ps)))
      (λ f. rw f (first_below_lem ps))

  stays-below : (cs : List ℕ) (rs : List (List ℕ)) → Below rs → Holds Below (placed_all (given_of s) bound cs rs)
  unfolding placed_all placed
  stays-below [] rs h = h
  stays-below (c ∷ cs) rs h = go (λ new b. stays-below cs new b) (placed (given_of s) bound c rs) (first_below_lem (sort (rising (λ (q : Put). total (given_of s) q.runs)) (candidates (given_of s) c rs)))
    where
      go : ((new : List (List ℕ)) → Below new → Holds Below (placed_all (given_of s) bound cs new)) → (o : Option (List (List ℕ))) → Holds Below o → Holds Below (o >>= placed_all (given_of s) bound cs)
      go ih None b = tt
      go ih (Some new) b = ih new b

  -- with one customer at least
  pub all-below : (c : ℕ) (cs : List ℕ) (rs : List (List ℕ)) → Holds Below (placed_all (given_of s) bound (c ∷ cs) rs)
  unfolding placed_all placed
  all-below c cs rs = go (placed (given_of s) bound c rs) (first_below_lem (sort (rising (λ (q : Put). total (given_of s) q.runs)) (candidates (given_of s) c rs)))
    where
      go : (o : Option (List (List ℕ))) → Holds Below o → Holds Below (o >>= placed_all (given_of s) bound cs)
      go None b = tt
      go (Some new) b = stays-below cs new b
