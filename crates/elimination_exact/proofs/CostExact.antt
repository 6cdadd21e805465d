-- On a sheet of whole numbers within the limits: what a run asks for, what a customer adds in it, and how long the runs are. Assumes nothing.
use Prim.Native.Nat.{ℕ, zero, suc, ◌+◌, ◌*◌, ◌<◌, ◌≤◌}
use native.Mathlib.Omega.{arith}
use native.Mathlib.Nat.{not-suc-le-zero, le_of_suc-le-suc}
use mathlib.Core.Path.{◌≡◌, refl, sym, ap, ap₂, ◌∙◌}
use mathlib.Core.Bool.{true}
use mathlib.Core.List.{List, [], ◌∷◌, ◌++◌}
use lib.ListN.{length, get_or, take, drop, length-append, get_or-eq_default, drop_of_length-le}
use lib.Seq.{drop-cons, take_all, split_at}
use lib.Dec.{ltb}
use lib.Ieee as Ieee
use lib.Ieee.{Float, inf, fin}
use borrow.Author.Tests.{ltb-true, ltb-false}
use Rattle.basics.proofs.TestLaws.{by-test}
use Rattle.basics.specs.Lists.{sum, All}
use Rattle.basics.proofs.ListLaws.{sum-append}
use Rattle.bounds.specs.Sized.{Sized, Place}
use Rattle.bounds.proofs.Inside.{depot-inside, call-inside}
use Rattle.bounds.proofs.BoundLaws.{legs-most, open-small}
use Rattle.definitions.specs.Domain.{most_calls, most_number}
use Rattle.definitions.specs.Load.{Load, plus, carried, load_by}
use Rattle.definitions.proofs.LoadLaws.{load_same, load-more}
use Rattle.definitions.specs.Sheet.{Sheet, customer}
use Rattle.definitions.specs.Run.{load, fits, last_of}
use Rattle.definitions.specs.RunList.{calls_of}
use Rattle.definitions.specs.Improver.{open_leg, given_of, distance_of, total}
use Rattle.theorems.proofs.LegLaws.{final, insertion-before, insertion-last}
use Rattle.theorems.proofs.EliminationLaws.{Calls}
use Rattle.whole.specs.Whole.{fl, limit, Is}
use Rattle.whole.proofs.WholeLaws.{fl-add, fl-is}
use Rattle.whole.specs.Difference.{diff}
use Rattle.whole.proofs.DifferenceLaws.{fl-diff}
use Rattle.whole.proofs.InfinityLaws.{is-lt-inf}
use Rattle.evaluation.specs.Tables.{place_before}
use Rattle.evaluation.proofs.ClockExact as Clock
use Rattle.improve_base.specs.Route.{route_distance_f}
use Rattle.improve_base.proofs.LegExact.{distance-exact}
use Rattle.improve_base.proofs.RouteExact.{route-distance-exact}
use Rattle.latest.proofs.Walking.{last-before}
use Rattle.improve_runs.specs.RunLists.{run_at, insert_at, put_in}
use Rattle.place_choice.specs.Loads.{room_f}
use Rattle.place_choice.specs.Insertion.{GivenF, adds_f, leg_f, demand_f}
use Rattle.route_elimination.specs.Elimination.{finite_f, saved_f}
use Rattle.elimination_exact.specs.Image.{Image}
use Rattle.route_elimination.proofs.Fewer.{calls}

-- ---- where a customer is put

final-last : (a : ℕ) (l : List ℕ) → final a l ≡ last_of a l
final-last a [] = refl
final-last a (c ∷ cs) = final-last c cs

before-is : (run : List ℕ) (pos : ℕ) → pos ≤ length run → final 0 (take pos run) ≡ place_before run pos
before-is run pos h = final-last 0 (take pos run) ∙ last-before run pos h

module _ (s : Sheet) where
  abbrev Adds : List ℕ → ℕ → ℕ → Type 0
  Adds run pos c =
      distance_of (given_of s) (insert_at pos c run) + open_leg s (place_before run pos) (get_or run pos 0)
      ≡ distance_of (given_of s) run + open_leg s (place_before run pos) c + open_leg s c (get_or run pos 0)

  -- before a call
  adds-before : (run : List ℕ) (pos c : ℕ) → pos < length run → Adds run pos c
  adds-before run pos c h =
      let xs = take pos run in
      let y = get_or run pos 0 in
      let p = before-is run pos (omega arith) in
      omega (
        arith,
        insertion-before (given_of s) xs c y (drop (suc pos) run),
        ap (λ (l : List ℕ). distance_of (given_of s) (xs ++ (c ∷ l))) (drop-cons run pos 0 h),
        ap (distance_of (given_of s)) (split_at run pos 0 h),
        ap (λ (a : ℕ). open_leg s a y) p,
        ap (λ (a : ℕ). open_leg s a c) p,
      )

  -- behind the last
  adds-last : (run : List ℕ) → Calls run → (pos c : ℕ) → pos ≡ length run → Adds run pos c
  adds-last [] h pos c e = absurd h
  adds-last (x ∷ xs) h pos c e =
      let run = x ∷ xs in
      let t : take pos run ≡ run = take_all pos run (omega arith) in
      let d : drop pos run ≡ [] = drop_of_length-le run {i = pos} (omega arith) in
      let n : get_or run pos 0 ≡ 0 = get_or-eq_default run 0 {n = pos} (omega arith) in
      let p : final x xs ≡ place_before run pos = ap (final 0) (sym t) ∙ before-is run pos (omega arith) in
      omega (
        arith,
        insertion-last (given_of s) x xs c,
        ap₂ (λ (l m : List ℕ). distance_of (given_of s) (l ++ (c ∷ m))) t d,
        ap₂ (λ (a b : ℕ). open_leg s a b) p (sym n),
        ap (λ (a : ℕ). open_leg s a c) p,
        ap (λ (b : ℕ). open_leg s c b) n,
      )

  -- what c adds in a run that has calls
  pub insertion : (run : List ℕ) → Calls run → (pos c : ℕ) → pos ≤ length run → Adds run pos c
  insertion run h pos c b =
      by-test (ltb pos (length run)) (λ t. adds-before run pos c (ltb-true pos (length run) t))
      (λ f. adds-last run h pos c (let e : pos ≡ length run = omega (arith, ltb-false pos (length run) f) in e))

  -- and in run k of several
  pub total-put : (rs : List (List ℕ)) → All Calls rs → (k pos c : ℕ) → k < length rs → pos ≤ length (run_at rs k)
      → total (given_of s) (put_in k pos c rs) + open_leg s (place_before (run_at rs k) pos) (get_or (run_at rs k) pos 0)
      ≡ total (given_of s) rs + open_leg s (place_before (run_at rs k) pos) c + open_leg s c (get_or (run_at rs k) pos 0)
  total-put [] a k pos c h b = absurd (not-suc-le-zero h)
  total-put (r ∷ rs) a zero pos c h b = omega (arith, insertion r a.0 pos c b)
  total-put (r ∷ rs) a (suc k) pos c h b = omega (arith, total-put rs a.1 k pos c (le_of_suc-le-suc h) b)

  module _ (S : Sized s) where
    pub run-most : (run : List ℕ) → Calls run → distance_of (given_of s) run ≤ length run * (2 * most_number)
    run-most [] h = absurd h
    run-most (x ∷ xs) h = omega (arith, legs-most (open_leg s) (open-small s S) 0 (x ∷ xs))

    pub total-most : (rs : List (List ℕ)) → All Calls rs → total (given_of s) rs ≤ calls rs * (2 * most_number)
    total-most [] a = omega arith
    total-most (r ∷ rs) a = omega (arith, run-most r a.0, total-most rs a.1, length-append r (calls_of rs))

-- ---- on floats

below-infinity : (x : Float) (n : ℕ) → Is x n → Ieee.lt (inf true) x ≡ true
unfolding Ieee.lt
below-infinity Ieee.nan n p = elim p [ ]
below-infinity (inf _) n p = elim p [ ]
below-infinity (fin b m e) n p = refl

pub finite-exact : (n : ℕ) → n ≤ limit → finite_f (fl n) ≡ true
finite-exact n h = rw (is-lt-inf (fl n) n (fl-is n h), below-infinity (fl n) n (fl-is n h))

module _ (s : Sheet) (S : Sized s) (T : GivenF) (I : Image s T) where
  pub demand-exact : (c : ℕ) → Place s c → demand_f T c ≡ (customer s c).demand
  demand-exact c p = Clock.demand-exact s S T.tables.customers I.tables-hold.records-are c p

  load-exact : (run : List ℕ) → All (Place s) run → load_by (demand_f T) run ≡ load s run
  load-exact [] a = refl
  load-exact (c ∷ cs) a = ap₂ plus (demand-exact c a.0) (load-exact cs a.1)

  last-first : (f : ℕ → ℕ) (run : List ℕ) (c : ℕ) → sum f (run ++ (c ∷ [])) ≡ sum f (c ∷ run)
  last-first f run c = omega (arith, sum-append f run (c ∷ []))

  pub room-exact : (c : ℕ) (run : List ℕ) → Place s c → All (Place s) run → room_f (demand_f T) T.capacity c run ≡ fits s (c ∷ run)
  unfolding room_f
  room-exact c run p a =
      let demand : ℕ → Load = λ x. (customer s x).demand in
      let whole = sym (load-more demand run c) ∙ load_same demand (run ++ (c ∷ [])) (c ∷ run) (λ f. last-first f run c) in
      ap₂ carried (ap₂ plus (load-exact run a) (demand-exact c p) ∙ whole) I.capacity-holds

  leg-exact : (a b : ℕ) → Place s a → Place s b → leg_f T a b ≡ fl (open_leg s a b)
  leg-exact = distance-exact s S I.none-closed T.tables I.tables-hold

  before-inside : (run : List ℕ) (pos : ℕ) → All (Place s) run → Place s (place_before run pos)
  unfolding place_before
  before-inside run zero a = depot-inside s S
  before-inside run (suc k) a = call-inside s S run k a

  pub adds-exact : (run : List ℕ) (pos c : ℕ) → All (Place s) run → Place s c
      → adds_f (leg_f T) run pos c ≡ diff (open_leg s (place_before run pos) c + open_leg s c (get_or run pos 0)) (open_leg s (place_before run pos) (get_or run pos 0))
  unfolding adds_f
  adds-exact run pos c a p =
      let prev = place_before run pos in
      let next = get_or run pos 0 in
      let before = before-inside run pos a in
      let behind = call-inside s S run pos a in
      let x = open-small s S prev c in
      let y = open-small s S c next in
      rw (leg-exact prev c before p, leg-exact c next p behind, leg-exact prev next before behind, fl-add (open_leg s prev c) (open_leg s c next) (omega arith) (omega arith))
      (fl-diff (open_leg s prev c + open_leg s c next) (open_leg s prev next) (omega arith) (omega (arith, open-small s S prev next)))

  -- ---- the distance of a run

  pub distance-run-exact : (run : List ℕ) → All (Place s) run → length run ≤ most_calls → route_distance_f (leg_f T) run ≡ fl (distance_of (given_of s) run)
  distance-run-exact run a few = route-distance-exact s S I.none-closed T.tables I.tables-hold run few a

  -- what goes with a run
  pub saved-exact : (run : List ℕ) → All (Place s) run → length run ≤ most_calls → saved_f T run ≡ fl (distance_of (given_of s) run + s.head.fixed)
  saved-exact run a few =
      rw (distance-run-exact run a few, I.fixed-holds) (fl-add (distance_of (given_of s) run) s.head.fixed (far run few) (omega (arith, S.fixed-small)))
    where
      far : (run : List ℕ) → length run ≤ most_calls → distance_of (given_of s) run ≤ limit
      far [] few = omega arith
      far (c ∷ cs) few = omega (arith, legs-most (open_leg s) (open-small s S) 0 (c ∷ cs))
