-- On a sheet of whole numbers within the limits the candidates for a customer are those of crates/definitions, in the same order. Assumes nothing.
use Prim.Native.Nat.{ℕ, zero, suc, ◌+◌, ◌-◌, ◌*◌, ◌<◌, ◌≤◌}
use native.Mathlib.Omega.{arith}
use native.Mathlib.Nat.{sub-zero, not-suc-le-zero, le_of_suc-le-suc}
use mathlib.Core.Path.{◌≡◌, refl, sym, ap, ap₂, ◌∙◌}
use mathlib.Core.Bool.{Bool, cond, not}
use mathlib.Core.List.{List, [], ◌∷◌, ◌++◌, map, map-append}
use lib.ListN.{length, get_or}
use lib.Dec.{ltb, leb}
use lib.Ieee as Ieee
use borrow.Author.Tests.{leb-true, leb-false, le-ltb, lt-ltb}
use Rattle.basics.proofs.TestLaws.{by-test}
use Rattle.basics.specs.Lists.{count, All}
use Rattle.basics.proofs.ListLaws.{all-imp}
use Rattle.bounds.specs.Sized.{Sized, Place}
use Rattle.definitions.specs.Domain.{most_calls, most_number}
use Rattle.definitions.specs.Sheet.{Sheet}
use Rattle.definitions.specs.Run as Run
use Rattle.definitions.specs.Improver.{open_leg, given_of, distance_of, total}
use Rattle.definitions.specs.Elimination.{Put, beyond, inserts, candidates}
use Rattle.theorems.proofs.EliminationLaws.{Calls}
use Rattle.whole.specs.Difference.{diff}
use Rattle.whole.proofs.DifferenceLaws.{diff-same, diff-lt}
use Rattle.evaluation.specs.Tables.{place_before}
use Rattle.improve_runs.specs.RunLists.{run_at, insert_at, put_in}
use Rattle.improve_runs.proofs.RunParts.{put-run}
use Rattle.improve_runs.proofs.Sorting.{map-twice, count_next}
use Rattle.place_choice.specs.declared.insertion.Spot.{Spot}
use Rattle.place_choice.specs.Insertion.{GivenF, adds_f, spot_f, places_in, places_of, each_from, leg_f, rooms_f, candidates_f}
use Rattle.elimination_exact.specs.Image.{Image}
use Rattle.place_choice.proofs.Spots.{Within, candidates-within}
use Rattle.elimination_exact.proofs.CostExact.{room-exact, adds-exact, insertion, total-put, total-most}
use Rattle.elimination_exact.proofs.GoodRuns.{Good, good-put, good-run}

module _ {A B : Type 0} (f g : A → B) where
  map_same : ((x : A) → f x ≡ g x) → (l : List A) → map f l ≡ map g l
  map_same h [] = refl
  map_same h (x ∷ l) = ap₂ (λ (y : B) (m : List B). y ∷ m) (h x) (map_same h l)

  map-alike : (P : A → Type 0) → ((x : A) → P x → f x ≡ g x) → (l : List A) → All P l → map f l ≡ map g l
  map-alike P h [] a = refl
  map-alike P h (x ∷ l) a = ap₂ (λ (y : B) (m : List B). y ∷ m) (h x a.0) (map-alike P h l a.1)

-- ---- each position of a run

inserts-are : (c : ℕ) (r : List ℕ) → inserts c r ≡ map (λ (pos : ℕ). insert_at pos c r) (count 0 (suc (length r)))
inserts-are c [] = refl
inserts-are c (x ∷ xs) =
    ap (λ (l : List (List ℕ)). (c ∷ x ∷ xs) ∷ l)
    (ap (map (λ (r : List ℕ). x ∷ r)) (inserts-are c xs)
    ∙ map-twice (λ (pos : ℕ). insert_at pos c xs) (λ (r : List ℕ). x ∷ r) (count 0 (suc (length xs)))
    ∙ sym (map-twice suc (λ (pos : ℕ). insert_at pos c (x ∷ xs)) (count 0 (suc (length xs))))
    ∙ ap (map (λ (pos : ℕ). insert_at pos c (x ∷ xs))) (sym (count_next 0 (suc (length xs)))))

-- ---- a candidate as what the definitions put

-- in the runs of which the first is run k
abbrev put_from : ℕ → ℕ → List (List ℕ) → Spot → Put
put_from k c rs x = record { grown = run_at (put_in (x.run - k) x.pos c rs) (x.run - k); runs = put_in (x.run - k) x.pos c rs }

abbrev pub put_of : ℕ → List (List ℕ) → Spot → Put
put_of c rs x = record { grown = run_at (put_in x.run x.pos c rs) x.run; runs = put_in x.run x.pos c rs }

-- a run with calls is one of several that have
calls_at : (rs : List (List ℕ)) (k : ℕ) → k < length rs → All Calls rs → Calls (run_at rs k)
calls_at [] k h a = absurd (not-suc-le-zero h)
calls_at (r ∷ rs) zero h a = a.0
calls_at (r ∷ rs) (suc k) h a = calls_at rs k (le_of_suc-le-suc h) a.1

-- the same number on both sides
shifted-ltb : (a b t : ℕ) → ltb (a + t) (b + t) ≡ not (leb b a)
shifted-ltb a b t =
    by-test (leb b a)
    (λ y. let h = leb-true b a y in le-ltb (a + t) (b + t) (omega arith) ∙ sym (ap not y))
    (λ n. let h = leb-false b a n in lt-ltb (a + t) (b + t) (omega arith) ∙ sym (ap not n))

module _ (s : Sheet) (S : Sized s) (T : GivenF) (I : Image s T) (c : ℕ) (p : Place s c) where
  abbrev fits : ℕ → List ℕ → Bool
  fits = rooms_f T

  module _ (k : ℕ) (r : List ℕ) (rs : List (List ℕ)) where
    abbrev here : List ℕ → Put
    here g = record { grown = g; runs = g ∷ rs }

    places-are : map (put_from k c (r ∷ rs)) (places_in (leg_f T) k c r) ≡ map here (inserts c r)
    places-are =
        let ps = count 0 (suc (length r)) in
        let none : k - k ≡ 0 = omega arith in
        map-twice (spot_f (leg_f T) k c r) (put_from k c (r ∷ rs)) ps
        ∙ map_same (λ (pos : ℕ). put_from k c (r ∷ rs) (spot_f (leg_f T) k c r pos)) (λ (pos : ℕ). here (insert_at pos c r))
        (λ pos. ap (λ (m : ℕ). record { grown = run_at (put_in m pos c (r ∷ rs)) m; runs = put_in m pos c (r ∷ rs) }) none) ps
        ∙ sym (map-twice (λ (pos : ℕ). insert_at pos c r) here ps)
        ∙ ap (map here) (sym (inserts-are c r))

    here-are : All (Place s) r → map (put_from k c (r ∷ rs)) (places_of (leg_f T) fits c k r)
        ≡ cond (Run.fits s (c ∷ r)) (map here (inserts c r)) []
    here-are a =
        let e = room-exact s S T I c r p a in
        by-test (fits c r) (λ t. rw (t, sym e ∙ t) places-are) (λ f. rw (f, sym e ∙ f))

    later-are : (x : Spot) → Within (leg_f T) c (suc k) rs x → put_from k c (r ∷ rs) x ≡ beyond r (put_from (suc k) c rs x)
    later-are x W =
        let e : x.run - k ≡ suc (x.run - suc k) = omega (arith, W.at_least) in
        ap (λ (m : ℕ). record { grown = run_at (put_in m x.pos c (r ∷ rs)) m; runs = put_in m x.pos c (r ∷ rs) }) e

  candidates-from : (k : ℕ) (rs : List (List ℕ)) → All (All (Place s)) rs → map (put_from k c rs) (each_from (places_of (leg_f T) fits c) k rs) ≡ candidates (given_of s) c rs
  unfolding each_from candidates
  candidates-from k [] a = refl
  candidates-from k (r ∷ rs) a =
      let later = each_from (places_of (leg_f T) fits c) (suc k) rs in
      let behind =
      map-alike (put_from k c (r ∷ rs)) (λ (x : Spot). beyond r (put_from (suc k) c rs x)) (Within (leg_f T) c (suc k) rs) (later-are k r rs) later
      (candidates-within (leg_f T) fits c (suc k) rs) in
      map-append (put_from k c (r ∷ rs)) (places_of (leg_f T) fits c k r) later
      ∙ ap₂ (λ (l m : List Put). l ++ m) (here-are k r rs a.0)
      (behind ∙ sym (map-twice (put_from (suc k) c rs) (beyond r) later) ∙ ap (map (beyond r)) (candidates-from (suc k) rs a.1))

  module _ (rs : List (List ℕ)) (n : ℕ) (few : n < most_calls) (W : Good s n rs) where
    pub candidates-are : map (put_of c rs) (candidates_f T c rs) ≡ candidates (given_of s) c rs
    candidates-are =
        map_same (put_of c rs) (put_from 0 c rs) (λ x. ap (λ (m : ℕ). record { grown = run_at (put_in m x.pos c rs) m; runs = put_in m x.pos c rs }) (sym (sub-zero x.run))) (candidates_f T c rs)
        ∙ candidates-from 0 rs W.inside

    -- a candidate's cost is what the runs become longer by
    pub record Priced (x : Spot) : Type 0 where
      pub cost-is : x.cost ≡ diff (total (given_of s) (put_of c rs x).runs) (total (given_of s) rs)
      pub next : Good s (suc n) (put_of c rs x).runs
      pub grown-is : (put_of c rs x).grown ≡ insert_at x.pos c (run_at rs x.run)
      pub pos-inside : x.pos ≤ length (run_at rs x.run)
      pub adds-is : x.cost ≡ diff (distance_of (given_of s) (insert_at x.pos c (run_at rs x.run))) (distance_of (given_of s) (run_at rs x.run))

    -- by the distance they lead to
    abbrev pub key : Spot → ℕ
    key x = total (given_of s) (put_of c rs x).runs

    pub small : (m : ℕ) (qs : List (List ℕ)) → m ≤ most_calls → Good s m qs → total (given_of s) qs ≤ most_calls * (2 * most_number)
    small m qs h Q = omega (arith, total-most s S qs Q.some-calls, Q.few)

    priced : (x : Spot) → Within (leg_f T) c 0 rs x → Priced x
    priced x Q =
        let z = sub-zero x.run in
        let run = run_at rs x.run in
        let inside : x.run < length rs = rw z at Q.run_inside in
        let pos : x.pos ≤ length run = rw z at Q.pos-inside in
        let cost = Q.cost-is ∙ ap (λ (m : ℕ). adds_f (leg_f T) (run_at rs m) x.pos c) z in
        let prev = place_before run x.pos in
        let next = get_or run x.pos 0 in
        let adds = cost ∙ adds-exact s S T I run x.pos c (good-run s n rs W x.run) p in
        record {
          cost-is =
              adds
              ∙ diff-same (open_leg s prev c + open_leg s c next) (open_leg s prev next) (total (given_of s) (put_of c rs x).runs) (total (given_of s) rs)
              (omega (arith, total-put s rs W.some-calls x.run x.pos c inside pos));
          next = good-put s n rs W x.run x.pos c p;
          grown-is = put-run x.run x.pos c rs inside;
          pos-inside = pos;
          adds-is =
              adds
              ∙ diff-same (open_leg s prev c + open_leg s c next) (open_leg s prev next) (distance_of (given_of s) (insert_at x.pos c run)) (distance_of (given_of s) run)
              (omega (arith, insertion s run (calls_at rs x.run inside W.some-calls) x.pos c pos));
        }

    pub all-priced : All Priced (candidates_f T c rs)
    all-priced = all-imp (Within (leg_f T) c 0 rs) Priced priced (candidates_f T c rs) (candidates-within (leg_f T) fits c 0 rs)

    module _ (x y : Spot) (X : Priced x) (Y : Priced y) where
      sizes : (key x ≤ most_calls * (2 * most_number)) × (key y ≤ most_calls * (2 * most_number)) × (total (given_of s) rs ≤ most_calls * (2 * most_number))
      sizes = (small (suc n) (put_of c rs x).runs few X.next, small (suc n) (put_of c rs y).runs few Y.next, small n rs (omega arith) W)

      pub below-exact : Ieee.lt x.cost y.cost ≡ not (leb (key y) (key x))
      below-exact =
          let t = total (given_of s) rs in
          rw (X.cost-is, Y.cost-is)
          (diff-lt (key x) t (key y) t (omega (arith, sizes.0)) (omega (arith, sizes.2)) (omega (arith, sizes.1)) (omega (arith, sizes.2)) ∙ shifted-ltb (key x) (key y) t)
