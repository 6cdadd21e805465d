-- The search for a run that can go, run by run, and the searches one after the other. Assumes nothing.
use Prim.Native.Nat.{ℕ, zero, suc, ◌-◌, ◌<◌, ◌≤◌}
use native.Mathlib.Omega.{arith}
use mathlib.Core.Path.{◌≡◌, sym, ap, subst, ◌∙◌}
use mathlib.Core.Bool.{Bool, true, false}
use mathlib.Core.List.{List, ◌∷◌, map}
use Rattle.std.specs.Prelude.{None, Some}
use lib.ListN.{length, get_or, take}
use Rattle.basics.specs.Options.{Holds, given}
use Rattle.basics.specs.Lists.{count, All, without}
use Rattle.basics.proofs.ListLaws.{all-imp, length-count}
use Rattle.definitions.specs.Room.{written}
use Rattle.definitions.specs.Sort.{sort}
use Rattle.definitions.specs.Elimination.{non_empty, Parted}
use Rattle.cut_table.proofs.Writing.{length-written, front-written}
use Rattle.improve_runs.specs.RunLists.{room, Runs, runs_in, Sound, run_at}
use Rattle.improve_runs.specs.Least.{least_at, by_length}
use Rattle.improve_runs.proofs.Holding.{held}
use Rattle.improve_runs.proofs.Least.{none_left, picked-inside, picked, picked_all}
use Rattle.improve_runs.proofs.Sorting.{count-below}
use Rattle.place_choice.specs.Insertion.{GivenF}
use Rattle.route_elimination.specs.Elimination.{part_at, emptied_f, first_emptied_f, search_f, searches_f, eliminated_f, Tries}
use Rattle.route_elimination.proofs.Ordering.{order_is}
use Rattle.route_elimination.proofs.Fewer.{Fewer, search-fewer, non-empty-fewer}

-- ---- one search

module _ (T : GivenF) (rs : List (List ℕ)) (lengths : List ℕ) where
  -- the n runs that are left decide
  pub record Trying (pending : List ℕ) (n : ℕ) : Type 0 where
    pub long : length pending ≡ room
    pub fits : n ≤ room
    pub few : length rs ≤ room
    pub inside : All (λ (k : ℕ). k < length rs) (take n pending)
    pub same : first_emptied_f T (map (part_at rs) (sort (by_length lengths) (take n pending))) ≡ search_f T rs

  pub trying-first : ((k : ℕ) → k < length rs → get_or lengths k 0 ≡ length (run_at rs k)) → length rs ≤ room → (pending old : List ℕ) (n : ℕ) → n ≡ length rs → length old ≡ room
      → pending ≡ written (count 0 n) old → Trying pending n
  unfolding search_f
  trying-first each few pending old n en long e =
      let many : length (count 0 n) ≡ n = length-count 0 n in
      let front : take n pending ≡ count 0 (length rs) = ap (take n) e ∙ ap (λ (m : ℕ). take m (written (count 0 n) old)) (sym many) ∙ front-written (count 0 n) old ∙ ap (count 0) en in
      record {
        long = ap length e ∙ length-written (count 0 n) old (omega arith) ∙ long;
        fits = omega arith;
        few = few;
        inside = rw front (count-below (length rs));
        same = rw front (ap (first_emptied_f T) (order_is lengths rs each));
      }

  module _ (pending : List ℕ) (n : ℕ) (Y : Trying pending n) where
    trying-last : n ≤ 0 → search_f T rs ≡ None
    unfolding first_emptied_f
    trying-last h = sym Y.same ∙ ap (λ (l : List ℕ). first_emptied_f T (map (part_at rs) l)) (none_left (by_length lengths) pending n h)

    pub trying-all : All (λ (k : ℕ). k < room) (take n pending)
    trying-all = all-imp (λ (k : ℕ). k < length rs) (λ (k : ℕ). k < room) (λ k h. omega (arith, Y.few)) (take n pending) Y.inside

    module _ (h : 0 < n) (j : ℕ) (ej : j ≡ least_at (by_length lengths) (take n pending)) where
      short : n ≤ length pending
      short = omega (arith, Y.fits, Y.long)

      abbrev k : ℕ
      k = get_or pending j 0

      trying-picks : j < n
      trying-picks = picked-inside (by_length lengths) pending n j short h ej

      parts : (k < length rs) × All (λ (i : ℕ). i < length rs) (without j (take n pending))
      parts = picked_all (by_length lengths) pending n j short h ej (λ (i : ℕ). i < length rs) Y.inside

      trying-inside : k < length rs
      trying-inside = parts.0

      abbrev later : List Parted
      later = map (part_at rs) (sort (by_length lengths) (without j (take n pending)))

      this : first_emptied_f T (part_at rs k ∷ later) ≡ search_f T rs
      this = ap (λ (l : List ℕ). first_emptied_f T (map (part_at rs) l)) (sym (picked (by_length lengths) pending n j short h ej)) ∙ Y.same

      trying-found : (new : List (List ℕ)) → Some new ≡ emptied_f T (part_at rs k) → search_f T rs ≡ Some new
      unfolding first_emptied_f
      trying-found new e = sym this ∙ rw (← e)

      trying-more : None ≡ emptied_f T (part_at rs k) → (less : List ℕ) → length less ≡ room → take (n - 1) less ≡ without j (take n pending) → Trying less (n - 1)
      unfolding first_emptied_f
      trying-more e less long el =
          let next : first_emptied_f T (part_at rs k ∷ later) ≡ first_emptied_f T later = rw (← e) in
          record { long = long; fits = omega (arith, Y.fits); few = Y.few; inside = rw el parts.1; same = rw el (sym next ∙ this) }

-- ---- the searches

module _ (T : GivenF) (whole : List (List ℕ)) where
  -- the searches that may still follow lead from here to the answer
  pub record Searching (left : Runs) : Type 0 where
    pub sound : Sound left
    pub bound : ℕ
    pub enough : length (runs_in left) ≤ bound
    pub same : searches_f T bound (runs_in left) ≡ eliminated_f T whole

  pub searching-first : (left : Runs) → Sound left → runs_in left ≡ whole → Searching left
  unfolding eliminated_f
  searching-first left S e = record { sound = S; bound = length whole; enough = omega (arith, ap length e); same = ap (searches_f T (length whole)) e }

  module _ (left : Runs) (X : Searching left) where
    abbrev kept : List (List ℕ)
    kept = non_empty (runs_in left)

    pub searching-over : search_f T kept ≡ None → kept ≡ eliminated_f T whole
    unfolding searches_f
    searching-over e = go X.bound X.same
      where
        go : (b : ℕ) → searches_f T b (runs_in left) ≡ eliminated_f T whole → kept ≡ eliminated_f T whole
        go zero q = q
        go (suc b) q = (let d : kept ≡ searches_f T (suc b) (runs_in left) = rw e in d) ∙ q

    module _ (next : Runs) (S : Sound next) (e : search_f T kept ≡ Some (runs_in next)) where
      fewer : Fewer kept (runs_in next)
      fewer = subst (Holds (Fewer kept)) e (search-fewer T kept)

      pub searching-less : next.count < left.count
      searching-less = omega (arith, fewer.one_less, (non-empty-fewer (runs_in left)).runs-most, (held next S).count-is, (held left X.sound).count-is)

      pub searching-again : Searching next
      unfolding searches_f
      searching-again = go X.bound X.enough X.same
        where
          go : (b : ℕ) → length (runs_in left) ≤ b → searches_f T b (runs_in left) ≡ eliminated_f T whole → Searching next
          go zero h q = absurd (none_left fewer.one_less (non-empty-fewer (runs_in left)).runs-most h)
            where
              none_left : suc (length (runs_in next)) ≡ length kept → length kept ≤ length (runs_in left) → length (runs_in left) ≤ 0 → ⊥
              none_left u v w = omega arith
          go (suc b) h q =
              let on : searches_f T (suc b) (runs_in left) ≡ searches_f T b (runs_in next) = rw e in
              record { sound = S; bound = b; enough = omega (arith, fewer.one_less, (non-empty-fewer (runs_in left)).runs-most); same = sym on ∙ q }

-- ---- one run tried, of the runs that are not empty

-- the run that is tried is number j of n
pub record Pick (rs : List (List ℕ)) (pending : List ℕ) (n j : ℕ) : Type 0 where
  pub picks : j < n
  pub inside : get_or pending j 0 < length rs

-- what follows from its answer, among the runs that are left of those before
pub record Turn (T : GivenF) (before kept : Runs) (lengths pending : List ℕ) (n j : ℕ) (goes : Bool) (new : Runs) : Type 0 where
  pub found : goes ≡ true → search_f T (non_empty (runs_in before)) ≡ Some (runs_in new)
  pub more : goes ≡ false → (less : List ℕ) → length less ≡ room → take (n - 1) less ≡ without j (take n pending)
      → Trying T (runs_in kept) lengths less (n - 1)

module _ (T : GivenF) (kept : Runs) (lengths pending : List ℕ) (n : ℕ) (Y : Trying T (runs_in kept) lengths pending n) where
  pub tried-all : (before : Runs) → runs_in kept ≡ non_empty (runs_in before) → n ≤ 0 → search_f T (non_empty (runs_in before)) ≡ None
  tried-all before ek h = ap (search_f T) (sym ek) ∙ trying-last T (runs_in kept) lengths pending n Y h

  module _ (h : 0 < n) (j : ℕ) (ej : j ≡ least_at (by_length lengths) (take n pending)) where
    pub tried-pick : Pick (runs_in kept) pending n j
    tried-pick =
        record { picks = trying-picks T (runs_in kept) lengths pending n Y h j ej; inside = trying-inside T (runs_in kept) lengths pending n Y h j ej }

    pub tried-turn : (before left : Runs) → runs_in kept ≡ non_empty (runs_in before) → left ≡ kept → (goes : Bool) (new : Runs)
        → Tries (emptied_f T (part_at (runs_in left) (get_or pending j 0))) goes new → Turn T before kept lengths pending n j goes new
    tried-turn before left ek el goes new R =
        let answer : given goes (runs_in new) ≡ emptied_f T (part_at (runs_in kept) (get_or pending j 0)) =
        R.is ∙ ap (λ (r : Runs). emptied_f T (part_at (runs_in r) (get_or pending j 0))) el in
        record {
          found = λ f. ap (search_f T) (sym ek) ∙ trying-found T (runs_in kept) lengths pending n Y h j ej (runs_in new) (rw f at answer);
          more = λ f less long el. trying-more T (runs_in kept) lengths pending n Y h j ej (rw f at answer) less long el;
        }
