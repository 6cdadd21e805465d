-- What a search leaves: one run less, and no more calls. Assumes nothing.
use Prim.Native.Nat.{ℕ, zero, suc, ◌+◌, ◌≤◌}
use native.Mathlib.Omega.{arith}
use mathlib.Core.Path.{◌≡◌, refl, ap}
use mathlib.Core.List.{List, [], ◌∷◌}
use Rattle.std.specs.Prelude.{Option, None, Some, option_map}
use lib.ListN.{length, take, drop, length-append, length-take, length-drop}
use lib.Ieee.{Float}
use Rattle.basics.proofs.TestLaws.{by-test}
use Rattle.basics.specs.Options.{◌>>=◌, value_or, or_else, Holds}
use Rattle.basics.specs.Lists.{All}
use Rattle.basics.proofs.ListLaws.{all-imp, all_map}
use Rattle.definitions.specs.RunList.{calls_of}
use Rattle.definitions.specs.Sort.{rising, sort}
use Rattle.definitions.specs.Elimination.{non_empty, Parted, past, parted}
use Rattle.theorems.proofs.SortLaws.{sort-all}
use Rattle.whole.specs.Whole.{fl}
use Rattle.improve_runs.specs.RunLists.{insert_at, put_in}
use Rattle.improve_runs.specs.Least.{by_seats}
use Rattle.improve_runs.proofs.RunParts.{length-put}
use Rattle.improve_runs.proofs.Sorting.{sort-length}
use Rattle.place_choice.specs.declared.insertion.Spot.{Spot}
use Rattle.place_choice.specs.declared.tested.Mover.{Mover}
use Rattle.place_choice.specs.Insertion.{GivenF, demand_f, best_f}
use Rattle.route_elimination.specs.Placing.{PlacedF, mover_f, put_at, place_f, place_all_f}
use Rattle.route_elimination.specs.Elimination.{finite_f, saved_f, emptied_f, first_emptied_f, search_f, searches_f, eliminated_f}

-- the calls of all runs
abbrev pub calls : List (List ℕ) → ℕ
calls rs = length (calls_of rs)

-- as many runs, and at most n calls more
pub record Grows (n : ℕ) (old new : List (List ℕ)) : Type 0 where
  pub runs_same : length new ≡ length old
  pub calls-more : calls new ≤ n + calls old

-- one run less, and no more calls
pub record Fewer (old new : List (List ℕ)) : Type 0 where
  pub one_less : suc (length new) ≡ length old
  pub calls-kept : calls new ≤ calls old

-- p is one run of the runs `all`, and the others
pub record Part (all : List (List ℕ)) (p : Parted) : Type 0 where
  pub others : suc (length p.rest) ≡ length all
  pub all-calls : length p.run + calls p.rest ≡ calls all

-- no more runs, and no more calls
pub record NoMore (old new : List (List ℕ)) : Type 0 where
  pub runs-most : length new ≤ length old
  pub calls-most : calls new ≤ calls old

pub put-grows : (k pos c : ℕ) (rs : List (List ℕ)) → calls (put_in k pos c rs) ≤ suc (calls rs)
put-grows k pos c [] = omega arith
put-grows zero pos c (r ∷ rs) =
    omega (arith, length-append (insert_at pos c r) (calls_of rs), length-append r (calls_of rs), length-append (take pos r) (c ∷ drop pos r), length-take pos r, length-drop pos r)
put-grows (suc k) pos c (r ∷ rs) = omega (arith, put-grows k pos c rs, length-append r (calls_of (put_in k pos c rs)), length-append r (calls_of rs))

parted-parts : (rs : List (List ℕ)) → All (Part rs) (parted rs)
parted-parts [] = tt
parted-parts (r ∷ rs) = (
  record { others = refl; all-calls = omega (arith, length-append r (calls_of rs)) },
  all_map (Part (r ∷ rs)) (past r) (parted rs) (all-imp (Part rs) (λ (p : Parted). Part (r ∷ rs) (past r p)) behind (parted rs) (parted-parts rs)),
)
  where
    behind : (p : Parted) → Part rs p → Part (r ∷ rs) (past r p)
    behind p h = record { others = ap suc h.others; all-calls = omega (arith, h.all-calls, length-append r (calls_of rs), length-append r (calls_of p.rest)) }

pub non-empty-fewer : (rs : List (List ℕ)) → NoMore rs (non_empty rs)
non-empty-fewer [] = record { runs-most = omega arith; calls-most = omega arith }
non-empty-fewer ([] ∷ rs) = let m = non-empty-fewer rs in record { runs-most = omega (arith, m.runs-most); calls-most = m.calls-most }
non-empty-fewer ((c ∷ cs) ∷ rs) =
    let m = non-empty-fewer rs in
    record { runs-most = omega (arith, m.runs-most); calls-most = omega (arith, m.calls-most, length-append cs (calls_of rs), length-append cs (calls_of (non_empty rs))) }

module _ (T : GivenF) where
  place-grows : (added saved : Float) (c : ℕ) (rs : List (List ℕ)) → Holds (λ (q : PlacedF). Grows 1 rs q.runs) (place_f T added saved c rs)
  place-grows added saved c rs = go (best_f T m rs)
    where
      m : Mover
      m = mover_f c added saved

      go : (o : Option Spot) → Holds (λ (q : PlacedF). Grows 1 rs q.runs) (option_map (put_at m rs) o)
      go None = tt
      go (Some x) = record { runs_same = length-put x.run x.pos c rs; calls-more = omega (arith, put-grows x.run x.pos c rs) }

  all-grow : (added saved : Float) (cs : List ℕ) (rs : List (List ℕ)) → Holds (λ (q : PlacedF). Grows (length cs) rs q.runs) (place_all_f T added saved cs rs)
  unfolding place_all_f
  all-grow added saved [] rs = record { runs_same = refl; calls-more = omega arith }
  all-grow added saved (c ∷ cs) rs = go (λ p. all-grow p.added saved cs p.runs) (place_f T added saved c rs) (place-grows added saved c rs)
    where
      on : (p q : PlacedF) → Grows 1 rs p.runs → Grows (length cs) p.runs q.runs → Grows (suc (length cs)) rs q.runs
      on p q a b = record { runs_same = omega (arith, a.runs_same, b.runs_same); calls-more = omega (arith, a.calls-more, b.calls-more) }

      ons : (p : PlacedF) → Grows 1 rs p.runs → (o : Option PlacedF) → Holds (λ (q : PlacedF). Grows (length cs) p.runs q.runs) o
          → Holds (λ (q : PlacedF). Grows (suc (length cs)) rs q.runs) o
      ons p a None b = tt
      ons p a (Some q) b = on p q a b

      go : ((p : PlacedF) → Holds (λ (q : PlacedF). Grows (length cs) p.runs q.runs) (place_all_f T p.added saved cs p.runs))
          → (o : Option PlacedF) → Holds (λ (q : PlacedF). Grows 1 rs q.runs) o
          → Holds (λ (q : PlacedF). Grows (suc (length cs)) rs q.runs) (o >>= λ p. place_all_f T p.added saved cs p.runs)
      go ih None a = tt
      go ih (Some p) a = ons p a (place_all_f T p.added saved cs p.runs) (ih p)

  emptied-grows : (p : Parted) → Holds (Grows (length p.run) p.rest) (emptied_f T p)
  unfolding emptied_f
  emptied-grows p =
      by-test (finite_f (saved_f T p.run))
      (λ t. rw t (go (place_all_f T (fl 0) (saved_f T p.run) moving p.rest) (all-grow (fl 0) (saved_f T p.run) moving p.rest)))
      (λ f. rw f tt)
    where
      moving : List ℕ
      moving = sort (by_seats (demand_f T)) p.run

      go : (o : Option PlacedF) → Holds (λ (q : PlacedF). Grows (length moving) p.rest q.runs) o
          → Holds (Grows (length p.run) p.rest) (option_map (λ (q : PlacedF). q.runs) o)
      go None a = tt
      go (Some q) a = record { runs_same = a.runs_same; calls-more = omega (arith, a.calls-more, sort-length (by_seats (demand_f T)) p.run) }

  first-fewer : (all : List (List ℕ)) (ps : List Parted) → All (Part all) ps → Holds (Fewer all) (first_emptied_f T ps)
  unfolding first_emptied_f
  first-fewer all [] a = tt
  first-fewer all (p ∷ ps) a = go (emptied_f T p) (emptied-grows p) (first_emptied_f T ps) (first-fewer all ps a.1)
    where
      go : (o : Option (List (List ℕ))) → Holds (Grows (length p.run) p.rest) o → (later : Option (List (List ℕ))) → Holds (Fewer all) later → Holds (Fewer all) (or_else o later)
      go None x later y = y
      go (Some new) x later y = record { one_less = omega (arith, x.runs_same, a.0.others); calls-kept = omega (arith, x.calls-more, a.0.all-calls) }

  pub search-fewer : (rs : List (List ℕ)) → Holds (Fewer rs) (search_f T rs)
  unfolding search_f
  search-fewer rs =
      let le = rising (λ (p : Parted). length p.run) in
      first-fewer rs (sort le (parted rs)) (sort-all le (Part rs) (parted rs) (parted-parts rs))

  -- ---- all searches

  searches-fewer : (bound : ℕ) (rs : List (List ℕ)) → NoMore rs (searches_f T bound rs)
  unfolding searches_f
  searches-fewer zero rs = non-empty-fewer rs
  searches-fewer (suc bound) rs = go (λ new. searches-fewer bound new) (search_f T (non_empty rs)) (search-fewer (non_empty rs))
    where
      go : ((new : List (List ℕ)) → NoMore new (searches_f T bound new)) → (o : Option (List (List ℕ))) → Holds (Fewer (non_empty rs)) o
          → NoMore rs (value_or (non_empty rs) (option_map (searches_f T bound) o))
      go ih None a = non-empty-fewer rs
      go ih (Some new) a =
          let m = non-empty-fewer rs in
          let n = ih new in
          record { runs-most = omega (arith, m.runs-most, n.runs-most, a.one_less); calls-most = omega (arith, m.calls-most, n.calls-most, a.calls-kept) }

  -- never more runs nor calls than were given
  pub eliminated-fewer : (rs : List (List ℕ)) → NoMore rs (eliminated_f T rs)
  unfolding eliminated_f
  eliminated-fewer rs = searches-fewer (length rs) rs
