-- What eliminate_routes gives: the same calls, never more runs, legal runs where those given were, and runs of which none can go.
use Prim.Native.Nat.{ℕ, zero, suc, ◌+◌, ◌≤◌, ◌<◌}
use native.Mathlib.Omega.{arith}
use mathlib.Core.Path.{◌≡◌, refl, ap, subst, ◌∙◌}
use mathlib.Core.Bool.{true}
use mathlib.Core.List.{List, [], ◌∷◌, map}
use Rattle.std.specs.Prelude.{Option, None, Some, option_map}
use lib.ListN.{length}
use lib.Dec.{ltb}
use borrow.Author.Tests.{ltb-true, le-ltb}
use Rattle.basics.proofs.TestLaws.{by-test}
use Rattle.basics.specs.Options.{◌>>=◌, value_or, or_else, Holds}
use Rattle.basics.specs.Lists.{sum, All}
use Rattle.basics.proofs.ListLaws.{all-imp, all_append, all_map}
use Rattle.definitions.specs.Load.{Load, carried, fits_by}
use Rattle.definitions.proofs.LoadLaws.{load_same}
use Rattle.definitions.specs.Sort.{rising, falling, sort}
use Rattle.definitions.specs.Improver.{Given, distance_of, total, allowed}
use Rattle.definitions.specs.Elimination.{non_empty, Parted, past, parted, Put, beyond, inserts, candidates, first_below, placed, placed_all, emptied, first_emptied, search, searches, eliminated}
use Rattle.theorems.proofs.SortLaws.{sort-same, sort-all}
use Rattle.theorems.proofs.Sums.{length-is-sum}

-- a sum over all calls of all runs
abbrev pub sum_all : (ℕ → ℕ) → List (List ℕ) → ℕ
sum_all f = sum (sum f)

-- a run with some call
abbrev pub Calls : List ℕ → Type 0
Calls [] = ⊥
Calls (c ∷ cs) = Unit {0}

calls-some : (r : List ℕ) → Calls r → 0 < length r
calls-some [] c = absurd c
calls-some (x ∷ xs) c = omega arith

holds-imp : {A : Type 0} (P Q : A → Type 0) → ((x : A) → P x → Q x) → (o : Option A) → Holds P o → Holds Q o
holds-imp P Q h None a = tt
holds-imp P Q h (Some x) a = h x a

-- ---- a customer put into a run

-- g is the run r with c put in somewhere
pub record Grows (c : ℕ) (r g : List ℕ) : Type 0 where
  pub calls : (f : ℕ → ℕ) → sum f g ≡ f c + sum f r
  pub some-call : Calls g

inserts-grow : (c : ℕ) (r : List ℕ) → All (Grows c r) (inserts c r)
inserts-grow c [] = (record { calls = λ f. refl; some-call = tt }, tt)
inserts-grow c (x ∷ xs) = (
  record { calls = λ f. refl; some-call = tt },
  all_map (Grows c (x ∷ xs)) (λ (r : List ℕ). x ∷ r) (inserts c xs)
      (all-imp (Grows c xs) (λ (g : List ℕ). Grows c (x ∷ xs) (x ∷ g)) behind (inserts c xs) (inserts-grow c xs)),
)
  where
    behind : (g : List ℕ) → Grows c xs g → Grows c (x ∷ xs) (x ∷ g)
    behind g h = record { calls = λ f. omega (arith, h.calls f); some-call = tt }

module _ (G : Given) where
  -- a legal run: some call, a load at most capacity, and allowed
  pub record Legal (r : List ℕ) : Type 0 where
    pub some-call : Calls r
    pub fits : fits_by G.demand G.capacity r ≡ true
    pub may : allowed G r ≡ true

  -- the runs `new` are the runs `old` with the calls `cs` put in
  pub record Takes (cs : List ℕ) (old new : List (List ℕ)) : Type 0 where
    pub calls : (f : ℕ → ℕ) → sum_all f new ≡ sum f cs + sum_all f old
    pub many : length new ≡ length old
    pub legal : All Legal old → All Legal new
    pub some-call : All Calls old → All Calls new

  -- the same of a candidate, if the run that took the customer is allowed
  abbrev pub PutWell : ℕ → List (List ℕ) → Put → Type 0
  PutWell c old p = allowed G p.grown ≡ true → Takes (c ∷ []) old p.runs

  put-here : (c : ℕ) (r : List ℕ) (rs : List (List ℕ)) → fits_by G.demand G.capacity (c ∷ r) ≡ true → (g : List ℕ) → Grows c r g
      → PutWell c (r ∷ rs) (record { grown = g; runs = g ∷ rs })
  put-here c r rs room g h a =
      record {
        calls = λ f. omega (arith, h.calls f);
        many = refl;
        legal = λ l. (record { some-call = h.some-call; fits = ap (λ (l : Load). carried l G.capacity) (load_same G.demand g (c ∷ r) h.calls) ∙ room; may = a }, l.1);
        some-call = λ l. (h.some-call, l.1);
      }

  put-beyond : (c : ℕ) (r : List ℕ) (rs : List (List ℕ)) (p : Put) → PutWell c rs p → PutWell c (r ∷ rs) (beyond r p)
  put-beyond c r rs p h a =
      record {
        calls = λ f. omega (arith, (h a).calls f);
        many = ap suc (h a).many;
        legal = λ l. (l.0, (h a).legal l.1);
        some-call = λ l. (l.0, (h a).some-call l.1);
      }

  candidates-well : (c : ℕ) (rs : List (List ℕ)) → All (PutWell c rs) (candidates G c rs)
  unfolding candidates
  candidates-well c [] = tt
  candidates-well c (r ∷ rs) =
      let later : All (PutWell c (r ∷ rs)) (map (beyond r) (candidates G c rs)) =
      all_map (PutWell c (r ∷ rs)) (beyond r) (candidates G c rs)
      (all-imp (PutWell c rs) (λ (p : Put). PutWell c (r ∷ rs) (beyond r p)) (put-beyond c r rs) (candidates G c rs) (candidates-well c rs)) in
      by-test (fits_by G.demand G.capacity (c ∷ r))
      (λ t. rw t
      (all_append (PutWell c (r ∷ rs)) (map here (inserts c r)) (map (beyond r) (candidates G c rs))
      (all_map (PutWell c (r ∷ rs)) here (inserts c r)
      (all-imp (Grows c r) (λ (g : List ℕ). PutWell c (r ∷ rs) (here g)) (put-here c r rs t) (inserts c r) (inserts-grow c r)))
      later))
      (λ n. rw n later)
    where
      here : List ℕ → Put
      here g = record { grown = g; runs = g ∷ rs }

  -- ---- the first that is allowed

  first-well : (bound c : ℕ) (old : List (List ℕ)) (ps : List Put) → All (PutWell c old) ps
      → Holds (λ (new : List (List ℕ)). Takes (c ∷ []) old new × (total G new < bound)) (first_below G bound ps)
  unfolding first_below
  first-well bound c old [] a = tt
  first-well bound c old (p ∷ ps) a =
      by-test (ltb (total G p.runs) bound)
      (λ t. by-test (allowed G p.grown)
      (λ u. rw (t, u) (a.0 u, ltb-true (total G p.runs) bound t))
      (λ u. rw (t, u) (first-well bound c old ps a.1)))
      (λ n. rw n (first-well bound c old ps a.1))

  -- in rising order nothing is found from the first on that reaches the bound
  pub first_stops : (bound : ℕ) (ps : List Put) → All (λ (p : Put). bound ≤ total G p.runs) ps → first_below G bound ps ≡ None
  unfolding first_below
  first_stops bound [] a = refl
  first_stops bound (p ∷ ps) a = rw (le-ltb (total G p.runs) bound a.0) (first_stops bound ps a.1)

  placed-well : (bound c : ℕ) (old : List (List ℕ)) → Holds (λ (new : List (List ℕ)). Takes (c ∷ []) old new × (total G new < bound)) (placed G bound c old)
  unfolding placed
  placed-well bound c old =
      let le = rising (λ (p : Put). total G p.runs) in
      first-well bound c old (sort le (candidates G c old)) (sort-all le (PutWell c old) (candidates G c old) (candidates-well c old))

  -- ---- all of them

  takes_none : (old : List (List ℕ)) → Takes [] old old
  takes_none old = record { calls = λ f. omega arith; many = refl; legal = λ l. l; some-call = λ l. l }

  takes-more : {c : ℕ} {cs : List ℕ} {a b d : List (List ℕ)} → Takes (c ∷ []) a b → Takes cs b d → Takes (c ∷ cs) a d
  takes-more p q =
      record {
        calls = λ f. omega (arith, p.calls f, q.calls f);
        many = q.many ∙ p.many;
        legal = λ l. q.legal (p.legal l);
        some-call = λ l. q.some-call (p.some-call l);
      }

  all-well : (bound : ℕ) (cs : List ℕ) (old : List (List ℕ))
      → Holds (λ (new : List (List ℕ)). Takes cs old new × (total G old < bound → total G new < bound)) (placed_all G bound cs old)
  unfolding placed_all
  all-well bound [] old = (takes_none old, λ h. h)
  all-well bound (c ∷ cs) old = go (λ mid. all-well bound cs mid) (placed G bound c old) (placed-well bound c old)
    where
      go : ((mid : List (List ℕ)) → Holds (λ (new : List (List ℕ)). Takes cs mid new × (total G mid < bound → total G new < bound)) (placed_all G bound cs mid))
          → (o : Option (List (List ℕ))) → Holds (λ (new : List (List ℕ)). Takes (c ∷ []) old new × (total G new < bound)) o
          → Holds (λ (new : List (List ℕ)). Takes (c ∷ cs) old new × (total G old < bound → total G new < bound)) (o >>= placed_all G bound cs)
      go ih None a = tt
      go ih (Some mid) a =
          holds-imp (λ (new : List (List ℕ)). Takes cs mid new × (total G mid < bound → total G new < bound))
          (λ (new : List (List ℕ)). Takes (c ∷ cs) old new × (total G old < bound → total G new < bound))
          (λ new b. (takes-more a.0 b.0, λ h. b.1 a.1))
          (placed_all G bound cs mid) (ih mid)

  all-below : (bound : ℕ) (cs : List ℕ) (old : List (List ℕ)) → 0 < length cs → Holds (λ (new : List (List ℕ)). total G new < bound) (placed_all G bound cs old)
  unfolding placed_all
  all-below bound [] old h = absurd (none_left h)
    where
      none_left : 0 < 0 → ⊥
      none_left h = omega arith
  all-below bound (c ∷ cs) old h = go (placed G bound c old) (placed-well bound c old)
    where
      go : (o : Option (List (List ℕ))) → Holds (λ (new : List (List ℕ)). Takes (c ∷ []) old new × (total G new < bound)) o
          → Holds (λ (new : List (List ℕ)). total G new < bound) (o >>= placed_all G bound cs)
      go None a = tt
      go (Some mid) a =
          holds-imp (λ (new : List (List ℕ)). Takes cs mid new × (total G mid < bound → total G new < bound)) (λ (new : List (List ℕ)). total G new < bound)
          (λ new b. b.1 a.1) (placed_all G bound cs mid) (all-well bound cs mid)

  -- ---- a run that can go

  -- the runs `new` are the runs `old` with one run less
  pub record Fewer (old new : List (List ℕ)) : Type 0 where
    pub calls : (f : ℕ → ℕ) → sum_all f new ≡ sum_all f old
    pub fewer : suc (length new) ≡ length old
    pub legal : All Legal old → All Legal new
    pub some-call : All Calls old → All Calls new
    -- the run that went cost more than the others took on
    pub saves : All Calls old → total G new < total G old + G.fixed

  -- p is one run of the runs `all`, and the others
  pub record Parts (all : List (List ℕ)) (p : Parted) : Type 0 where
    pub sums : (f : List ℕ → ℕ) → f p.run + sum f p.rest ≡ sum f all
    pub legal : All Legal all → All Legal p.rest
    pub some-call : All Calls all → Calls p.run × All Calls p.rest

  parted-parts : (rs : List (List ℕ)) → All (Parts rs) (parted rs)
  parted-parts [] = tt
  parted-parts (r ∷ rs) = (
    record { sums = λ f. refl; legal = λ a. a.1; some-call = λ a. a },
    all_map (Parts (r ∷ rs)) (past r) (parted rs) (all-imp (Parts rs) (λ (p : Parted). Parts (r ∷ rs) (past r p)) behind (parted rs) (parted-parts rs)),
  )
    where
      behind : (p : Parted) → Parts rs p → Parts (r ∷ rs) (past r p)
      behind p h =
          record {
            sums = λ f. omega (arith, h.sums f);
            legal = λ a. (a.0, h.legal a.1);
            some-call = λ a. ((h.some-call a.1).0, (a.0, (h.some-call a.1).1));
          }

  emptied-fewer : (all : List (List ℕ)) (p : Parted) → Parts all p → Holds (Fewer all) (emptied G p)
  unfolding emptied
  emptied-fewer all p h = go (placed_all G bound moving p.rest) (all-well bound moving p.rest) (all-below bound moving p.rest)
    where
      bound : ℕ
      bound = total G (p.run ∷ p.rest) + G.fixed

      moving : List ℕ
      moving = sort (falling (λ (c : ℕ). (G.demand c).seats)) p.run

      some-moving : Calls p.run → 0 < length moving
      some-moving c =
          omega (arith, calls-some p.run c, sort-same (falling (λ (c : ℕ). (G.demand c).seats)) p.run (λ (r : ℕ). 1), length-is-sum moving, length-is-sum p.run)

      go : (o : Option (List (List ℕ))) → Holds (λ (new : List (List ℕ)). Takes moving p.rest new × (total G p.rest < bound → total G new < bound)) o
          → (0 < length moving → Holds (λ (new : List (List ℕ)). total G new < bound) o) → Holds (Fewer all) o
      go None a b = tt
      go (Some new) a b =
          record {
            calls = λ f. omega (arith, a.0.calls f, sort-same (falling (λ (c : ℕ). (G.demand c).seats)) p.run f, h.sums (sum f));
            fewer = omega (arith, a.0.many, h.sums (λ (r : List ℕ). 1), length-is-sum p.rest, length-is-sum all);
            legal = λ l. a.0.legal (h.legal l);
            some-call = λ l. a.0.some-call (h.some-call l).1;
            saves = λ l. omega (arith, b (some-moving (h.some-call l).0), h.sums (distance_of G));
          }

  first-fewer : (all : List (List ℕ)) (ps : List Parted) → All (Parts all) ps → Holds (Fewer all) (first_emptied G ps)
  unfolding first_emptied
  first-fewer all [] a = tt
  first-fewer all (p ∷ ps) a = go (emptied G p) (emptied-fewer all p a.0) (first_emptied G ps) (first-fewer all ps a.1)
    where
      go : (o : Option (List (List ℕ))) → Holds (Fewer all) o → (later : Option (List (List ℕ))) → Holds (Fewer all) later → Holds (Fewer all) (or_else o later)
      go None x later y = y
      go (Some new) x later y = x

  -- a search that succeeds leaves one run less, with the same calls, legal if all were
  pub search-fewer : (runs : List (List ℕ)) → Holds (Fewer runs) (search G runs)
  unfolding search
  search-fewer runs =
      let le = rising (λ (p : Parted). length p.run) in
      first-fewer runs (sort le (parted runs)) (sort-all le (Parts runs) (parted runs) (parted-parts runs))

  -- ---- the empty runs

  non-empty-calls : (f : ℕ → ℕ) (rs : List (List ℕ)) → sum_all f (non_empty rs) ≡ sum_all f rs
  non-empty-calls f [] = refl
  non-empty-calls f ([] ∷ rs) = omega (arith, non-empty-calls f rs)
  non-empty-calls f ((c ∷ cs) ∷ rs) = omega (arith, non-empty-calls f rs)

  non-empty-length : (rs : List (List ℕ)) → length (non_empty rs) ≤ length rs
  non-empty-length [] = omega arith
  non-empty-length ([] ∷ rs) = omega (arith, non-empty-length rs)
  non-empty-length ((c ∷ cs) ∷ rs) = omega (arith, non-empty-length rs)

  non-empty-some : (rs : List (List ℕ)) → All Calls (non_empty rs)
  non-empty-some [] = tt
  non-empty-some ([] ∷ rs) = non-empty-some rs
  non-empty-some ((c ∷ cs) ∷ rs) = (tt, non-empty-some rs)

  non-empty-legal : (rs : List (List ℕ)) → All Legal rs → All Legal (non_empty rs)
  non-empty-legal [] a = tt
  non-empty-legal ([] ∷ rs) a = non-empty-legal rs a.1
  non-empty-legal ((c ∷ cs) ∷ rs) a = (a.0, non-empty-legal rs a.1)

  -- runs without an empty one are left as they are
  pub non-empty-same : (rs : List (List ℕ)) → All Calls rs → non_empty rs ≡ rs
  non-empty-same [] a = refl
  non-empty-same ([] ∷ rs) a = absurd a.0
  non-empty-same ((c ∷ cs) ∷ rs) a = ap (λ (l : List (List ℕ)). (c ∷ cs) ∷ l) (non-empty-same rs a.1)

  -- ---- the whole

  -- from the runs `old` to the runs `new`
  pub record Eliminates (old new : List (List ℕ)) : Type 0 where
    pub calls : (f : ℕ → ℕ) → sum_all f new ≡ sum_all f old
    pub fewer : length new ≤ length old
    pub legal : All Legal old → All Legal new
    pub some-call : All Calls new

  dropped : (runs : List (List ℕ)) → Eliminates runs (non_empty runs)
  dropped runs =
      record {
        calls = λ f. non-empty-calls f runs;
        fewer = non-empty-length runs;
        legal = non-empty-legal runs;
        some-call = non-empty-some runs;
      }

  goes_on : {a b c : List (List ℕ)} → Fewer (non_empty a) b → Eliminates b c → Eliminates a c
  goes_on {a} p q =
      record {
        calls = λ f. q.calls f ∙ p.calls f ∙ non-empty-calls f a;
        fewer = omega (arith, q.fewer, p.fewer, non-empty-length a);
        legal = λ l. q.legal (p.legal (non-empty-legal a l));
        some-call = q.some-call;
      }

  searches-eliminate : (bound : ℕ) (runs : List (List ℕ)) → Eliminates runs (searches G bound runs)
  unfolding searches
  searches-eliminate zero runs = dropped runs
  searches-eliminate (suc bound) runs = go (λ new. searches-eliminate bound new) (search G (non_empty runs)) (search-fewer (non_empty runs))
    where
      go : ((new : List (List ℕ)) → Eliminates new (searches G bound new)) → (o : Option (List (List ℕ))) → Holds (Fewer (non_empty runs)) o
          → Eliminates runs (value_or (non_empty runs) (option_map (searches G bound) o))
      go ih None a = dropped runs
      go ih (Some new) a = goes_on a (ih new)

  -- the same calls, never more runs, no empty one, and legal runs if those given are
  pub eliminated-eliminates : (runs : List (List ℕ)) → Eliminates runs (eliminated G runs)
  unfolding eliminated
  eliminated-eliminates runs = searches-eliminate (length runs) runs

  -- ---- it ends

  search-none : search G [] ≡ None
  unfolding search sort first_emptied
  search-none = refl

  empty-is : (rs : List (List ℕ)) → length rs ≤ 0 → rs ≡ []
  empty-is [] h = refl
  empty-is (r ∷ rs) h = absurd (too_long h)
    where
      too_long : suc (length rs) ≤ 0 → ⊥
      too_long h = omega arith

  searches-end : (bound : ℕ) (runs : List (List ℕ)) → length runs ≤ bound → search G (searches G bound runs) ≡ None
  unfolding searches
  searches-end zero runs h = ap (λ (l : List (List ℕ)). search G l) (empty-is (non_empty runs) (omega (arith, non-empty-length runs))) ∙ search-none
  searches-end (suc bound) runs h = go (λ new. searches-end bound new) (search G (non_empty runs)) refl (search-fewer (non_empty runs))
    where
      go : ((new : List (List ℕ)) → length new ≤ bound → search G (searches G bound new) ≡ None) → (o : Option (List (List ℕ))) → search G (non_empty runs) ≡ o
          → Holds (Fewer (non_empty runs)) o → search G (value_or (non_empty runs) (option_map (searches G bound) o)) ≡ None
      go ih None e a = e
      go ih (Some new) e a = ih new (omega (arith, a.fewer, non-empty-length runs))

  -- of the runs of the result none can go
  pub eliminated-ends : (runs : List (List ℕ)) → search G (eliminated G runs) ≡ None
  unfolding eliminated
  eliminated-ends runs = searches-end (length runs) runs (omega arith)

  -- ---- the loop of searches, one at a time

  -- without runs there is nothing to search
  none_found : (runs : List (List ℕ)) → length runs ≤ 0 → search G (non_empty runs) ≡ None
  none_found runs h = ap (λ (l : List (List ℕ)). search G l) (empty-is (non_empty runs) (omega (arith, non-empty-length runs))) ∙ search-none

  -- more searches than enough change nothing
  searches-enough : (m n : ℕ) (runs : List (List ℕ)) → length runs ≤ m → length runs ≤ n → searches G m runs ≡ searches G n runs
  unfolding searches
  searches-enough zero zero runs h k = refl
  searches-enough zero (suc n) runs h k = rw (none_found runs h) refl
  searches-enough (suc m) zero runs h k = rw (none_found runs k) refl
  searches-enough (suc m) (suc n) runs h k = go (λ new. searches-enough m n new) (search G (non_empty runs)) (search-fewer (non_empty runs))
    where
      go : ((new : List (List ℕ)) → length new ≤ m → length new ≤ n → searches G m new ≡ searches G n new) → (o : Option (List (List ℕ)))
          → Holds (Fewer (non_empty runs)) o → value_or (non_empty runs) (option_map (searches G m) o) ≡ value_or (non_empty runs) (option_map (searches G n) o)
      go ih None a = refl
      go ih (Some new) a = ih new (omega (arith, a.fewer, non-empty-length runs)) (omega (arith, a.fewer, non-empty-length runs))

  unfolded : (runs : List (List ℕ)) → eliminated G runs ≡ value_or (non_empty runs) (option_map (searches G (length runs)) (search G (non_empty runs)))
  unfolding eliminated searches
  unfolded runs = searches-enough (length runs) (suc (length runs)) runs (omega arith) (omega arith)

  -- after a success the search begins again
  pub eliminated-again : (runs new : List (List ℕ)) → search G (non_empty runs) ≡ Some new → eliminated G runs ≡ eliminated G new
  unfolding eliminated
  eliminated-again runs new e =
      let F : Fewer (non_empty runs) new = subst (λ (o : Option (List (List ℕ))). Holds (Fewer (non_empty runs)) o) e (search-fewer (non_empty runs)) in
      unfolded runs ∙ rw e (searches-enough (length runs) (length new) new (omega (arith, F.fewer, non-empty-length runs)) (omega arith))

  -- without one it is over
  pub eliminated-over : (runs : List (List ℕ)) → search G (non_empty runs) ≡ None → eliminated G runs ≡ non_empty runs
  eliminated-over runs e = unfolded runs ∙ rw e refl
