-- On a sheet within the limits that closes no leg, held in floats, two_opt_improve gives what crates/definitions says. Assumes nothing.
use Prim.Native.Nat.{ℕ, zero, suc, zero-le, ◌+◌, ◌-◌, ◌<◌, ◌≤◌}
use native.Mathlib.Omega.{arith}
use native.Mathlib.Nat.{zero-add}
use mathlib.Core.Path.{◌≡◌, refl, sym, ap, subst, ◌∙◌}
use mathlib.Core.Logic.{◌⊎◌, inl, inr}
use mathlib.Core.Bool.{true, false, cond}
use mathlib.Core.List.{List, [], ◌∷◌}
use Rattle.std.specs.Prelude.{Some}
use lib.ListN.{length}
use lib.Dec.{ltb, eqb}
use lib.Ieee as Ieee
use lib.Ieee.{Float, binary64}
use borrow.Author.Tests.{ltb-true, le-ltb, eqb-false}
use Rattle.basics.proofs.TestLaws.{by-test, not-true}
use Rattle.basics.specs.Lists.{sum, All, Same, count}
use Rattle.basics.proofs.ListLaws.{all-imp}
use Rattle.definitions.specs.Domain.{most_calls}
use Rattle.definitions.specs.Sheet.{Sheet}
use Rattle.definitions.specs.Run.{distance_from}
use Rattle.definitions.specs.Improver.{Given, open_leg, given_of, distance_of, allowed}
use Rattle.definitions.specs.TwoOpt.{turned, tried, tried_all, pass_from, pass, improved}
use Rattle.definitions.specs.Refusals.{any_closed, Within, WithinCalls}
use Rattle.definitions.specs.Answers.{two_opt}
use Rattle.theorems.proofs.Roads.{run-open}
use Rattle.theorems.proofs.Improving.{allowed-is}
use Rattle.theorems.proofs.TwoOptLaws.{turned_same, pass-stays, improved-pass, improved-done, improved-same}
use Rattle.bounds.specs.Sized.{Sized, Place}
use Rattle.bounds.proofs.Inside.{sized, few-calls, calls-inside, same-inside}
use Rattle.bounds.proofs.BoundLaws.{legs-most, open-small}
use Rattle.whole.specs.Whole.{fl}
use Rattle.whole.specs.Gain.{gain_floor_f}
use Rattle.evaluation.specs.Records.{Tables}
use Rattle.improve_base.specs.Leg.{distance_f}
use Rattle.evaluation.specs.Image.{Image}
use Rattle.evaluation.proofs.RouteExact.{sized-feasible-exact}
use Rattle.evaluation.proofs.ChecksExact.{checks-exact}
use Rattle.improve_base.specs.Gain.{scale_f}
use Rattle.improve_base.specs.Search.{search_f, told}
use Rattle.improve_base.specs.Route.{route_distance_f}
use Rattle.improve_base.proofs.LegExact.{distances-small, distance-exact}
use Rattle.improve_base.proofs.GainExact.{Held, scale-held, called, symmetric-same}
use Rattle.improve_base.proofs.RouteExact.{route-distance-exact}
use Rattle.two_opt.specs.Rules.{RulesF, rules_f}
use Rattle.two_opt.specs.Delta.{delta_f}
use Rattle.two_opt.specs.TwoOpt.{State, state, most_passes, allowed_f, gains_f, too_far_f, reversed_f, tried_f, tried_each_f, tried_all_f, pass_from_f, pass_f, passes_f, improved_f, improved_distance_f}
use Rattle.two_opt.proofs.Trying.{length-turned}
use Rattle.two_opt.proofs.DeltaExact.{gain-exact, far-exact}
use Rattle.improve_base.proofs.FarExact.{guard-exact}
use Rattle.two_opt.proofs.FarExact.{far-infeasible}

-- the numbers k, k + 1 and so on, n of them, are from k on and below k + n
counted : (k n : ℕ) → All (λ (j : ℕ). (k ≤ j) × (j < k + n)) (count k n)
counted k zero = tt
counted k (suc n) = (
  (omega arith, omega arith),
  all-imp (λ (j : ℕ). (suc k ≤ j) × (j < suc k + n)) (λ (j : ℕ). (k ≤ j) × (j < k + suc n)) (λ j h. (omega (arith, h.0), omega (arith, h.1)))
      (count (suc k) n) (counted (suc k) n),
)

-- the calls of a run in another order are its calls
among_same : (route xs ys : List ℕ) → Same xs ys → All (λ (c : ℕ). called route c ≡ true) xs → All (λ (c : ℕ). called route c ≡ true) ys
among_same route xs ys e a = among_of ys (sym (e outside) ∙ of-among xs a)
  where
    outside : ℕ → ℕ
    outside c = cond (called route c) 0 1

    of-among : (l : List ℕ) → All (λ (c : ℕ). called route c ≡ true) l → sum outside l ≡ 0
    of-among [] a = refl
    of-among (c ∷ l) a = rw a.0 (zero-add (sum outside l) ∙ of-among l a.1)

    right : (m n : ℕ) → m + n ≡ 0 → n ≡ 0
    right m n h = omega arith

    not_none : (n : ℕ) → 1 + n ≡ 0 → ⊥
    not_none n h = omega arith

    among_of : (l : List ℕ) → sum outside l ≡ 0 → All (λ (c : ℕ). called route c ≡ true) l
    among_of [] h = tt
    among_of (c ∷ l) h = by-test (called route c) (λ t. (t, among_of l (right (outside c) (sum outside l) h))) (λ f. absurd (not_none (sum outside l) (rw f at h)))

-- and all of them are
among-all : (route : List ℕ) → All (λ (c : ℕ). called route c ≡ true) route
among-all [] = tt
among-all (c ∷ cs) = (by-test (eqb c c) (λ t. rw t) (λ f. absurd (eqb-false c c f refl)), all-imp (λ (d : ℕ). called cs d ≡ true) (λ (d : ℕ). called (c ∷ cs) d ≡ true) later cs (among-all cs))
  where
    later : (d : ℕ) → called cs d ≡ true → called (c ∷ cs) d ≡ true
    later d m = by-test (eqb c d) (λ t. rw t) (λ f. rw f m)

module _ (s : Sheet) (W : Within s) (O : any_closed Some s.legs ≡ false) (t : Tables) (I : Image s t) (route : List ℕ) (inside : All (Place s) route) where
  abbrev S : Sized s
  S = sized s W

  abbrev G : Given
  G = given_of s

  -- what the reversals of this run are told
  abbrev rules : RulesF
  rules = rules_f (distance_f t) t.distances (told s t) route

  abbrev Among : ℕ → Type 0
  Among c = called route c ≡ true

  -- a run of so few of its calls, each at a place
  abbrev Fit : List ℕ → Type 0
  Fit run = (length run ≤ most_calls) × All (Place s) run × All Among run

  -- ---- one reversal

  same_back : rules.symmetric ≡ true → (a b : ℕ) → Among a → Among b → open_leg s a b ≡ open_leg s b a
  unfolding rules_f
  same_back e = symmetric-same (distance_f t) (Place s) (open_leg s) (λ c d. omega (arith, open-small s S c d)) (distance-exact s S O t I) route inside e

  -- the scale is a distance that a sheet may have
  scale-whole : Held (scale_f t.distances)
  scale-whole = subst (λ (l : List Float). Held (scale_f l)) (sym I.distances-are) (scale-held s.legs.distances (distances-small s S O))

  gains-exact : (run : List ℕ) → Fit run → (i j : ℕ) → i < j → j < length run → gains_f (distance_f t) rules i j run ≡ ltb (distance_of G (turned i j run)) (distance_of G run)
  unfolding rules_f
  gains-exact run f i j h l =
      let most = scale-whole in
      ap (λ (x : Float). Ieee.lt (delta_f (distance_f t) rules.symmetric i j run) (Ieee.neg (gain_floor_f x))) most.is
      ∙ gain-exact s S O t I run f.0 f.1 i j h l Among f.2 rules.symmetric same_back most.number most.small

  allowed-exact : (run : List ℕ) → Fit run → allowed_f t (rules) run ≡ allowed G run
  unfolding rules_f search_f
  allowed-exact run f = rw (checks-exact s t I, sized-feasible-exact s S t I run f.0 f.1)

  turned-fits : (run : List ℕ) → Fit run → (i j : ℕ) → i < j → j < length run → Fit (turned i j run)
  turned-fits run f i j h l =
      let same : Same run (turned i j run) = λ g. sym (turned_same i j run g) in
      (omega (arith, length-turned i j run h l, f.0), same-inside s run (turned i j run) same f.1, among_same route run (turned i j run) same f.2)

  distance-bound : (run : List ℕ) → length run ≤ most_calls → distance_of G run ≤ most_passes
  distance-bound [] few = zero-le
  distance-bound (c ∷ cs) few = omega (arith, legs-most (open_leg s) (open-small s S) 0 (c ∷ cs))

  -- a run with calls, leg by leg from the depot
  from-depot : (run : List ℕ) → 0 < length run → distance_from s 0 run ≡ Some (distance_of G run)
  from-depot [] h = absurd (omega arith)
  from-depot (c ∷ cs) h = run-open s W O 0 (c ∷ cs)

  -- a reversal that makes the run too long makes one that is not allowed
  far-refused : (run : List ℕ) → Fit run → (i j : ℕ) → i < j → j < length run → too_far_f (distance_f t) (rules) i j run ≡ true → allowed G (turned i j run) ≡ false
  unfolding too_far_f rules_f search_f
  far-refused run f i j h l far =
      let new = turned i j run in
      let d = distance-bound run f.0 in
      let b = distance-bound new (turned-fits run f i j h l).0 in
      let sum = ap (λ (x : Float). Ieee.add binary64 x (delta_f (distance_f t) rules.symmetric i j run)) (route-distance-exact s S O t I run f.0 f.1)
      ∙ far-exact s S O t I run f.0 f.1 i j h l Among f.2 rules.symmetric same_back (omega (arith, d)) in
      let out = sym (guard-exact s S (distance_f t) run (delta_f (distance_f t) rules.symmetric i j run) (distance_of G new) (omega (arith, b)) sum) ∙ not-true _ far in
      allowed-is s W O new ∙ far-infeasible s new (distance_of G new) (from-depot new (omega (arith, length-turned i j run h l))) out

  -- ---- the search from the run `old`: no reversal is taken yet and it is as it was, or one is and it is shorter

  record Going (old : List ℕ) (x : State) : Type 0 where
    fits : Fit x.run
    as_long : length x.run ≡ length old
    change : ((x.improved ≡ false) × (x.run ≡ old)) ⊎ ((x.improved ≡ true) × (distance_of G x.run < distance_of G old))

  module _ (old : List ℕ) where
    no_longer : (x : State) → Going old x → distance_of G x.run ≤ distance_of G old
    no_longer x g = go g.change
      where
        go : ((x.improved ≡ false) × (x.run ≡ old)) ⊎ ((x.improved ≡ true) × (distance_of G x.run < distance_of G old)) → distance_of G x.run ≤ distance_of G old
        go (inl e) = omega (arith, ap (distance_of G) e.1)
        go (inr e) = omega (arith, e.1)

    tried-exact : (x : State) → Going old x → (i j : ℕ) → i < j → j < length old → ((tried_f t (rules) i j x).run ≡ tried G i j x.run) × Going old (tried_f t (rules) i j x)
    unfolding tried_f reversed_f tried
    tried-exact x g i j h l =
        let m : j < length x.run = omega (arith, g.as_long) in
        let new = turned i j x.run in
        let f = turned-fits x.run g.fits i j h m in
        let gains = gains-exact x.run g.fits i j h m in
        let may = allowed-exact new f in
        by-test (ltb (distance_of G new) (distance_of G x.run))
        (λ y. by-test (too_far_f (distance_f t) (rules) i j x.run)
        (λ far. let a = far-refused x.run g.fits i j h m far in rw (gains, far, y, a) (refl, g))
        (λ near. by-test (allowed G new)
        (λ a. rw (gains, near, may, y, a) (
          refl,
          record {
            fits = f;
            as_long = length-turned i j x.run h m ∙ g.as_long;
            change = inr (refl, omega (arith, ltb-true (distance_of G new) (distance_of G x.run) y, no_longer x g));
          },
        ))
        (λ a. rw (gains, near, may, y, a) (refl, g))))
        (λ n. rw (gains, n) (refl, g))

    each-exact : (i : ℕ) (js : List ℕ) → All (λ (j : ℕ). (i < j) × (j < length old)) js → (x : State) → Going old x
        → ((tried_each_f t (rules) i js x).run ≡ tried_all G i js x.run) × Going old (tried_each_f t (rules) i js x)
    unfolding tried_each_f tried_all
    each-exact i [] a x g = (refl, g)
    each-exact i (j ∷ js) a x g =
        let one = tried-exact x g i j a.0.0 a.0.1 in
        let more = each-exact i js a.1 (tried_f t (rules) i j x) one.1 in
        (more.0 ∙ ap (tried_all G i js) one.0, more.1)

    -- the last calls for a first call i
    lasts : (i : ℕ) → suc i < length old → All (λ (j : ℕ). (i < j) × (j < length old)) (count (suc i) (length old - suc i))
    lasts i h =
        all-imp (λ (j : ℕ). (suc i ≤ j) × (j < suc i + (length old - suc i))) (λ (j : ℕ). (i < j) × (j < length old)) (λ j k. (k.0, omega (arith, k.1)))
        (count (suc i) (length old - suc i)) (counted (suc i) (length old - suc i))

    first-exact : (is : List ℕ) → All (λ (i : ℕ). suc i < length old) is → (x : State) → Going old x
        → ((pass_from_f t (rules) (length old) is x).run ≡ pass_from G (length old) is x.run) × Going old (pass_from_f t (rules) (length old) is x)
    unfolding pass_from_f pass_from
    first-exact [] a x g = (refl, g)
    first-exact (i ∷ is) a x g =
        let one = each-exact i (count (suc i) (length old - suc i)) (lasts i a.0) x g in
        let more = first-exact is a.1 (tried_all_f t (rules) (length old) i x) one.1 in
        (more.0 ∙ ap (pass_from G (length old) is) one.0, more.1)

    pass-exact : Fit old → ((pass_f t (rules) old).run ≡ pass G old) × Going old (pass_f t (rules) old)
    unfolding pass_f pass
    pass-exact f =
        let firsts = all-imp (λ (i : ℕ). (0 ≤ i) × (i < 0 + (length old - 1))) (λ (i : ℕ). suc i < length old) (λ i k. omega (arith, k.1)) (count 0 (length old - 1)) (counted 0 (length old - 1)) in
        first-exact (count 0 (length old - 1)) firsts (state old false) (record { fits = f; as_long = refl; change = inl (refl, refl) })

  -- ---- the passes: each that takes a reversal lowers the distance, so there are never too few

  one-pass : (left : ℕ) (run : List ℕ) → Fit run → distance_of G run ≤ suc left
      → ((new : List ℕ) → Fit new → distance_of G new ≤ left → passes_f t (rules) left new ≡ improved G new) → passes_f t (rules) (suc left) run ≡ improved G run
  unfolding passes_f
  one-pass left run f d rest = go P.1.change
    where
      P : ((pass_f t (rules) run).run ≡ pass G run) × Going run (pass_f t (rules) run)
      P = pass-exact run f

      x : State
      x = pass_f t (rules) run

      go : ((x.improved ≡ false) × (x.run ≡ run)) ⊎ ((x.improved ≡ true) × (distance_of G x.run < distance_of G run))
          → cond x.improved (passes_f t (rules) left x.run) x.run ≡ improved G run
      go (inl e) = rw e.0 (e.1 ∙ sym (improved-done G run (sym P.0 ∙ e.1)))
      go (inr e) = rw e.0 (rest x.run P.1.fits (omega (arith, e.1)) ∙ ap (improved G) P.0 ∙ improved-pass G run)

  passes-exact : (left : ℕ) (run : List ℕ) → Fit run → distance_of G run ≤ left → passes_f t (rules) left run ≡ improved G run
  unfolding passes_f
  passes-exact zero run f d = sym (improved-done G run (pass-stays G run (le-ltb (distance_of G (pass G run)) (distance_of G run) (omega arith))))
  passes-exact (suc left) run f d = one-pass left run f d (passes-exact left)

  route-fits : length route ≤ most_calls → Fit route
  route-fits few = (few, inside, among-all route)

  improved-exact : length route ≤ most_calls → improved_f t (told s t) route ≡ improved G route
  unfolding improved_f
  improved-exact few = passes-exact most_passes route (route-fits few) (distance-bound route few)

  -- the same calls in another order
  improved-short : length route ≤ most_calls → length (improved G route) ≤ most_calls
  improved-short few = omega (arith, ones route, ones (improved G route), improved-same G route (λ _. 1))
    where
      ones : (l : List ℕ) → sum (λ _. 1) l ≡ length l
      ones [] = refl
      ones (c ∷ l) = omega (arith, ones l)

  improved-distance-exact : length route ≤ most_calls → improved_distance_f t (told s t) route ≡ fl (distance_of G (improved G route))
  improved-distance-exact few =
      let same = same-inside s route (improved G route) (λ g. sym (improved-same G route g)) inside in
      ap (route_distance_f (distance_f t)) (improved-exact few) ∙ route-distance-exact s S O t I (improved G route) (improved-short few) same

-- ---- by the limits of the Domain

-- the calls and the distance that are given
pub record AsDefined (s : Sheet) (t : Tables) (run : List ℕ) : Type 0 where
  pub calls_are : improved_f t (told s t) run ≡ (two_opt s run).calls
  pub distance_is : improved_distance_f t (told s t) run ≡ fl (two_opt s run).distance

pub two-opt-exact : (s : Sheet) → Within s → any_closed Some s.legs ≡ false → (t : Tables) → Image s t → (run : List ℕ) → WithinCalls s run → AsDefined s t run
two-opt-exact s W O t I run C =
    let inside = calls-inside s run C in
    let few = few-calls s run C in
    record { calls_are = improved-exact s W O t I run inside few; distance_is = improved-distance-exact s W O t I run inside few }
