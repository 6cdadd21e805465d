-- The search for reversals, step by step: the last calls tried for one first call, the first calls of a pass, and the passes. Assumes nothing.
use Prim.Native.Nat.{ℕ, zero, suc, ◌+◌, ◌-◌, ◌<◌, ◌≤◌}
use native.Mathlib.Nat.{lt_irrefl}
use native.Mathlib.Numerals.{add-one}
use native.Mathlib.Omega.{arith}
use mathlib.Core.Path.{◌≡◌, refl, sym}
use mathlib.Core.Bool.{Bool, true, false}
use mathlib.Core.List.{List, [], ◌∷◌, ◌++◌, reverse}
use lib.ListN.{length, take, drop}
use Rattle.basics.proofs.TestLaws.{by-test}
use Rattle.basics.specs.Lists.{count}
use Rattle.definitions.specs.TwoOpt.{turned}
use Rattle.evaluation.specs.Records.{Tables}
use Rattle.improve_base.specs.Leg.{distance_f}
use Rattle.evaluation.specs.Route.{feasible_f}
use Rattle.improve_base.specs.Search.{SearchF}
use Rattle.two_opt.specs.Rules.{RulesF, rules_f}
use Rattle.two_opt.specs.TwoOpt.{State, state, gains_f, too_far_f, allowed_f, reversed_f, tried_f, tried_each_f, tried_all_f, pass_from_f, pass_f, passes_f, most_passes, improved_f}

-- ---- the numbers from j up to n, one at a time

count-more : (n j : ℕ) → j < n → count j (n - j) ≡ j ∷ count (j + 1) (n - (j + 1))
count-more n j h =
    let e : n - j ≡ suc (n - (j + 1)) = omega arith in
    rw (e, add-one j)

count-done : (n j : ℕ) → n ≤ j → count j (n - j) ≡ []
count-done n j h = let e : n - j ≡ 0 = omega arith in rw e

module _ (t : Tables) (s : RulesF) where
  -- ---- the last calls from j on, for the first call i

  module _ (i n j : ℕ) (x : State) where
    each_more : j < n → (y : State) → tried_f t s i j x ≡ y → tried_each_f t s i (count j (n - j)) x ≡ tried_each_f t s i (count (j + 1) (n - (j + 1))) y
    unfolding tried_each_f
    each_more h y e = rw (count-more n j h, ← e)

    -- a reversal that gains nothing
    pub each-passed : j < n → gains_f (distance_f t) s i j x.run ≡ false → tried_each_f t s i (count j (n - j)) x ≡ tried_each_f t s i (count (j + 1) (n - (j + 1))) x
    unfolding tried_f
    each-passed h g = each_more h x (rw g)

    -- and one that does
    pub each-made : j < n → gains_f (distance_f t) s i j x.run ≡ true → (y : State) → y ≡ reversed_f t s i j x
        → tried_each_f t s i (count j (n - j)) x ≡ tried_each_f t s i (count (j + 1) (n - (j + 1))) y
    unfolding tried_f
    each-made h g y e = each_more h y (rw g (sym e))

    pub each-done : n ≤ j → tried_each_f t s i (count j (n - j)) x ≡ x
    unfolding tried_each_f
    each-done h = rw (count-done n j h)

  -- where no run that begins so is feasible, none is taken
  pub none-taken : (i : ℕ) (run : List ℕ) (b : Bool) → s.constrained ≡ true → ((rest : List ℕ) → feasible_f t s.limits (take i run ++ rest) ≡ false)
      → (js : List ℕ) → tried_each_f t s i js (state run b) ≡ state run b
  unfolding tried_each_f tried_f reversed_f
  none-taken i run b y bar [] = refl
  none-taken i run b y bar (j ∷ js) =
      let n = suc j - i in
      let barred : allowed_f t s (turned i j run) ≡ false = rw y (bar (reverse (take n (drop i run)) ++ drop n (drop i run))) in
      let rest = none-taken i run b y bar js in
      by-test (gains_f (distance_f t) s i j run)
      (λ g. by-test (too_far_f (distance_f t) s i j run) (λ far. rw (g, far) rest) (λ near. rw (g, near, barred) rest)) (λ g. rw g rest)

  -- ---- the first calls from i on

  module _ (n i : ℕ) (x : State) where
    pub first_more : i + 1 < n → (y : State) → y ≡ tried_all_f t s n i x → pass_from_f t s n (count i (n - 1 - i)) x ≡ pass_from_f t s n (count (i + 1) (n - 1 - (i + 1))) y
    unfolding pass_from_f
    first_more h y e = rw (count-more (n - 1) i (omega arith), e)

    pub first_done : n ≤ i + 1 → pass_from_f t s n (count i (n - 1 - i)) x ≡ x
    unfolding pass_from_f
    first_done h = rw (count-done (n - 1) i (omega arith))

  -- ---- the passes

  module _ (run : List ℕ) (new : List ℕ) where
    pub pass-more : (left next : ℕ) → left ≡ suc next → state new true ≡ pass_f t s run → passes_f t s left run ≡ passes_f t s next new
    unfolding passes_f
    pass-more left next h e = rw (h, ← e)

    pub pass-last : (left : ℕ) → 0 < left → state new false ≡ pass_f t s run → passes_f t s left run ≡ new
    unfolding passes_f
    pass-last zero h e = absurd (lt_irrefl 0 h)
    pass-last (suc left) h e = rw (← e)

  pub no-pass : (run : List ℕ) (left : ℕ) → left ≤ 0 → passes_f t s left run ≡ run
  unfolding passes_f
  no-pass run left h = let z : left ≡ 0 = omega arith in rw z

-- a run of fewer than two calls stays
pub short-stays : (t : Tables) (s : SearchF) (run : List ℕ) → length run < 2 → improved_f t s run ≡ run
unfolding improved_f pass_f pass_from_f
short-stays t s run h =
    let none : length run - 1 ≡ 0 = omega arith in
    pass-last t (rules_f (distance_f t) t.distances s run) run run most_passes (omega arith) (rw none refl)
