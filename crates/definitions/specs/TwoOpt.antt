-- two_opt_improve on whole numbers. A reversal's gain is a difference of distances: the two distances are compared as they
-- are, so that nothing falls below 0. The gain that a reversal has to exceed, gain_floor, is at least 0 and less than 1, so a
-- whole gain passes exactly when it is at least 1.
use Rattle.std.specs.Prelude.{ℕ, zero, suc, ◌+◌, ◌-◌, cond, ◌&&◌, List, [], ◌∷◌, ◌++◌, reverse, length, take, drop, ltb}
use Rattle.basics.specs.Lists.{count}
use Rattle.definitions.specs.Improver.{Given, distance_of, allowed}

-- the run with the stretch of its calls from i up to and with j reversed
abbrev pub turned : ℕ → ℕ → List ℕ → List ℕ
turned i j run =
    let n : ℕ = suc j - i in
    take i run ++ (reverse (take n (drop i run)) ++ drop n (drop i run))

module _ (G : Given) where
  -- a reversal is taken when the distance falls and the run that it makes is allowed
  unfoldable pub tried : ℕ → ℕ → List ℕ → List ℕ
  tried i j run =
      let new = turned i j run in
      cond (ltb (distance_of G new) (distance_of G run) && allowed G new) new run

  -- for the first call i of the stretch, each last call in turn
  unfoldable pub tried_all : ℕ → List ℕ → List ℕ → List ℕ
  tried_all i [] run = run
  tried_all i (j ∷ js) run = tried_all i js (tried i j run)

  -- a pass: each i in turn, and for it each j above it
  unfoldable pub pass_from : ℕ → List ℕ → List ℕ → List ℕ
  pass_from n [] run = run
  pass_from n (i ∷ is) run = pass_from n is (tried_all i (count (suc i) (n - suc i)) run)

  unfoldable pub pass : List ℕ → List ℕ
  pass run = pass_from (length run) (count 0 (length run - 1)) run

  -- passes until one takes no reversal; each that takes one lowers the distance, which bounds how many there are
  unfoldable pub passes : ℕ → List ℕ → List ℕ
  passes zero run = run
  passes (suc bound) run =
      let new = pass run in
      let more = passes bound new in
      cond (ltb (distance_of G new) (distance_of G run)) more run

  -- the calls that two_opt_improve gives
  unfoldable pub improved : List ℕ → List ℕ
  improved run = passes (distance_of G run) run

  -- and the distance that it gives beside them
  abbrev pub improved_distance : List ℕ → ℕ
  improved_distance run = distance_of G (improved run)
