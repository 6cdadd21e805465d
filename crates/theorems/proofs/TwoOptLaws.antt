-- What two_opt_improve gives: the same calls, a distance that never rises, an allowed run where it changes the run, and a run at which a pass changes nothing.
use Prim.Native.Nat.{ℕ, zero, suc, ◌+◌, ◌-◌, ◌≤◌, ◌<◌}
use native.Mathlib.Omega.{arith}
use mathlib.Core.Path.{◌≡◌, refl, sym, ap, subst, ◌∙◌}
use mathlib.Core.Logic.{◌⊎◌, inl, inr}
use mathlib.Core.Bool.{true, false}
use mathlib.Core.List.{List, [], ◌∷◌, ◌++◌, reverse}
use lib.ListN.{length, take, drop}
use lib.Dec.{ltb, eqb}
use borrow.Author.Tests.{ltb-true, ltb-false, le-ltb, eqb-true, eqb-false}
use Rattle.basics.proofs.TestLaws.{by-test}
use Rattle.basics.specs.Lists.{count, Same, All}
use Rattle.basics.proofs.ListLaws.{sum-append}
use Rattle.definitions.specs.Improver.{Given, distance_of, allowed}
use Rattle.definitions.specs.TwoOpt.{turned, tried, tried_all, pass_from, pass, passes, improved}
use Rattle.theorems.proofs.Sums.{sum-reverse, sum-split}

-- a reversal keeps the calls
pub turned_same : (i j : ℕ) (run : List ℕ) → Same (turned i j run) run
turned_same i j run f =
    let n : ℕ = suc j - i in
    omega (
      arith,
      sum-append f (take i run) (reverse (take n (drop i run)) ++ drop n (drop i run)),
      sum-append f (reverse (take n (drop i run))) (drop n (drop i run)),
      sum-reverse f (take n (drop i run)),
      sum-split f n (drop i run),
      sum-split f i run,
    )

-- what holds of all of k, k + 1 and so on, n numbers, holds of each
counted : (P : ℕ → Type 0) (k n : ℕ) → All P (count k n) → (i : ℕ) → k ≤ i → i < k + n → P i
counted P k zero a i h l = absurd (none h l)
  where
    none : k ≤ i → i < k + 0 → ⊥
    none x y = omega arith
counted P k (suc n) a i h l =
    by-test (eqb k i)
    (λ t. subst P (eqb-true k i t) a.0)
    (λ f. counted P (suc k) n a.1 i (above (eqb-false k i f)) (omega arith))
  where
    above : (k ≡ i → ⊥) → suc k ≤ i
    above x = omega arith

module _ (G : Given) where
  -- from the run `old` to the run `new`
  pub record Improves (old new : List ℕ) : Type 0 where
    pub same : Same new old
    pub change : (new ≡ old) ⊎ ((distance_of G new < distance_of G old) × (allowed G new ≡ true))

  stays : (run : List ℕ) → Improves run run
  stays run = record { same = λ f. refl; change = inl refl }

  then : {a b c : List ℕ} → Improves a b → Improves b c → Improves a c
  then {a} {b} {c} p q = record { same = λ f. q.same f ∙ p.same f; change = go p.change q.change }
    where
      go : (b ≡ a) ⊎ ((distance_of G b < distance_of G a) × (allowed G b ≡ true)) → (c ≡ b) ⊎ ((distance_of G c < distance_of G b) × (allowed G c ≡ true))
          → (c ≡ a) ⊎ ((distance_of G c < distance_of G a) × (allowed G c ≡ true))
      go (inl e) (inl e') = inl (e' ∙ e)
      go (inl e) (inr h) = inr (subst (λ (r : List ℕ). distance_of G c < distance_of G r) e h.0, h.1)
      go (inr h) (inl e') = inr (subst (λ (r : List ℕ). (distance_of G r < distance_of G a) × (allowed G r ≡ true)) (sym e') h)
      go (inr h) (inr h') = inr (below h.0 h'.0, h'.1)
        where
          below : distance_of G b < distance_of G a → distance_of G c < distance_of G b → distance_of G c < distance_of G a
          below x y = omega arith

  tried-improves : (i j : ℕ) (run : List ℕ) → Improves run (tried G i j run)
  unfolding tried
  tried-improves i j run =
      let new = turned i j run in
      by-test (ltb (distance_of G new) (distance_of G run))
      (λ t. by-test (allowed G new)
      (λ a. rw (t, a) (record { same = turned_same i j run; change = inr (ltb-true (distance_of G new) (distance_of G run) t, a) }))
      (λ a. rw (t, a) (stays run)))
      (λ n. rw n (stays run))

  tried_all-improves : (i : ℕ) (js run : List ℕ) → Improves run (tried_all G i js run)
  unfolding tried_all
  tried_all-improves i [] run = stays run
  tried_all-improves i (j ∷ js) run = then (tried-improves i j run) (tried_all-improves i js (tried G i j run))

  pass_from-improves : (n : ℕ) (is run : List ℕ) → Improves run (pass_from G n is run)
  unfolding pass_from
  pass_from-improves n [] run = stays run
  pass_from-improves n (i ∷ is) run =
      let js = count (suc i) (n - suc i) in
      then (tried_all-improves i js run) (pass_from-improves n is (tried_all G i js run))

  pub pass-improves : (run : List ℕ) → Improves run (pass G run)
  unfolding pass
  pass-improves run = pass_from-improves (length run) (count 0 (length run - 1)) run

  -- a pass that does not lower the distance changes nothing
  pub pass-stays : (run : List ℕ) → ltb (distance_of G (pass G run)) (distance_of G run) ≡ false → pass G run ≡ run
  pass-stays run n = go (pass-improves run).change
    where
      go : (pass G run ≡ run) ⊎ ((distance_of G (pass G run) < distance_of G run) × (allowed G (pass G run) ≡ true)) → pass G run ≡ run
      go (inl e) = e
      go (inr h) = absurd (clash h.0 (ltb-false (distance_of G (pass G run)) (distance_of G run) n))
        where
          clash : distance_of G (pass G run) < distance_of G run → distance_of G run ≤ distance_of G (pass G run) → ⊥
          clash a b = omega arith

  passes-improves : (bound : ℕ) (run : List ℕ) → Improves run (passes G bound run)
  unfolding passes
  passes-improves zero run = stays run
  passes-improves (suc bound) run =
      by-test (ltb (distance_of G (pass G run)) (distance_of G run))
      (λ t. rw t (then (pass-improves run) (passes-improves bound (pass G run))))
      (λ n. rw n (stays run))

  -- the calls are those given; the run is the one given, or allowed with a lower distance
  pub improved-improves : (run : List ℕ) → Improves run (improved G run)
  unfolding improved
  improved-improves run = passes-improves (distance_of G run) run

  -- ---- it ends

  passes-end : (bound : ℕ) (run : List ℕ) → distance_of G run ≤ bound → pass G (passes G bound run) ≡ passes G bound run
  unfolding passes
  passes-end zero run h = pass-stays run (le-ltb (distance_of G (pass G run)) (distance_of G run) (omega arith))
  passes-end (suc bound) run h =
      by-test (ltb (distance_of G (pass G run)) (distance_of G run))
      (λ t. rw t (passes-end bound (pass G run) (omega (arith, ltb-true (distance_of G (pass G run)) (distance_of G run) t))))
      (λ n. rw n (pass-stays run n))

  -- at the result a pass changes nothing
  pub improved-ends : (run : List ℕ) → pass G (improved G run) ≡ improved G run
  unfolding improved
  improved-ends run = passes-end (distance_of G run) run (omega arith)

  -- more passes than enough change nothing
  passes-enough : (a b : ℕ) (run : List ℕ) → distance_of G run ≤ a → distance_of G run ≤ b → passes G a run ≡ passes G b run
  unfolding passes
  passes-enough zero zero run h k = refl
  passes-enough zero (suc b) run h k = rw (le-ltb (distance_of G (pass G run)) (distance_of G run) (omega arith)) refl
  passes-enough (suc a) zero run h k = rw (le-ltb (distance_of G (pass G run)) (distance_of G run) (omega arith)) refl
  passes-enough (suc a) (suc b) run h k =
      by-test (ltb (distance_of G (pass G run)) (distance_of G run))
      (λ t. let l = ltb-true (distance_of G (pass G run)) (distance_of G run) t in
      rw t (passes-enough a b (pass G run) (omega arith) (omega arith)))
      (λ n. rw n refl)

  -- a pass more or less does not matter, so a loop of passes may stop wherever one changes nothing
  pub improved-pass : (run : List ℕ) → improved G (pass G run) ≡ improved G run
  unfolding improved passes
  improved-pass run =
      by-test (ltb (distance_of G (pass G run)) (distance_of G run))
      (λ t. let l = ltb-true (distance_of G (pass G run)) (distance_of G run) t in
      let more : passes G (suc (distance_of G run)) run ≡ passes G (distance_of G run) (pass G run) = rw t refl in
      sym (passes-enough (distance_of G run) (suc (distance_of G run)) run (omega arith) (omega arith)
      ∙ more
      ∙ passes-enough (distance_of G run) (distance_of G (pass G run)) (pass G run) (omega arith) (omega arith)))
      (λ n. ap (λ (r : List ℕ). passes G (distance_of G r) r) (pass-stays run n))

  pub improved-done : (run : List ℕ) → pass G run ≡ run → improved G run ≡ run
  unfolding improved passes
  improved-done run e = go (distance_of G run)
    where
      stuck : ltb (distance_of G (pass G run)) (distance_of G run) ≡ false
      stuck = le-ltb (distance_of G (pass G run)) (distance_of G run) (omega (arith, ap (distance_of G) e))

      go : (d : ℕ) → passes G d run ≡ run
      go zero = refl
      go (suc d) = rw stuck refl

  -- ---- in plain words

  pub improved-same : (run : List ℕ) → Same (improved G run) run
  improved-same run = (improved-improves run).same

  pub improved-no-longer : (run : List ℕ) → distance_of G (improved G run) ≤ distance_of G run
  improved-no-longer run = go (improved-improves run).change
    where
      go : (improved G run ≡ run) ⊎ ((distance_of G (improved G run) < distance_of G run) × (allowed G (improved G run) ≡ true)) → distance_of G (improved G run) ≤ distance_of G run
      go (inl e) = omega (arith, ap (distance_of G) e)
      go (inr h) = omega (arith, h.0)

  -- an allowed run stays allowed; any other changes only into an allowed one
  pub improved-allowed : (run : List ℕ) → (improved G run ≡ run) ⊎ (allowed G (improved G run) ≡ true)
  improved-allowed run = go (improved-improves run).change
    where
      go : (improved G run ≡ run) ⊎ ((distance_of G (improved G run) < distance_of G run) × (allowed G (improved G run) ≡ true)) → (improved G run ≡ run) ⊎ (allowed G (improved G run) ≡ true)
      go (inl e) = inl e
      go (inr h) = inr h.1

  -- ---- at the result no reversal is left to take

  no-rise : {a b : List ℕ} → Improves a b → distance_of G b ≤ distance_of G a
  no-rise {a} {b} p = go p.change
    where
      go : (b ≡ a) ⊎ ((distance_of G b < distance_of G a) × (allowed G b ≡ true)) → distance_of G b ≤ distance_of G a
      go (inl e) = omega (arith, ap (distance_of G) e)
      go (inr h) = omega (arith, h.0)

  same-distance : {a b : List ℕ} → Improves a b → distance_of G a ≤ distance_of G b → b ≡ a
  same-distance {a} {b} p h = go p.change
    where
      go : (b ≡ a) ⊎ ((distance_of G b < distance_of G a) × (allowed G b ≡ true)) → b ≡ a
      go (inl e) = e
      go (inr k) = absurd (clash k.0)
        where
          clash : distance_of G b < distance_of G a → ⊥
          clash x = omega arith

  tried_all-fixed : (i : ℕ) (js run : List ℕ) → tried_all G i js run ≡ run → All (λ (j : ℕ). tried G i j run ≡ run) js
  unfolding tried_all
  tried_all-fixed i [] run e = tt
  tried_all-fixed i (j ∷ js) run e =
      let one : tried G i j run ≡ run =
      same-distance (tried-improves i j run) (omega (arith, ap (distance_of G) e, no-rise (tried_all-improves i js (tried G i j run)))) in
      (one, tried_all-fixed i js run (ap (λ (r : List ℕ). tried_all G i js r) (sym one) ∙ e))

  pass_from-fixed : (n : ℕ) (is run : List ℕ) → pass_from G n is run ≡ run → All (λ (i : ℕ). All (λ (j : ℕ). tried G i j run ≡ run) (count (suc i) (n - suc i))) is
  unfolding pass_from
  pass_from-fixed n [] run e = tt
  pass_from-fixed n (i ∷ is) run e =
      let js = count (suc i) (n - suc i) in
      let row : tried_all G i js run ≡ run =
      same-distance (tried_all-improves i js run) (omega (arith, ap (distance_of G) e, no-rise (pass_from-improves n is (tried_all G i js run)))) in
      (tried_all-fixed i js run row, pass_from-fixed n is run (ap (λ (r : List ℕ). pass_from G n is r) (sym row) ∙ e))

  pub no-reversal : (run : List ℕ) (i j : ℕ) → i < j → j < length (improved G run) → tried G i j (improved G run) ≡ improved G run
  unfolding pass
  no-reversal run i j h k =
      let r = improved G run in
      let n = length r in
      let all = pass_from-fixed n (count 0 (n - 1)) r (improved-ends run) in
      let row = counted (λ (a : ℕ). All (λ (b : ℕ). tried G a b r ≡ r) (count (suc a) (n - suc a))) 0 (n - 1) all i (omega arith) (omega arith) in
      counted (λ (b : ℕ). tried G i b r ≡ r) (suc i) (n - suc i) row j (omega arith) (omega arith)
