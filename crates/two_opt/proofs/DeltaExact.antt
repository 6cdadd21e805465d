-- On a sheet within the limits that closes no leg, held in floats, the change that a reversal makes is the whole-number difference of the two distances. Assumes nothing.
use Prim.Native.Nat.{ℕ, zero, suc, zero-le, ◌+◌, ◌-◌, ◌*◌, ◌<◌, ◌≤◌}
use native.Mathlib.Nat.{zero-add, add-zero, add_assoc}
use native.Mathlib.Omega.{arith}
use mathlib.Core.Path.{◌≡◌, refl, sym, ap, ap₂, subst, ◌∙◌}
use mathlib.Core.Bool.{Bool, true, false}
use mathlib.Core.List.{List, [], ◌∷◌, ◌++◌, reverse}
use Rattle.std.specs.Prelude.{Some}
use lib.ListN.{length, get_or, take, drop, length-take, length-drop, take-append-drop}
use lib.Seq.{drop-cons, get_or-drop, drop-drop}
use lib.Dec.{ltb}
use borrow.Author.Tests.{ltb-true, ltb-false, lt-ltb, le-ltb}
use lib.Ieee as Ieee
use lib.Ieee.{Float, binary64}
use Rattle.basics.proofs.TestLaws.{by-test}
use Rattle.basics.specs.Lists.{All}
use Rattle.definitions.specs.Domain.{most_calls, most_number}
use Rattle.definitions.specs.Sheet.{Sheet}
use Rattle.definitions.specs.Improver.{Given, open_leg, given_of, distance_of}
use Rattle.definitions.specs.Refusals.{any_closed}
use Rattle.definitions.specs.TwoOpt.{turned}
use Rattle.theorems.proofs.LegLaws.{final, first, gone, back, reversal-gain}
use Rattle.bounds.specs.Sized.{Small, Sized, Place}
use Rattle.bounds.proofs.Inside.{depot-inside, call-inside}
use Rattle.bounds.proofs.BoundLaws.{open-small}
use Rattle.basics.proofs.ListLaws.{all_take, all_drop}
use Rattle.whole.specs.Whole.{fl, limit}
use Rattle.whole.proofs.WholeLaws.{fl-add}
use Rattle.whole.specs.Difference.{diff}
use Rattle.whole.proofs.DifferenceLaws.{diff-same, diff-fl, fl-diff, diff-add, diff-add-fl}
use Rattle.whole.specs.Gain.{gain_floor_f}
use Rattle.whole.proofs.GainLaws.{reversal-test}
use Rattle.evaluation.specs.Records.{Tables}
use Rattle.evaluation.specs.Tables.{place_before}
use Rattle.evaluation.specs.Image.{Image}
use Rattle.improve_base.specs.Leg.{distance_f}
use Rattle.improve_base.proofs.LegExact.{distance-exact}
use Rattle.two_opt.specs.Delta.{place_behind, turned_legs_f, reversal_delta_f, ends_f, delta_f}

-- ---- a run in three parts: what is before a stretch, the stretch, and what is behind it

final-take : (p : ℕ) (run : List ℕ) (k : ℕ) → k < length run → final p (take (suc k) run) ≡ get_or run k 0
final-take p [] k h = absurd (none h)
  where
    none : k < 0 → ⊥
    none x = omega arith
final-take p (c ∷ cs) zero h = refl
final-take p (c ∷ cs) (suc k) h = final-take c cs k (omega arith)

before-is : (run : List ℕ) (i : ℕ) → i < length run → final 0 (take i run) ≡ place_before run i
unfolding place_before
before-is run zero h = refl
before-is run (suc k) h = final-take 0 run k (omega arith)

first-drop : (run : List ℕ) (k : ℕ) → first (drop k run) ≡ get_or run k 0
first-drop [] zero = refl
first-drop [] (suc k) = refl
first-drop (c ∷ cs) zero = refl
first-drop (c ∷ cs) (suc k) = first-drop cs k

-- the stretch from i up to and with j, after its first call
abbrev pub inner : ℕ → ℕ → List ℕ → List ℕ
inner i j run = take (j - i) (drop (suc i) run)

module _ (run : List ℕ) (i j : ℕ) (h : i < j) (l : j < length run) where
  pub stretch-is : take (suc j - i) (drop i run) ≡ get_or run i 0 ∷ inner i j run
  stretch-is = let n : suc j - i ≡ suc (j - i) = omega arith in rw (n, drop-cons run i 0 (omega arith))

  last-is : final (get_or run i 0) (inner i j run) ≡ get_or run j 0
  last-is =
      let k = j - suc i in
      let n : j - i ≡ suc k = omega arith in
      let m : suc i + k ≡ j = omega arith in
      rw n (final-take (get_or run i 0) (drop (suc i) run) k (omega (arith, length-drop (suc i) run)) ∙ get_or-drop (suc i) run k 0 ∙ rw m)

  behind-is : first (drop (suc j - i) (drop i run)) ≡ place_behind run j
  behind-is = let n : i + (suc j - i) ≡ suc j = omega arith in rw (drop-drop (suc j - i) i run, n) (first-drop run (suc j))

  run_is : run ≡ take i run ++ (get_or run i 0 ∷ (inner i j run ++ drop (suc j - i) (drop i run)))
  run_is =
      sym (take-append-drop i run)
      ∙ ap (λ (r : List ℕ). take i run ++ r) (sym (take-append-drop (suc j - i) (drop i run)) ∙ ap (λ (r : List ℕ). r ++ drop (suc j - i) (drop i run)) stretch-is)

  turned-is : turned i j run ≡ take i run ++ (reverse (get_or run i 0 ∷ inner i j run) ++ drop (suc j - i) (drop i run))
  turned-is = ap (λ (r : List ℕ). take i run ++ (reverse r ++ drop (suc j - i) (drop i run))) stretch-is

  -- the two distances differ by the legs on both sides of the stretch and by its own
  pub turned-gain : (G : Given)
      → distance_of G (turned i j run) + (G.leg (place_before run i) (get_or run i 0) + G.leg (get_or run j 0) (place_behind run j)) + gone G (get_or run i 0) (inner i j run)
      ≡ distance_of G run + (G.leg (place_before run i) (get_or run j 0) + G.leg (get_or run i 0) (place_behind run j)) + back G (get_or run i 0) (inner i j run)
  turned-gain G =
      let x = get_or run i 0 in
      let L = reversal-gain G (take i run) x (inner i j run) (drop (suc j - i) (drop i run)) in
      let M = rw (before-is run i (omega arith), last-is, behind-is, ← turned-is) at L in
      M ∙ ap (λ (r : List ℕ). distance_of G r + (G.leg (place_before run i) (get_or run j 0) + G.leg x (place_behind run j)) + back G x (inner i j run)) (sym run_is)

-- ---- sums that are held in floats

-- a difference of sums decides as the distances do
same-order : (new old turn there d e : ℕ) → e + old + there ≡ d + new + turn → ltb (new + turn) (old + there) ≡ ltb e d
same-order new old turn there d e h =
    by-test (ltb e d) (λ t. let k = ltb-true e d t in rw t (lt-ltb (new + turn) (old + there) (omega arith)))
    (λ f. let k = ltb-false e d f in rw f (le-ltb (new + turn) (old + there) (omega arith)))

module _ (s : Sheet) (S : Sized s) (O : any_closed Some s.legs ≡ false) (t : Tables) (I : Image s t) where
  abbrev G : Given
  G = given_of s

  abbrev leg : ℕ → ℕ → Float
  leg = distance_f t

  -- ---- the legs of a stretch

  gone-most : (x : ℕ) (calls : List ℕ) → gone G x calls ≤ length calls * most_number
  gone-most x [] = zero-le
  gone-most x (c ∷ cs) = omega (arith, gone-most c cs, open-small s S x c)

  back-most : (x : ℕ) (calls : List ℕ) → back G x calls ≤ length calls * most_number
  back-most x [] = zero-le
  back-most x (c ∷ cs) = omega (arith, back-most c cs, open-small s S c x)

  turned-legs-exact : (a b x : ℕ) (calls : List ℕ) → Place s x → All (Place s) calls → a + back G x calls ≤ limit → b + gone G x calls ≤ limit
      → turned_legs_f leg (diff a b) x calls ≡ diff (a + back G x calls) (b + gone G x calls)
  unfolding turned_legs_f
  turned-legs-exact a b x [] p i h k = ap₂ diff (sym (add-zero a)) (sym (add-zero b))
  turned-legs-exact a b x (c ∷ cs) p i h k =
      let there = open_leg s x c in
      let turn = open_leg s c x in
      rw (
        distance-exact s S O t I c x i.0 p,
        distance-exact s S O t I x c p i.0,
        fl-diff turn there (omega (arith, open-small s S c x)) (omega (arith, open-small s S x c)),
        diff-add a b turn there (omega arith) (omega arith) (omega (arith, open-small s S c x)) (omega (arith, open-small s S x c)),
      )
      (turned-legs-exact (a + turn) (b + there) c cs i.0 i.1 (omega arith) (omega arith)
      ∙ ap₂ diff (add_assoc a turn (back G c cs)) (add_assoc b there (gone G c cs)))

  -- where legs are as long both ways, those of the stretch are as long the other way round
  back-same : (P : ℕ → Type 0) → ((a b : ℕ) → P a → P b → open_leg s a b ≡ open_leg s b a) → (x : ℕ) (calls : List ℕ) → P x → All P calls → back G x calls ≡ gone G x calls
  back-same P same x [] p i = refl
  back-same P same x (c ∷ cs) p i = ap₂ ◌+◌ (same c x i.0 p) (back-same P same c cs i.0 i.1)

  -- ---- a reversal

  module _ (run : List ℕ) (few : length run ≤ most_calls) (inside : All (Place s) run) (i j : ℕ) (h : i < j) (l : j < length run) where
    abbrev x : ℕ
    x = get_or run i 0

    abbrev y : ℕ
    y = get_or run j 0

    abbrev p : ℕ
    p = place_before run i

    abbrev q : ℕ
    q = place_behind run j

    -- the legs on both sides of the stretch, as they are and after the reversal
    abbrev old : ℕ
    old = open_leg s p x + open_leg s y q

    abbrev new : ℕ
    new = open_leg s p y + open_leg s x q

    x-inside : Place s x
    x-inside = call-inside s S run i inside

    y-inside : Place s y
    y-inside = call-inside s S run j inside

    q-inside : Place s q
    q-inside = call-inside s S run (suc j) inside

    p-inside : Place s p
    unfolding place_before
    p-inside = go i
      where
        go : (k : ℕ) → Place s (place_before run k)
        go zero = depot-inside s S
        go (suc k) = call-inside s S run k inside

    inner-inside : All (Place s) (inner i j run)
    inner-inside = all_take (Place s) (j - i) (drop (suc i) run) (all_drop (Place s) (suc i) run inside)

    inner-short : length (inner i j run) ≤ most_calls
    inner-short = omega (arith, length-take (j - i) (drop (suc i) run), length-drop (suc i) run)

    ends-exact : (a b : ℕ) → Place s a → Place s b → ends_f leg p a b q ≡ fl (open_leg s p a + open_leg s b q)
    ends-exact a b u v =
        rw (distance-exact s S O t I p a p-inside u, distance-exact s S O t I b q v q-inside)
        (fl-add (open_leg s p a) (open_leg s b q) (omega (arith, open-small s S p a)) (omega (arith, open-small s S b q)))

    sides-exact : Ieee.sub binary64 (ends_f leg p y x q) (ends_f leg p x y q) ≡ diff new old
    sides-exact =
        rw (ends-exact y x y-inside x-inside, ends-exact x y x-inside y-inside)
        (fl-diff new old (omega (arith, open-small s S p y, open-small s S x q)) (omega (arith, open-small s S p x, open-small s S y q)))

    -- the stretch's own legs, there and back
    abbrev there : ℕ
    there = gone G x (inner i j run)

    abbrev turn : ℕ
    turn = back G x (inner i j run)

    legs-exact : reversal_delta_f leg false (take (suc j - i) (drop i run)) ≡ diff turn there
    unfolding reversal_delta_f
    legs-exact =
        rw (stretch-is run i j h l)
        (ap (λ (sum : Float). turned_legs_f leg sum x (inner i j run)) (sym (diff-fl 0))
        ∙ turned-legs-exact 0 0 x (inner i j run) x-inside inner-inside (omega (arith, back-most x (inner i j run), inner-short)) (omega (arith, gone-most x (inner i j run), inner-short))
        ∙ ap₂ diff (zero-add turn) (zero-add there))

    module _ (P : ℕ → Type 0) (among : All P run) (symmetric : Bool) (same : symmetric ≡ true → (a b : ℕ) → P a → P b → open_leg s a b ≡ open_leg s b a) where
      turn-same : symmetric ≡ true → turn ≡ there
      turn-same e =
          let A = subst (All P) (stretch-is run i j h l) (all_take P (suc j - i) (drop i run) (all_drop P i run among)) in
          back-same P (same e) x (inner i j run) A.0 A.1

      pub delta-exact : delta_f leg symmetric i j run ≡ diff (new + turn) (old + there)
      unfolding delta_f reversal_delta_f
      delta-exact =
          by-test symmetric
          (λ e. rw (e, sides-exact)
          (diff-add-fl new old 0 (omega (arith, open-small s S p y, open-small s S x q)) (omega (arith, open-small s S p x, open-small s S y q)) zero-le
          ∙ diff-same (new + 0) old (new + turn) (old + there) (omega (arith, turn-same e))))
          (λ e. rw (e, sides-exact, legs-exact)
          (diff-add new old turn there (omega (arith, open-small s S p y, open-small s S x q)) (omega (arith, open-small s S p x, open-small s S y q))
          (omega (arith, back-most x (inner i j run), inner-short)) (omega (arith, gone-most x (inner i j run), inner-short))))

      -- it is below the least gain exactly when the distance falls
      pub gain-exact : (most : ℕ) → Small most → Ieee.lt (delta_f leg symmetric i j run) (Ieee.neg (gain_floor_f (fl most))) ≡ ltb (distance_of G (turned i j run)) (distance_of G run)
      gain-exact most m =
          rw delta-exact
          (reversal-test most (new + turn) (old + there) m
          (omega (arith, open-small s S p y, open-small s S x q, back-most x (inner i j run), inner-short))
          (omega (arith, open-small s S p x, open-small s S y q, gone-most x (inner i j run), inner-short))
          ∙ same-order new old turn there (distance_of G run) (distance_of G (turned i j run)) (turned-gain run i j h l G))

      -- added to the distance of the run it gives that of the run that it makes
      pub far-exact : distance_of G run ≤ limit → Ieee.add binary64 (fl (distance_of G run)) (delta_f leg symmetric i j run) ≡ fl (distance_of G (turned i j run))
      far-exact d =
          let a = new + turn in
          let b = old + there in
          rw delta-exact
          (ap (λ (z : Float). Ieee.add binary64 z (diff a b)) (sym (diff-fl (distance_of G run)))
          ∙ diff-add (distance_of G run) 0 a b d zero-le
          (omega (arith, open-small s S p y, open-small s S x q, back-most x (inner i j run), inner-short))
          (omega (arith, open-small s S p x, open-small s S y q, gone-most x (inner i j run), inner-short))
          ∙ diff-same (distance_of G run + a) (0 + b) (distance_of G (turned i j run)) 0 (omega (arith, turned-gain run i j h l G))
          ∙ diff-fl (distance_of G (turned i j run)))
