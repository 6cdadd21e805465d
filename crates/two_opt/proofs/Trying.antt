-- A reversal inside the lent list: it makes a run that is allowed, or is turned back. Assumes nothing.
use Prim.Native.Nat.{ℕ, suc, ◌+◌, ◌-◌, ◌<◌, ◌≤◌}
use native.Mathlib.Numerals.{add-one}
use native.Mathlib.Omega.{arith}
use mathlib.Core.Path.{◌≡◌, sym, ap, ap₂, ◌∙◌}
use mathlib.Core.Bool.{Bool, true, false, cond, not}
use mathlib.Core.List.{List, ◌++◌, reverse, reverse-reverse}
use lib.ListN.{length, take, drop, length-append, length-take, length-drop, length-reverse, take-append-drop}
use lib.Seq.{take_at, drop_at, length-take-le}
use lib.Ieee as Ieee
use lib.Ieee.{Float, binary64}
use Rattle.basics.proofs.TestLaws.{by-test}
use Rattle.definitions.specs.TwoOpt.{turned}
use Rattle.models.specs.Limits.{within_f}
use Rattle.evaluation.specs.Records.{Tables}
use Rattle.improve_base.specs.Leg.{distance_f}
use Rattle.two_opt.specs.Rules.{RulesF}
use Rattle.improve_base.specs.Prefix.{PrefixF, feasible_from_f, Leads}
use Rattle.improve_base.proofs.Leading.{asked}
use Rattle.two_opt.specs.Delta.{delta_f}
use Rattle.improve_base.specs.Route.{far_f}
use Rattle.two_opt.specs.TwoOpt.{State, state, gains_f, too_far_f, allowed_f, reversed_f}

-- ---- the stretch inside the lent list

-- the run with `part` in the place of its calls from i up to and with j
abbrev pub put : ℕ → ℕ → List ℕ → List ℕ → List ℕ
put i j run part = take i run ++ (part ++ drop (j + 1 - i) (drop i run))

-- and those calls, turned
abbrev pub turned_part : ℕ → ℕ → List ℕ → List ℕ
turned_part i j run = reverse (take (j + 1 - i) (drop i run))

pub put-turned : (i j : ℕ) (run part : List ℕ) → part ≡ turned_part i j run → put i j run part ≡ turned i j run
put-turned i j run part e = rw (e, add-one j)

module _ (i j : ℕ) (run : List ℕ) (h : i < j) (l : j < length run) where
  before-long : length (take i run) ≡ i
  before-long = length-take-le i run (omega arith)

  stretch-long : length (reverse (take (suc j - i) (drop i run))) ≡ suc j - i
  stretch-long = length-reverse (take (suc j - i) (drop i run)) ∙ length-take-le (suc j - i) (drop i run) (omega (arith, length-drop i run))

  pub length-turned : length (turned i j run) ≡ length run
  length-turned =
      omega (
        arith,
        length-append (take i run) (reverse (take (suc j - i) (drop i run)) ++ drop (suc j - i) (drop i run)),
        length-append (reverse (take (suc j - i) (drop i run))) (drop (suc j - i) (drop i run)),
        length-drop (suc j - i) (drop i run),
        length-drop i run,
        before-long,
        stretch-long,
      )

  -- turned and turned back
  turned-back : turned i j (turned i j run) ≡ run
  turned-back =
      let m = take (suc j - i) (drop i run) in
      let z = drop (suc j - i) (drop i run) in
      let front : take i (turned i j run) ≡ take i run = take_at (take i run) (reverse m ++ z) i before-long in
      let rest : drop i (turned i j run) ≡ reverse m ++ z = drop_at (take i run) (reverse m ++ z) i before-long in
      rw (front, rest, take_at (reverse m) z (suc j - i) stretch-long, drop_at (reverse m) z (suc j - i) stretch-long, reverse-reverse m, take-append-drop (suc j - i) (drop i run))
      (take-append-drop i run)

-- ---- the ways

module _ (t : Tables) (s : RulesF) (i j : ℕ) (run : List ℕ) (b : Bool) where
  module _ (part : List ℕ) (e : part ≡ turned_part i j run) where
    turned-allowed : (a : Bool) → allowed_f t s (put i j run part) ≡ a → allowed_f t s (turned i j run) ≡ a
    turned-allowed a h = ap (allowed_f t s) (sym (put-turned i j run part e)) ∙ h

    -- a run that is allowed
    pub made : too_far_f (distance_f t) s i j run ≡ false → allowed_f t s (put i j run part) ≡ true → state (put i j run part) true ≡ reversed_f t s i j (state run b)
    unfolding reversed_f
    made near h = let y = turned-allowed true h in rw (near, y, put-turned i j run part e)

    -- one that is not is turned back
    pub put_back : i < j → j < length run → (again : List ℕ) → again ≡ turned_part i j (put i j run part) → put i j (put i j run part) again ≡ run
    put_back h l again k = put-turned i j (put i j run part) again k ∙ ap (turned i j) (put-turned i j run part e) ∙ turned-back i j run h l

    pub undone : too_far_f (distance_f t) s i j run ≡ false → i < j → j < length run → allowed_f t s (put i j run part) ≡ false → (again : List ℕ) → again ≡ turned_part i j (put i j run part)
        → state (put i j (put i j run part) again) b ≡ reversed_f t s i j (state run b)
    unfolding reversed_f
    undone near h l n again k = let no = turned-allowed false n in ap (λ (r : List ℕ). state r b) (put_back h l again k) ∙ rw (near, no)

  -- a run that would be too long is left as it is
  pub refused : too_far_f (distance_f t) s i j run ≡ true → state run b ≡ reversed_f t s i j (state run b)
  unfolding reversed_f
  refused far = rw far

  -- in each way the calls before i stay
  pub kept : i ≤ length run → (new : List ℕ) (c : Bool) → state new c ≡ reversed_f t s i j (state run b) → take i new ≡ take i run
  unfolding reversed_f
  kept h new c e =
      let turn : take i (turned i j run) ≡ take i run = take_at (take i run) (reverse (take (suc j - i) (drop i run)) ++ drop (suc j - i) (drop i run)) i (length-take-le i run h) in
      let front : State → List ℕ = λ x. take i x.run in
      by-test (too_far_f (distance_f t) s i j run) (λ far. ap front (rw far at e))
      (λ near. by-test (allowed_f t s (turned i j run)) (λ y. ap front (rw (near, y) at e) ∙ turn) (λ n. ap front (rw (near, n) at e)))

-- how much is left of a run from call i on, once the calls from i up to and with j are turned
pub left-long : (i j : ℕ) (run part : List ℕ) → part ≡ turned_part i j run → i < j → j < length run
    → length (take (length (put i j run part) - i) (drop i (put i j run part))) ≡ length run - i
left-long i j run part e h l =
    let new = put i j run part in
    let long : length new ≡ length run = ap length (put-turned i j run part e) ∙ length-turned i j run h l in
    omega (arith, length-take (length new - i) (drop i new), length-drop i new, long)

-- whether a run that keeps the first i calls is allowed, asked from there on
pub allowed-from : (t : Tables) (s : RulesF) (i : ℕ) (run behind : List ℕ) (b : PrefixF) → i ≤ length run → Leads t s.limits (take i run) b
    → (r : Bool) → r ≡ cond s.constrained (feasible_from_f t s.limits b (take (length (take i run ++ behind) - i) (drop i (take i run ++ behind)))) true
    → allowed_f t s (take i run ++ behind) ≡ r
allowed-from t s i run behind b h L r e = by-test s.constrained (λ y. rw y (asked t s.limits i run behind b h L r (e ∙ rw y))) (λ n. rw n (sym (e ∙ rw n)))

-- ---- the tests before it

module _ (leg : ℕ → ℕ → Float) (s : RulesF) (i j : ℕ) (run : List ℕ) (delta : Float) (d : delta ≡ delta_f leg s.symmetric i j run) where
  pub gains-asked : (r : Bool) → r ≡ Ieee.lt delta (Ieee.neg s.floor) → gains_f leg s i j run ≡ r
  gains-asked r e = sym (e ∙ ap (λ (x : Float). Ieee.lt x (Ieee.neg s.floor)) d)

  pub far-asked : (far : Float) → far ≡ far_f s.limits leg run → (r : Bool) → r ≡ not (within_f s.limits.max_distance (Ieee.add binary64 far delta)) → too_far_f leg s i j run ≡ r
  unfolding too_far_f
  far-asked far f r e = sym (e ∙ ap₂ (λ (x y : Float). not (within_f s.limits.max_distance (Ieee.add binary64 x y))) f d)
