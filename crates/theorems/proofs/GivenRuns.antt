-- The runs of a run list with break places: what the tests of run ends and break places leave of each. Assumes nothing.
use Prim.Native.Nat.{ℕ, zero, suc, ◌+◌, ◌-◌, ◌≤◌}
use native.Mathlib.Omega.{arith}
use native.Mathlib.Nat.{not-suc-le-zero}
use mathlib.Core.Path.{◌≡◌, refl, sym, ap, subst}
use mathlib.Core.Bool.{true, false, cond, not}
use mathlib.Core.List.{List, [], ◌∷◌}
use lib.ListN.{length, take, drop, length-drop}
use lib.Seq.{length-take-le}
use lib.Dec.{ltb, eqb}
use borrow.Author.Tests.{ltb-false, eqb-false, eqb-true}
use Rattle.basics.proofs.TestLaws.{or_left, or_right, not-false}
use Rattle.basics.specs.Options.{present}
use Rattle.basics.specs.Lists.{is_empty, All}
use Rattle.definitions.specs.Sheet.{Sheet}
use Rattle.definitions.specs.Run.{Run}
use Rattle.definitions.specs.RunList.{runs_from}
use Rattle.definitions.specs.Cutting.{calls_in}
use Rattle.definitions.specs.Marker.{with_places}
use Rattle.definitions.specs.Marks.{Proper}
use Rattle.definitions.specs.Refusals.{ends_fall, empty_run, break_beyond}
use Rattle.theorems.proofs.RunListLaws.{RiseTo, rise-le}

-- ends that do not fall, and whose last is the number of calls
pub rises : (p : ℕ) (ends : List ℕ) (n : ℕ) → ends_fall p ends n ≡ false → RiseTo p ends n
rises p [] n h = eqb-true p n (not-false (eqb p n) h)
rises p (e ∷ ends) n h = (ltb-false e p (or_left (ltb e p) (ends_fall e ends n) h), rises e ends n (or_right (ltb e p) (ends_fall e ends n) h))

pub with-calls : (rs : List (List ℕ)) (places : List ℕ) → calls_in (with_places rs places) ≡ rs
with-calls [] places = refl
with-calls (r ∷ rs) [] = ap (λ (l : List (List ℕ)). r ∷ l) (with-calls rs [])
with-calls (r ∷ rs) (p ∷ places) = ap (λ (l : List (List ℕ)). r ∷ l) (with-calls rs places)

-- what each list of calls has, its run has, whatever its break place
-- as many places as runs are read
pub with_first : (rs : List (List ℕ)) (places : List ℕ) (n : ℕ) → length rs ≤ n → with_places rs (take n places) ≡ with_places rs places
with_first [] places n h = refl
with_first (r ∷ rs) places zero h = absurd (not-suc-le-zero h)
with_first (r ∷ rs) [] (suc n) h = refl
with_first (r ∷ rs) (p ∷ places) (suc n) h = ap (λ (l : List Run). record { calls = r; place = p } ∷ l) (with_first rs places n (omega (arith, h)))

pub runs-many : (p : ℕ) (calls ends : List ℕ) → length (runs_from p calls ends) ≡ length ends
unfolding runs_from
runs-many p calls [] = refl
runs-many p calls (e ∷ ends) = ap suc (runs-many e (drop (e - p) calls) ends)

pub with_all : (P : List ℕ → Type 0) (rs : List (List ℕ)) (places : List ℕ) → All P rs → All (λ (r : Run). P r.calls) (with_places rs places)
with_all P [] places a = tt
with_all P (r ∷ rs) [] a = (a.0, with_all P rs [] a.1)
with_all P (r ∷ rs) (p ∷ places) a = (a.0, with_all P rs places a.1)

-- a run has a call
abbrev pub Filled : List ℕ → Type 0
Filled calls = not (is_empty calls) ≡ true

some-taken : (k : ℕ) (l : List ℕ) → 1 ≤ k → 1 ≤ length l → Filled (take k l)
some-taken zero l h g = absurd (not-suc-le-zero h)
some-taken (suc k) [] h g = absurd (not-suc-le-zero g)
some-taken (suc k) (x ∷ l) h g = refl

-- the first run: it has a call, is as long as its ends say, and the ends go on rising
module _ (p : ℕ) (calls : List ℕ) (e : ℕ) (ends : List ℕ) (h : RiseTo p (e ∷ ends) (p + length calls)) where
  within : e ≤ p + length calls
  within = rise-le e ends (p + length calls) h.1

  first-filled : (e ≡ p → ⊥) → Filled (take (e - p) calls)
  first-filled other = some-taken (e - p) calls (omega (arith, h.0, within, other)) (omega (arith, h.0, within, other))

  first-long : length (take (e - p) calls) ≡ e - p
  first-long = length-take-le (e - p) calls (omega (arith, h.0, within))

  rises-on : RiseTo e ends (e + length (drop (e - p) calls))
  rises-on = subst (λ (n : ℕ). RiseTo e ends n) (omega (arith, length-drop (e - p) calls, h.0, within)) h.1

pub runs-filled : (p : ℕ) (calls ends : List ℕ) → RiseTo p ends (p + length calls) → empty_run p ends ≡ false → All Filled (runs_from p calls ends)
unfolding runs_from
runs-filled p calls [] h f = tt
runs-filled p calls (e ∷ ends) h f = (
  first-filled p calls e ends h (eqb-false e p (or_left (eqb e p) (empty_run e ends) f)),
  runs-filled e (drop (e - p) calls) ends (rises-on p calls e ends h) (or_right (eqb e p) (empty_run e ends) f),
)

-- no run is empty, and each break place is one of its run's calls, or 0; on a sheet without a break it is 0
pub runs-proper : (s : Sheet) (p : ℕ) (calls ends places : List ℕ) → RiseTo p ends (p + length calls) → empty_run p ends ≡ false → break_beyond (present s.head.rest) p ends places ≡ false
    → All (Proper s) (with_places (runs_from p calls ends) places)
unfolding runs_from
runs-proper s p calls [] places h f b = tt
runs-proper s p calls (e ∷ ends) [] h f b = (
  record { placeable = omega arith; some-calls = first-filled p calls e ends h (eqb-false e p (or_left (eqb e p) (empty_run e ends) f)) },
  runs-proper s e (drop (e - p) calls) ends [] (rises-on p calls e ends h) (or_right (eqb e p) (empty_run e ends) f) (nothing-beyond e ends),
)
  where
    nothing-beyond : (q : ℕ) (es : List ℕ) → break_beyond (present s.head.rest) q es [] ≡ false
    nothing-beyond q [] = refl
    nothing-beyond q (x ∷ es) = refl
runs-proper s p calls (e ∷ ends) (k ∷ places) h f b =
    let on = or_right (ltb (cond (present s.head.rest) (e - p) 0) k) (break_beyond (present s.head.rest) e ends places) b in (
      record {
        placeable = subst (λ (n : ℕ). k ≤ cond (present s.head.rest) n 0) (sym (first-long p calls e ends h))
            (ltb-false (cond (present s.head.rest) (e - p) 0) k (or_left (ltb (cond (present s.head.rest) (e - p) 0) k) (break_beyond (present s.head.rest) e ends places) b));
        some-calls = first-filled p calls e ends h (eqb-false e p (or_left (eqb e p) (empty_run e ends) f));
      },
      runs-proper s e (drop (e - p) calls) ends places (rises-on p calls e ends h) (or_right (eqb e p) (empty_run e ends) f) on,
    )
