-- The stops of a run: their visits are those of the definitions, and the break starts by the arrival that the run has without it. Assumes nothing.
use Prim.Native.Nat.{ℕ, zero, suc, ◌+◌, ◌<◌}
use native.Mathlib.Omega.{arith}
use native.Mathlib.Nat.{not-suc-le-zero}
use mathlib.Core.Path.{◌≡◌, refl, sym, ap, ◌∙◌}
use mathlib.Core.List.{List, [], ◌∷◌, map}
use Rattle.std.specs.Prelude.{Option, None, Some}
use lib.ListN.{length, get_or}
use borrow.Author.Tests.{eq-eqb, ne_eqb}
use Rattle.basics.specs.Options.{or_else}
use Rattle.definitions.specs.Load.{Load, no_load, plus}
use Rattle.definitions.specs.Sheet.{Break, Sheet, customer}
use Rattle.definitions.specs.Run.{Label, break_at}
use Rattle.definitions.specs.Visits.{Visit, visited, visits_from, arrives_at}
use Rattle.definitions.specs.Timeline.{rest_start, stops_from, rest_of}

pub or-none : {A : Type 0} (o : Option A) → or_else o None ≡ o
or-none None = refl
or-none (Some a) = refl

-- what is read where there is no visit
abbrev pub no_visit : Visit
no_visit = record { customer = 0; arrival = 0; departure = 0; load = no_load }

module _ (s : Sheet) (place : ℕ) where
  pub visits-of : (k a : ℕ) (l : Label) (n : Load) (calls : List ℕ) → map (λ x. x.visit) (stops_from s place k a l n calls) ≡ visits_from s place k a l n calls
  unfolding stops_from visits_from
  visits-of k a l n [] = refl
  visits-of k a l n (c ∷ cs) = rw (visits-of (suc k) c (visited s (break_at s place k) k a c l) (plus n (customer s c).demand) cs) refl

  -- past its place the break is not taken
  pub rest-past : (k a : ℕ) (l : Label) (n : Load) (calls : List ℕ) → place < k → rest_of (stops_from s place k a l n calls) ≡ None
  unfolding stops_from
  rest-past k a l n [] h = refl
  rest-past k a l n (c ∷ cs) h = rw (ne_eqb place k apart) (rest-past (suc k) c _ _ cs (omega arith))
    where
      apart : place ≡ k → ⊥
      apart e = omega arith

  -- at call number k it is taken by the arrival there
  pub rest-here : (k a : ℕ) (l : Label) (n : Load) (c : ℕ) (cs : List ℕ) → place ≡ k
      → rest_of (stops_from s place k a l n (c ∷ cs)) ≡ rest_start s.head.rest (arrives_at s a c l)
  unfolding stops_from
  rest-here k a l n c cs e = rw (eq-eqb place k e, rest-past (suc k) c _ _ cs (omega arith), or-none)

  -- before it the run is the one without a break
  pub rest-later : (k a : ℕ) (l : Label) (n : Load) (c : ℕ) (cs : List ℕ) → (place ≡ k → ⊥)
      → rest_of (stops_from s place k a l n (c ∷ cs)) ≡ rest_of (stops_from s place (suc k) c (visited s None k a c l) (plus n (customer s c).demand) cs)
  unfolding stops_from
  rest-later k a l n c cs h = rw (ne_eqb place k h)

  -- m calls on from here
  pub rest-by : (m k a : ℕ) (l : Label) (n : Load) (calls : List ℕ) → 0 < k → place ≡ k + m → m < length calls
      → rest_of (stops_from s place k a l n calls) ≡ rest_start s.head.rest (get_or (visits_from s 0 k a l n calls) m no_visit).arrival
  unfolding visits_from
  rest-by m k a l n [] h e i = absurd (not-suc-le-zero i)
  rest-by zero k a l n (c ∷ cs) h e i = rest-here k a l n c cs (omega arith)
  rest-by (suc m) k a l n (c ∷ cs) h e i =
      rest-later k a l n c cs off
      ∙ rest-by m (suc k) c (visited s None k a c l) (plus n (customer s c).demand) cs (omega arith) (omega arith) (omega arith)
      ∙ rw (ne_eqb 0 k first)
    where
      off : place ≡ k → ⊥
      off f = omega arith

      first : 0 ≡ k → ⊥
      first f = omega arith
