-- Runs, and calls with run ends, are the same thing where the ends rise to the number of calls.
use Prim.Native.Nat.{ℕ, suc, ◌+◌, ◌-◌, ◌≤◌}
use native.Mathlib.Omega.{arith}
use mathlib.Core.Path.{◌≡◌, refl, ap, subst, ◌∙◌}
use mathlib.Core.List.{List, [], ◌∷◌, ◌++◌}
use lib.ListN.{length, take, drop, length-drop, take-append-drop}
use lib.Seq.{take-append_seam, drop-append_seam, length-take-le}
use Rattle.basics.specs.Lists.{sum}
use Rattle.basics.proofs.ListLaws.{sum-append}
use Rattle.definitions.specs.RunList.{runs_from, calls_of, ends_from}

-- the ends rise from p to n, or stay
abbrev pub RiseTo : ℕ → List ℕ → ℕ → Type 0
RiseTo p [] n = p ≡ n
RiseTo p (e ∷ ends) n = (p ≤ e) × RiseTo e ends n

pub rise-le : (p : ℕ) (ends : List ℕ) (n : ℕ) → RiseTo p ends n → p ≤ n
rise-le p [] n h = omega arith
rise-le p (e ∷ ends) n h = omega (arith, h.0, rise-le e ends n h.1)

-- runs to calls and ends, and back
pub runs-back : (p : ℕ) (rs : List (List ℕ)) → runs_from p (calls_of rs) (ends_from p rs) ≡ rs
unfolding runs_from
runs-back p [] = refl
runs-back p (r ∷ rs) =
    let e : p + length r - p ≡ length r = omega arith in
    ap (λ (m : ℕ). take m (r ++ calls_of rs) ∷ runs_from (p + length r) (drop m (r ++ calls_of rs)) (ends_from (p + length r) rs)) e
    ∙ rw (take-append_seam r (calls_of rs), drop-append_seam r (calls_of rs), runs-back (p + length r) rs)

-- calls and ends to runs, and back
pub calls_back : (p : ℕ) (calls ends : List ℕ) → RiseTo p ends (p + length calls) → calls_of (runs_from p calls ends) ≡ calls
unfolding runs_from
calls_back p [] [] h = refl
calls_back p (c ∷ calls) [] h = absurd (left_over h)
  where
    left_over : p ≡ p + suc (length calls) → ⊥
    left_over x = omega arith
calls_back p calls (e ∷ ends) h =
    let l : e ≤ p + length calls = rise-le e ends (p + length calls) h.1 in
    let same : p + length calls ≡ e + length (drop (e - p) calls) = omega (arith, length-drop (e - p) calls, h.0) in
    ap (λ (t : List ℕ). take (e - p) calls ++ t) (calls_back e (drop (e - p) calls) ends (subst (λ (n : ℕ). RiseTo e ends n) same h.1))
    ∙ take-append-drop (e - p) calls

pub ends-back : (p : ℕ) (calls ends : List ℕ) → RiseTo p ends (p + length calls) → ends_from p (runs_from p calls ends) ≡ ends
unfolding runs_from
ends-back p calls [] h = refl
ends-back p calls (e ∷ ends) h =
    let l : e ≤ p + length calls = rise-le e ends (p + length calls) h.1 in
    let same : p + length calls ≡ e + length (drop (e - p) calls) = omega (arith, length-drop (e - p) calls, h.0) in
    let here : p + length (take (e - p) calls) ≡ e = omega (arith, length-take-le (e - p) calls (omega (arith, l, h.0)), h.0) in
    ap (λ (q : ℕ). q ∷ ends_from q (runs_from e (drop (e - p) calls) ends)) here
    ∙ ap (λ (t : List ℕ). e ∷ t) (ends-back e (drop (e - p) calls) ends (subst (λ (n : ℕ). RiseTo e ends n) same h.1))

-- the joined calls have the sums of the runs
pub sum-calls : (f : ℕ → ℕ) (rs : List (List ℕ)) → sum f (calls_of rs) ≡ sum (sum f) rs
sum-calls f [] = refl
sum-calls f (r ∷ rs) = sum-append f r (calls_of rs) ∙ ap (λ (n : ℕ). sum f r + n) (sum-calls f rs)

pub ends-many : (p : ℕ) (rs : List (List ℕ)) → length (ends_from p rs) ≡ length rs
ends-many p [] = refl
ends-many p (r ∷ rs) = ap suc (ends-many (p + length r) rs)
