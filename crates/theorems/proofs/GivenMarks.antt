-- The mark that an accepted call of the marker gives: what it says, when it is Best, Dearer or Cheaper, and that the planner's own cutting is Best. Assumes nothing.
use Prim.Native.Nat.{ℕ, ◌+◌, ◌<◌}
use native.Mathlib.Nat.{zero-add}
use mathlib.Core.Logic.{◌↔◌}
use mathlib.Core.Path.{◌≡◌, refl, sym, ap, ap₂, subst, ◌∙◌}
use mathlib.Core.Bool.{Bool, true, false, not, false≢true}
use mathlib.Core.List.{List, [], ◌∷◌, ◌++◌, map}
use Rattle.std.specs.Prelude.{Option, None, Some}
use lib.ListN.{length}
use Rattle.basics.specs.Options.{present}
use Rattle.basics.specs.Lists.{is_empty, all, All}
use Rattle.definitions.specs.Sheet.{Sheet, lateness_pay, map_break}
use Rattle.definitions.specs.Run.{Run}
use Rattle.definitions.specs.RunList.{runs_of}
use Rattle.definitions.specs.Cutting.{calls_in, cutting_cost}
use Rattle.definitions.specs.Placement.{Placement, by_clock, by_pay}
use Rattle.definitions.specs.Drop.{split_by}
use Rattle.definitions.specs.Marker.{Verdict, best, dearer, cheaper, with_places, mark_by}
use Rattle.definitions.specs.Marks.{Proper, Cuts, Says}
use Rattle.definitions.specs.Lent.{Lent, whole, whole_sheet, marking}
use Rattle.definitions.specs.Refusals.{break_beyond, refusal_of}
use Rattle.definitions.specs.Answers.{Answer, refused, gives, unless_refused, answer, mark_by_of}
use Rattle.theorems.proofs.RunListLaws.{RiseTo, runs-back}
use Rattle.theorems.proofs.GivenRuns.{rises, runs-proper}
use Rattle.theorems.proofs.Accepted.{present-same, accepted-within}
use Rattle.theorems.proofs.Promised.{promised-by}
use Rattle.theorems.proofs.Marking.{best-exactly, dearer-exactly, cheaper-exactly, cheaper-only, never-cheaper, own-best}
use Rattle.theorems.proofs.Faults.{shaped, mark-says}

both_ways : {A B C : Type 0} → A ↔ B → B ↔ C → A ↔ C
both_ways f g = (λ a. g.0 (f.0 a), λ c. f.1 (g.1 c))

-- what an answer gives: the call was accepted, and its result is that
given_by : {A : Type 0} (o : Option ℕ) (x y : A) → unless_refused o x ≡ gives y → (o ≡ None) × (x ≡ y)
given_by None x y e = (refl, cc)
given_by {A} (Some n) x y e = absurd (false≢true (ap is_given e))
  where
    is_given : Answer A → Bool
    is_given (refused n) = false
    is_given (gives x) = true

given-of : {A : Type 0} (o : Option ℕ) (x y : A) → o ≡ None → (unless_refused o x ≡ gives y) ↔ (x ≡ y)
given-of o x y e = (λ h. (given_by o x y h).1, λ h. ap (λ (q : Option ℕ). unless_refused q x) e ∙ ap gives h)

-- runs and their own break places, whatever stands behind these
pub own-places : (rs : List Run) (more : List ℕ) → with_places (calls_in rs) (map (λ (r : Run). r.place) rs ++ more) ≡ rs
own-places [] more = refl
own-places (r ∷ rs) more = ap (λ (l : List Run). r ∷ l) (own-places rs more)

module _ {F : Type 0} (value : F → Option ℕ) (l : Lent F) where
  -- the sheet that is meant, and the runs given
  abbrev s : Sheet
  s = whole_sheet value l.sheet

  abbrev pub runs_given : List Run
  runs_given = with_places (runs_of l.calls l.ends) l.breaks

  -- an accepted call is given proper runs
  pub accepted-proper : refusal_of value marking l ≡ None → All (Proper s) runs_given
  unfolding whole_sheet
  accepted-proper h =
      let A = accepted-within value marking l h in
      runs-proper s 0 l.calls l.ends l.breaks (subst (λ (n : ℕ). RiseTo 0 l.ends n) (sym (zero-add (length l.calls))) (rises 0 l.ends (length l.calls) A.runs.ends))
      A.runs.some-call
      (ap (λ (b : Bool). break_beyond b 0 l.ends l.breaks) (present-same (map_break (whole value)) l.sheet.head.rest) ∙ A.runs.breaks)

  module _ (p : Placement) where
    -- a mark that is given says what its verdict means
    pub given-says : (v : Verdict) → mark_by_of value p l ≡ gives v → Says s (split_by p s l.tour) runs_given v
    unfolding answer
    given-says v h =
        let g = given_by (refusal_of value marking l) (mark_by p s l.tour runs_given) v h in
        subst (λ (w : Verdict). Says s (split_by p s l.tour) runs_given w) g.1 (mark-says s (split_by p s l.tour) runs_given (accepted-proper g.0))

    module _ (accepted : refusal_of value marking l ≡ None) where
      filled : all (λ r. not (is_empty r.calls)) runs_given ≡ true
      filled = shaped s runs_given (accepted-proper accepted)

      -- the mark of the runs given is the one given
      is-given : (v : Verdict) → (mark_by_of value p l ≡ gives v) ↔ (mark_by p s l.tour runs_given ≡ v)
      unfolding answer
      is-given v = given-of (refusal_of value marking l) (mark_by p s l.tour runs_given) v accepted

      -- Best, Dearer and Cheaper exactly of legal runs of the served calls, by their cost
      pub given-best : (mark_by_of value p l ≡ gives best) ↔ (Cuts s (split_by p s l.tour) runs_given × (cutting_cost s runs_given ≡ (split_by p s l.tour).cost))
      given-best = both_ways (is-given best) (best-exactly s (split_by p s l.tour) runs_given filled)

      pub given-dearer : (d : ℕ) → (mark_by_of value p l ≡ gives (dearer d)) ↔ (Cuts s (split_by p s l.tour) runs_given × (cutting_cost s runs_given ≡ (split_by p s l.tour).cost + d) × (0 < d))
      given-dearer d = both_ways (is-given (dearer d)) (dearer-exactly s (split_by p s l.tour) runs_given filled d)

      pub given-cheaper : (d : ℕ) → (mark_by_of value p l ≡ gives (cheaper d)) ↔ (Cuts s (split_by p s l.tour) runs_given × ((split_by p s l.tour).cost ≡ cutting_cost s runs_given + d) × (0 < d))
      given-cheaper d = both_ways (is-given (cheaper d)) (cheaper-exactly s (split_by p s l.tour) runs_given filled d)

      -- the planner's own cutting is Best
      pub given-own : l.calls ≡ (split_by p s l.tour).served → l.ends ≡ (split_by p s l.tour).ends → (more : List ℕ)
          → l.breaks ≡ (split_by p s l.tour).places ++ more → mark_by_of value p l ≡ gives best
      given-own calls-own ends-own more breaks-own =
          let P = promised-by s l.tour p in
          let runs_own : runs_given ≡ P.runs =
          ap₂ with_places
          (ap₂ runs_of (calls-own ∙ sym P.cuts) (ends-own ∙ sym P.ends-are) ∙ runs-back 0 (calls_in P.runs))
          (breaks-own ∙ ap (λ (p : List ℕ). p ++ more) (sym P.places-are))
          ∙ own-places P.runs more in
          (is-given best).1 (ap (mark_by p s l.tour) runs_own ∙ own-best p s l.tour)

  -- against the clock's cost Cheaper is given only with lateness pay and a break
  pub given-cheaper-only : (d : ℕ) → mark_by_of value by_clock l ≡ gives (cheaper d) → (lateness_pay s ≡ true) × (present s.head.rest ≡ true)
  unfolding answer
  given-cheaper-only d h =
      let g = given_by (refusal_of value marking l) (mark_by by_clock s l.tour runs_given) (cheaper d) h in
      cheaper-only s l.tour runs_given (filled by_clock g.0) d g.1

  -- against the least pay's it never is
  pub given-never-cheaper : (d : ℕ) → mark_by_of value by_pay l ≡ gives (cheaper d) → ⊥
  unfolding answer
  given-never-cheaper d h =
      let g = given_by (refusal_of value marking l) (mark_by by_pay s l.tour runs_given) (cheaper d) h in
      never-cheaper s l.tour runs_given (filled by_pay g.0) d g.1
