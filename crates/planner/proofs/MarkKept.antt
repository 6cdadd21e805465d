-- The contract of the marker. Assumes nothing.
use Prim.Native.Nat.{ℕ}
use native.Mathlib.Omega.{arith}
use mathlib.Core.Path.{◌≡◌, refl, sym, ap, subst, ◌∙◌}
use mathlib.Core.List.{List}
use Rattle.std.specs.Prelude.{Option, None, Some}
use lib.Ieee.{Float}
use Rattle.definitions.specs.Lent.{Lent, marking}
use Rattle.definitions.specs.Refusals.{refusal_of}
use Rattle.definitions.specs.Placement.{Placement, by_clock, by_pay}
use Rattle.definitions.specs.Drop.{split_by}
use Rattle.definitions.specs.Marker as Whole
use Rattle.definitions.specs.Marker.{other_calls, overload, break_too_late, window_missed, break_missing, too_far, too_long, best, dearer, cheaper, wheelchair_overload, road_closed, verdict_number}
use Rattle.definitions.specs.Answers.{Answer, gives, unless_refused, answer, mark_by_of}
use Rattle.theorems.proofs.GivenMarks.{given-says, given-cheaper-only, given-never-cheaper}
use Rattle.theorems.proofs.OneMark.{says-mark}
use Rattle.whole.specs.Value.{value}
use Rattle.marker.specs.declared.verdict.Verdict.TheVariants.{Cheaper}
use Rattle.marker.specs.Image.{fl_verdict}
use Rattle.marker.specs.Figures.{number_in}
use Rattle.marker.proofs.Figures.{same_number, same-values}
use Rattle.call_cuts.specs.declared.marking.Marking.{Marking}
use Rattle.call_cuts.specs.Marking.{mark_in}
use Rattle.planner.specs.Calls.{LentSheet, meant}
use Rattle.planner.specs.Marking.{CheaperOnly, runs_given, mark_on, MarkContract}

-- a verdict with Cheaper's number is Cheaper
is-cheaper : (w : Whole.Verdict) → verdict_number w ≡ 10 → (d : ℕ) × (w ≡ cheaper d)
is-cheaper (other_calls position) e = absurd (omega arith)
is-cheaper (overload run load capacity) e = absurd (omega arith)
is-cheaper (break_too_late run place customer start latest) e = absurd (omega arith)
is-cheaper (window_missed run place customer readiness due) e = absurd (omega arith)
is-cheaper (break_missing run duration earliest) e = absurd (omega arith)
is-cheaper (too_far run distance max) e = absurd (omega arith)
is-cheaper (too_long run duration max) e = absurd (omega arith)
is-cheaper best e = absurd (omega arith)
is-cheaper (dearer by) e = absurd (omega arith)
is-cheaper (cheaper by) e = (by, refl)
is-cheaper (wheelchair_overload run load capacity) e = absurd (omega arith)
is-cheaper (road_closed run leg) e = absurd (omega arith)

-- an answer that holds Cheaper gives cheaper
as-cheaper : {a : Answer Whole.Verdict} (v : Whole.Verdict) → a ≡ gives v → (by : Float) → fl_verdict v ≡ Cheaper by → (d : ℕ) × (a ≡ gives (cheaper d))
as-cheaper v is by h = let c = is-cheaper v (sym (same_number v) ∙ ap number_in h) in (c.0, is ∙ ap gives c.1)

module _ (q : LentSheet) (tour calls ends breaks : List ℕ) where
  abbrev lent : Lent Float
  lent = mark_on q tour calls ends breaks

  only : (p : Placement) (v : Whole.Verdict) → mark_by_of value p lent ≡ gives v → CheaperOnly p (meant q) (fl_verdict v)
  only by_clock v is = λ by h. let c = as-cheaper v is by h in given-cheaper-only value lent c.0 c.1
  only by_pay v is = λ by h. let c = as-cheaper v is by h in given-never-cheaper value lent c.0 c.1

  module _ (p : Placement) where
    abbrev answered : Answer Whole.Verdict
    answered = mark_by_of value p lent

    -- the verdict of an accepted call
    abbrev w : Whole.Verdict
    w = Whole.mark_by p (meant q) tour (runs_given calls ends breaks)

    abbrev Keeps : Marking → Type 0
    Keeps r = MarkContract p q tour calls ends breaks r

    kept_by : (refusal : Option ℕ) → refusal_of value marking lent ≡ refusal → answered ≡ unless_refused refusal w → Keeps (mark_in answered)
    kept_by (Some number) is by = rw by record { result = rw by refl; refused = sym is; says = tt; no_other = tt; figures = tt; cheaper = tt }
    kept_by None is by =
        let says = given-says value lent p w by in
        let cheaper = only p w by in
        rw by record {
          result = rw by refl;
          refused = sym is;
          says = (w, refl, says);
          no_other = λ v x. ap fl_verdict (says-mark (meant q) (split_by p (meant q) tour) (runs_given calls ends breaks) v x);
          figures = record { number = same_number w; values = same-values w };
          cheaper = cheaper;
        }

    pub kept : {r : Marking} → r ≡ mark_in answered → Keeps r
    unfolding answer
    kept is = subst Keeps (sym is) (kept_by (refusal_of value marking lent) refl refl)
