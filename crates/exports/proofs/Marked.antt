-- What a mark call keeps: refused by the reader, refused by the call, or the verdict; against the plan that pays the least that is never Cheaper. Assumes nothing.
use Prim.Native.Nat.{ℕ}
use native.Mathlib.Omega.{arith}
use mathlib.Core.Path.{◌≡◌, refl, sym, ap, subst, ◌∙◌}
use mathlib.Core.List.{List}
use lib.Ieee.{Float}
use Rattle.definitions.specs.Sheet.{Sheet}
use Rattle.definitions.specs.Placement.{Placement, by_pay}
use Rattle.definitions.specs.Marker as Whole
use Rattle.definitions.specs.Reader.{Reading, sheet, refused_at, read}
use Rattle.definitions.specs.Answers as Call
use Rattle.definitions.specs.Room.{written}
use Rattle.marker.specs.declared.verdict.Verdict.{Verdict}
use Rattle.marker.specs.Image.{fl_verdict}
use Rattle.marker.specs.Figures.{number_in, values_in}
use Rattle.marker.proofs.Figures.{same_number, same-values}
use Rattle.sheet_read.specs.Summary as Summary
use Rattle.sheet_read.specs.Summary.{summary_of}
use Rattle.call_cuts.specs.declared.marking.Marking.{Marking}
use Rattle.call_cuts.specs.declared.marking.Marking.TheVariants as Markings
use Rattle.call_cuts.specs.Marking.{mark_in}
use Rattle.bytes_mark.specs.Mark.{GivenRuns, marked_on}
use Rattle.exports.specs.Answer.{gives, Outputs, outputs, by_call, on_reading}
use Rattle.exports.specs.Mark.{MarkFigures, mark_outputs, mark_answer, MarkWritten, MarkKept, NeverCheaper}
use Rattle.exports.proofs.Answering.{if-given, kept-unread, kept-refused, kept-given}
use Rattle.bytes_mark.specs.Values.{Small}
use Rattle.bytes_mark.proofs.Small.{marked-fits}
use Rattle.bytes_mark.proofs.Marked as OnSheet

-- ---- the cases of the code's answer

refused-in : (a : Call.Answer Whole.Verdict) (n : ℕ) → Markings.Refused n ≡ mark_in a → a ≡ Call.refused n
refused-in (Call.refused m) n e = let h : n ≡ m = cc in ap Call.refused (sym h)
refused-in (Call.gives v) n e = let z : ◌≡◌ {A = ℕ} 0 1 = cc in absurd (omega arith)

given-in : (a : Call.Answer Whole.Verdict) (v : Verdict) → Markings.Verdict v ≡ mark_in a → (w : Whole.Verdict) × (a ≡ Call.gives w) × (v ≡ fl_verdict w)
given-in (Call.refused m) v e = let z : ◌≡◌ {A = ℕ} 0 1 = cc in absurd (omega arith)
given-in (Call.gives w) v e = (w, refl, cc)

-- ---- what the call keeps

module _ (p : Placement) (bytes : List ℕ) (given : GivenRuns) (old : Outputs MarkFigures) where
  abbrev call : Sheet → List ℕ → Call.Answer Whole.Verdict
  call s tour = marked_on p s tour given

  pub mark-unread : (number word : ℕ) → Summary.refused number word ≡ summary_of (read bytes) → MarkKept p bytes given old number (outputs word old.room)
  unfolding mark_answer
  mark-unread number word e = kept-unread MarkWritten old bytes call number word e

  module _ (s : Sheet) (tour : List ℕ) (e : read bytes ≡ sheet s tour) (r : Marking) (told : r ≡ mark_in (call s tour)) where
    pub mark-refused : (number : ℕ) → r ≡ Markings.Refused number → MarkKept p bytes given old number old
    unfolding mark_answer
    mark-refused number h = kept-refused MarkWritten old bytes call s tour e old.room number (refused-in (call s tour) number (sym h ∙ told)) refl

    module _ (v : Verdict) (h : r ≡ Markings.Verdict v) where
      found : (w : Whole.Verdict) × (call s tour ≡ Call.gives w) × (v ≡ fl_verdict w)
      found = given-in (call s tour) v (sym h ∙ told)

      pub mark-small : Small v
      mark-small = subst Small (sym found.2) (marked-fits p s tour given found.0 found.1)

      pub mark-given : (verdict : ℕ) (values : List Float) → verdict ≡ number_in v → values ≡ written (values_in v) old.room.values
          → MarkKept p bytes given old 0 (mark_outputs old.word verdict values)
      unfolding mark_answer
      mark-given verdict values n l =
          let w : MarkWritten found.0 old.room (record { verdict = verdict; values = values }) =
          record {
            verdict = n ∙ ap number_in found.2 ∙ same_number found.0;
            values = l ∙ ap (λ (x : List Float). written x old.room.values) (ap values_in found.2 ∙ same-values found.0);
          } in
          kept-given MarkWritten old bytes call s tour e (record { verdict = verdict; values = values }) found.0 found.1 w

-- ---- against the plan that pays the least for lateness

-- no other verdict has the number of Cheaper
is-cheaper : (v : Whole.Verdict) (by : ℕ) → Whole.verdict_number v ≡ Whole.verdict_number (Whole.cheaper by) → (d : ℕ) × (v ≡ Whole.cheaper d)
is-cheaper (Whole.other_calls position) by e = absurd (omega arith)
is-cheaper (Whole.overload run load capacity) by e = absurd (omega arith)
is-cheaper (Whole.break_too_late run place customer start latest) by e = absurd (omega arith)
is-cheaper (Whole.window_missed run place customer readiness due) by e = absurd (omega arith)
is-cheaper (Whole.break_missing run duration earliest) by e = absurd (omega arith)
is-cheaper (Whole.too_far run distance limit) by e = absurd (omega arith)
is-cheaper (Whole.too_long run duration limit) by e = absurd (omega arith)
is-cheaper Whole.best by e = absurd (omega arith)
is-cheaper (Whole.dearer d) by e = absurd (omega arith)
is-cheaper (Whole.cheaper d) by e = (d, refl)
is-cheaper (Whole.wheelchair_overload run load capacity) by e = absurd (omega arith)
is-cheaper (Whole.road_closed run leg) by e = absurd (omega arith)

module _ (bytes : List ℕ) (given : GivenRuns) where
  -- it is not given
  not-given : (d : ℕ) → mark_answer by_pay bytes given ≡ gives (Whole.cheaper d) → ⊥
  unfolding mark_answer
  not-given d e = go (read bytes) e
    where
      go : (x : Reading) → on_reading (λ s tour. marked_on by_pay s tour given) x ≡ gives (Whole.cheaper d) → ⊥
      go (refused_at number word) e = let z : ◌≡◌ {A = ℕ} 0 1 = cc in absurd (omega arith)
      go (sheet s tour) e = on (marked_on by_pay s tour given) refl e
        where
          on : (a : Call.Answer Whole.Verdict) → marked_on by_pay s tour given ≡ a → by_call a ≡ gives (Whole.cheaper d) → ⊥
          on (Call.refused number) q e = let z : ◌≡◌ {A = ℕ} 0 1 = cc in absurd (omega arith)
          on (Call.gives v) q e = let h : v ≡ Whole.cheaper d = cc in OnSheet.never-cheaper s tour given d (q ∙ ap Call.gives h)

  -- so it is not written
  pub never-cheaper : (old : Outputs MarkFigures) (r : ℕ) (new : Outputs MarkFigures) → MarkKept by_pay bytes given old r new → NeverCheaper bytes given new.room.verdict
  never-cheaper old r new K =
      if-given (mark_answer by_pay bytes given) (λ v. MarkWritten v old.room new.room) (λ _. (by : ℕ) → new.room.verdict ≡ Whole.verdict_number (Whole.cheaper by) → ⊥)
      (λ v g w by n. let (d, e) = is-cheaper v by (sym w.verdict ∙ n) in not-given d (g ∙ ap gives e)) K.written
