-- The answer of `time_run`: refused with nothing written, or the rows of the code's timeline. Assumes nothing.
use Prim.Native.Nat.{ℕ, zero, suc, ◌<◌}
use native.Mathlib.Omega.{arith}
use native.Mathlib.Nat.{le_refl}
use mathlib.Core.Path.{◌≡◌, refl, sym, ap, subst, ◌∙◌}
use mathlib.Core.List.{List, ◌++◌}
use Rattle.std.specs.Prelude.{Option, None, Some}
use lib.ListN.{length, take}
use lib.Seq.{get_or-take}
use lib.Ieee.{Float, nan}
use Rattle.basics.specs.Options.{value_or, present}
use Rattle.definitions.specs.Room.{written}
use Rattle.models.specs.declared.head.Head.{Head}
use Rattle.models.specs.Load.{space_of}
use Rattle.evaluation.specs.Records.{Tables, limits_of}
use Rattle.visits.specs.declared.visit.Visit.{Visit}
use Rattle.visits.specs.declared.visit.Violation.{Violation}
use Rattle.visits.specs.Visiting.{blank_violation}
use Rattle.timeline.specs.declared.timeline.Timeline.{Timeline}
use Rattle.timeline.specs.Timing.{TimelineF, timeline_f, timeline_in, Times}
use Rattle.bytes_visits.specs.declared.told.Told.{Told}
use Rattle.bytes_visits.specs.declared.run.Visiting.TheVariants as Visitings
use Rattle.bytes_visits.specs.Rows.{rows_to, unread, times_row_f, loads_row_f, number_row_f, figures_row_f}
use Rattle.bytes_visits.specs.Told.{Lists, run_refusal, told_f, LineWritten, RowsWritten, TimedBy, RunTimed}

-- ---- the rows of the first elements

pub rows_same : {A : Type 0} (f g : ℕ → List A) (n : ℕ) → ((i : ℕ) → i < n → f i ≡ g i) → rows_to f n ≡ rows_to g n
unfolding rows_to
rows_same f g zero h = refl
rows_same f g (suc n) h =
    ap (λ (l : List _). l ++ f n) (rows_same f g n (λ i j. h i (omega arith))) ∙ ap (λ (l : List _). rows_to g n ++ l) (h n (le_refl (suc n)))

module _ (n : ℕ) where
  first-times : (visits : List Visit) (begins : List Float) → rows_to (times_row_f visits begins) n ≡ rows_to (times_row_f (take n visits) (take n begins)) n
  first-times visits begins = rows_same _ _ n (λ i h. rw (get_or-take n visits i unread h, get_or-take n begins i nan h) refl)

  first-loads : (visits : List Visit) → rows_to (loads_row_f visits) n ≡ rows_to (loads_row_f (take n visits)) n
  first-loads visits = rows_same _ _ n (λ i h. rw (get_or-take n visits i unread h) refl)

  first-numbers : (list : List Violation) → rows_to (number_row_f list) n ≡ rows_to (number_row_f (take n list)) n
  first-numbers list = rows_same _ _ n (λ i h. rw (get_or-take n list i blank_violation h) refl)

  first-figures : (list : List Violation) → rows_to (figures_row_f list) n ≡ rows_to (figures_row_f (take n list)) n
  first-figures list = rows_same _ _ n (λ i h. rw (get_or-take n list i blank_violation h) refl)

rows_written : (line : Timeline) (old new : Lists) → line.run.count ≡ length (timeline_in line).route.visits → line.run.found ≡ length (timeline_in line).route.violations
    → LineWritten line old new → RowsWritten (timeline_in line) old new
rows_written line old new many found L =
    let x = timeline_in line in
    let n = line.run.count in
    let m = line.run.found in
    record {
      times-are =
          L.times-are ∙ ap (λ (l : List Float). written l old.times) (first-times n line.run.visits line.begins ∙ ap (rows_to (times_row_f x.route.visits x.begins)) many);
      loads-are = L.loads-are ∙ ap (λ (l : List ℕ). written l old.loads) (first-loads n line.run.visits ∙ ap (rows_to (loads_row_f x.route.visits)) many);
      numbers-are =
          L.numbers-are ∙ ap (λ (l : List ℕ). written l old.numbers) (first-numbers m line.run.violations ∙ ap (rows_to (number_row_f x.route.violations)) found);
      figures-are =
          L.figures-are ∙ ap (λ (l : List Float). written l old.figures) (first-figures m line.run.violations ∙ ap (rows_to (figures_row_f x.route.violations)) found);
    }

-- ---- the two cases

module _ (t : Tables) (head : Head) (run : List ℕ) (place : ℕ) (old : Lists) where
  abbrev refusal : Option ℕ
  refusal = run_refusal head.places (present (limits_of head.limits).rest) run place

  abbrev told : TimelineF
  told = timeline_f t (space_of head.capacity) (limits_of head.limits) place run

  pub timed-refused : (number : ℕ) → number ≡ value_or 0 refusal → (number ≡ 0 → ⊥) → RunTimed t head run place old (Visitings.Refused number) old
  timed-refused number e h = go refusal e
    where
      go : (o : Option ℕ) → number ≡ value_or 0 o → TimedBy o told old (Visitings.Refused number) old
      go None q = absurd (h q)
      go (Some m) q = (ap Visitings.Refused q, refl)

  pub timed-told : refusal ≡ None → (line : Timeline) → Times t (space_of head.capacity) (limits_of head.limits) place run line
      → (new : Lists) → LineWritten line old new → (r : Told) → r ≡ told_f line.run.count line.run.found (timeline_in line)
      → RunTimed t head run place old (Visitings.Told r) new
  timed-told accepted line T new L r e =
      let many = T.count-is in
      let found = T.found-is in
      let same = T.timeline-is in
      let written-so = rows_written line old new (many ∙ ap (λ (x : TimelineF). length x.route.visits) (sym same)) (found ∙ ap (λ (x : TimelineF). length x.route.violations) (sym same)) L in
      subst (λ (o : Option ℕ). TimedBy o told old (Visitings.Told r) new) (sym accepted) (
        ap Visitings.Told (e ∙ (λ i. told_f (many i) (found i) (same i))),
        subst (λ (x : TimelineF). RowsWritten x old new) same written-so,
      )
