-- The timeline of a run on the sheet in memory is told as on the sheet of whole numbers. Assumes nothing.
use Prim.Native.Nat.{ℕ, zero, suc, ◌≤◌, ◌<◌}
use native.Mathlib.Omega.{arith}
use mathlib.Core.Path.{◌≡◌, refl, sym, ap, subst, ◌∙◌}
use mathlib.Core.Bool.{Bool, cond}
use mathlib.Core.List.{List, ◌++◌, map, map-append}
use Rattle.std.specs.Prelude.{Option, None, Some, option_map}
use lib.ListN.{length, get_or, length-map, get_or-map}
use lib.Ieee.{Float, nan}
use Rattle.basics.specs.Options.{present, value_or}
use Rattle.basics.specs.Lists.{All}
use Rattle.basics.proofs.ListLaws.{all_get_d}
use Rattle.definitions.specs.Sheet.{HeadOf, Sheet}
use Rattle.definitions.specs.Room.{written}
use Rattle.definitions.specs.Answers.{unless_refused}
use Rattle.definitions.specs.Refusals.{WithinCalls}
use Rattle.definitions.specs.Visits.{break_not_placeable}
use Rattle.definitions.specs.Timeline.{Timeline, rest_of, timeline}
use Rattle.theorems.proofs.Accepted.{present-same}
use Rattle.bounds.proofs.Inside.{sized, few-calls, calls-inside}
use Rattle.whole.specs.Whole.{fl}
use Rattle.models.specs.declared.customer.Customer.{Customer}
use Rattle.models.specs.declared.head.Head.{Head}
use Rattle.models.specs.Load.{space_of}
use Rattle.models.specs.Image.{fl_break}
use Rattle.evaluation.specs.Records.{Tables, lent, LimitsF, limits_of}
use Rattle.evaluation.specs.Image.{fl_limits}
use Rattle.evaluation.proofs.Reading.{get_d_of}
use Rattle.visits.specs.declared.visit.Visit.{Visit}
use Rattle.visits.specs.Image.{fl_visit, fl_violation}
use Rattle.visits.proofs.Figures.{same_number}
use Rattle.timeline.specs.Timing.{TimelineF, timeline_f}
use Rattle.timeline.specs.Image.{fl_timeline}
use Rattle.timeline.proofs.TimelineExact.{Given, timeline-exact}
use Rattle.sheet_loaded.specs.Held.{InMemory}
use Rattle.bytes_visits.specs.declared.run.Visiting.{Visiting}
use Rattle.bytes_visits.specs.declared.run.Visiting.TheVariants as Visitings
use Rattle.bytes_visits.specs.Rows.{rows_to, no_stop, times_row, times_of, loads_row, loads_of, numbers_of, figures_row, figures_of, unread, times_row_f, loads_row_f, number_row_f, figures_row_f}
use Rattle.bytes_visits.specs.Told.{Lists, run_refusal, told_on, told_of, ToldIn, taken_f, began_f, told_f, TimedBy, RunTimed}
use Rattle.bytes_visits.proofs.Refusing.{run_fits, place-own, place_inside}
use Rattle.bytes_visits.proofs.Timed.{rows_same}
use Rattle.bytes_visits.proofs.Figured.{Small, figures-are, all_small}

-- ---- rows through a map

rows-map : {A B : Type 0} (f : A → B) (row : ℕ → List A) (n : ℕ) → rows_to (λ (i : ℕ). map f (row i)) n ≡ map f (rows_to row n)
unfolding rows_to
rows-map f row zero = refl
rows-map f row (suc n) = ap (λ (l : List _). l ++ map f (row n)) (rows-map f row n) ∙ sym (map-append f (rows_to row n) (row n))

-- ---- the rows of a timeline held in floats

module _ (t : Timeline) where
  abbrev visited : List Visit
  visited = map fl_visit (map (λ x. x.visit) t.stops)

  abbrev begun : List Float
  begun = map (λ x. fl x.begin) t.stops

  many : length visited ≡ length t.stops
  many = length-map (map (λ x. x.visit) t.stops) fl_visit ∙ length-map t.stops (λ x. x.visit)

  found : length (map fl_violation t.violations) ≡ length t.violations
  found = length-map t.violations fl_violation

  -- the visit of a stop
  visit-at : (i : ℕ) → i < length t.stops → get_or visited i unread ≡ fl_visit (get_or t.stops i no_stop).visit
  visit-at i h =
      sym (get_d_of fl_visit (map (λ x. x.visit) t.stops) i no_stop.visit unread (omega (arith, length-map t.stops (λ x. x.visit), h)))
      ∙ ap fl_visit (get_or-map (λ x. x.visit) t.stops i no_stop)

  begin-at : (i : ℕ) → i < length t.stops → get_or begun i nan ≡ fl (get_or t.stops i no_stop).begin
  begin-at i h = sym (get_d_of (λ x. fl x.begin) t.stops i no_stop nan h)

  times-are : rows_to (times_row_f visited begun) (length visited) ≡ map fl (times_of t)
  times-are =
      ap (rows_to (times_row_f visited begun)) many
      ∙ rows_same _ (λ (i : ℕ). map fl (times_row (get_or t.stops i no_stop))) (length t.stops) (λ i h. rw (visit-at i h, begin-at i h) refl)
      ∙ rows-map fl (λ (i : ℕ). times_row (get_or t.stops i no_stop)) (length t.stops)

  loads-are : rows_to (loads_row_f visited) (length visited) ≡ loads_of t
  loads-are =
      ap (rows_to (loads_row_f visited)) many ∙ rows_same _ (λ (i : ℕ). loads_row (get_or t.stops i no_stop)) (length t.stops) (λ i h. rw (visit-at i h) refl)

  numbers-are : rows_to (number_row_f (map fl_violation t.violations)) (length (map fl_violation t.violations)) ≡ numbers_of t
  numbers-are =
      ap (rows_to (number_row_f (map fl_violation t.violations))) found
      ∙ rows_same _ _ (length t.violations)
      (λ i h. rw (get_or-map fl_violation t.violations i break_not_placeable, same_number (get_or t.violations i break_not_placeable)) refl)

  figured : All Small t.violations → rows_to (figures_row_f (map fl_violation t.violations)) (length (map fl_violation t.violations)) ≡ map fl (figures_of t)
  figured small =
      ap (rows_to (figures_row_f (map fl_violation t.violations))) found
      ∙ rows_same _ (λ (i : ℕ). map fl (figures_row (get_or t.violations i break_not_placeable))) (length t.violations)
      (λ i h. rw (get_or-map fl_violation t.violations i break_not_placeable)
      (figures-are (get_or t.violations i break_not_placeable) (all_get_d Small t.violations i break_not_placeable small tt)))
      ∙ rows-map fl (λ (i : ℕ). figures_row (get_or t.violations i break_not_placeable)) (length t.violations)

  -- ---- what it comes to

  taken_is : (o : Option ℕ) (place : ℕ) → taken_f (option_map fl o) place ≡ cond (present o) place 0
  taken_is None place = refl
  taken_is (Some n) place = refl

  began-is : (o : Option ℕ) → began_f (option_map fl o) ≡ fl (value_or 0 o)
  began-is None = refl
  began-is (Some n) = refl

  told_is : told_f (length visited) (length (map fl_violation t.violations)) (fl_timeline t) ≡ told_of t
  told_is = rw (many, found, taken_is (rest_of t.stops) t.totals.place, began-is (rest_of t.stops)) refl

-- ---- on the sheet in memory

module _ (s : Sheet) (tour : List ℕ) (head : Head) (array : List Customer) (distances times : List Float) (H : InMemory s tour head array distances times)
    (run : List ℕ) (place : ℕ) (old : Lists) (r : Visiting) (new : Lists) where
  abbrev tables : Tables
  tables = lent array distances times head.places

  places-are : head.places ≡ s.head.places
  places-are = ap (λ (h : HeadOf Float). h.places) H.head-is

  capacity-is : space_of head.capacity ≡ s.head.capacity
  capacity-is = ap (λ (h : HeadOf Float). h.capacity) H.head-is

  limits-are : limits_of head.limits ≡ fl_limits s
  limits-are = ap (λ (h : HeadOf Float). record { max_distance = h.max_distance; max_duration = h.max_duration; rest = h.rest }) H.head-is

  rest-is : present (limits_of head.limits).rest ≡ present s.head.rest
  rest-is = ap (λ (l : LimitsF). present l.rest) limits-are ∙ present-same fl_break s.head.rest

  abbrev refusal : Option ℕ
  refusal = run_refusal s.head.places (present s.head.rest) run place

  refusal_is : run_refusal head.places (present (limits_of head.limits).rest) run place ≡ refusal
  refusal_is = λ i. run_refusal (places-are i) (rest-is i) run place

  abbrev line : Timeline
  line = timeline s (record { calls = run; place = place })

  -- the place is one that the run may be given
  given-place : refusal ≡ None → Given s run place
  given-place e =
      record {
        own = place_inside s.head.places (present s.head.rest) run place e;
        needed = λ none_is.
            let last = subst (λ (b : Bool). place ≤ cond b (length run) 0) (ap (λ (o : Option _). present o) none_is) (place-own s.head.places (present s.head.rest) run place e) in
            omega (arith, last);
      }

  exactly : refusal ≡ None → timeline_f tables (space_of head.capacity) (limits_of head.limits) place run ≡ fl_timeline line
  exactly e =
      (λ i. timeline_f tables (capacity-is i) (limits-are i) place run)
      ∙ timeline-exact s H.within tables H.tables run (run_fits s.head.places (present s.head.rest) run place e) place (given-place e)

  small : refusal ≡ None → All Small line.violations
  small e =
      let fits : WithinCalls s run = run_fits s.head.places (present s.head.rest) run place e in
      all_small s (sized s H.within) (record { calls = run; place = place }) (few-calls s run fits) (calls-inside s run fits)

  -- by the refusal
  told-by : (o : Option ℕ) → refusal ≡ o → TimedBy o (timeline_f tables (space_of head.capacity) (limits_of head.limits) place run) old r new → ToldIn (unless_refused o line) old r new
  told-by (Some number) e (answer, same) =
      record {
        answer = answer;
        times-left = ap (λ (l : Lists). l.times) same;
        loads-left = ap (λ (l : Lists). l.loads) same;
        numbers-left = ap (λ (l : Lists). l.numbers) same;
        figures-left = ap (λ (l : Lists). l.figures) same;
      }
  told-by None e T =
      let (answer, rows) = subst (λ (x : TimelineF). TimedBy None x old r new) (exactly e) T in
      record {
        answer = answer ∙ ap Visitings.Told (told_is line);
        times-left = rows.times-are ∙ ap (λ (l : List Float). written l old.times) (times-are line);
        loads-left = rows.loads-are ∙ ap (λ (l : List ℕ). written l old.loads) (loads-are line);
        numbers-left = rows.numbers-are ∙ ap (λ (l : List ℕ). written l old.numbers) (numbers-are line);
        figures-left = rows.figures-are ∙ ap (λ (l : List Float). written l old.figures) (figured line (small e));
      }

  pub told-on : RunTimed tables head run place old r new → ToldIn (told_on s run place) old r new
  unfolding told_on
  told-on T =
      told-by refusal refl (subst (λ (o : Option ℕ). TimedBy o (timeline_f tables (space_of head.capacity) (limits_of head.limits) place run) old r new) refusal_is T)
