-- The mark in floats, in words, is the mark on the sheet of whole numbers, in words. Assumes nothing.
use Prim.Native.Nat.{ℕ, ◌+◌, ◌-◌, ◌≤◌}
use native.Mathlib.Omega.{arith}
use native.Mathlib.Nat.{zero-add}
use mathlib.Core.Path.{◌≡◌, refl, ap, ap₂, subst, ◌∙◌}
use mathlib.Core.Bool.{cond}
use mathlib.Core.List.{List, [], ◌++◌}
use Rattle.std.specs.Prelude.{Option, None, Some}
use lib.ListN.{length}
use lib.Dec.{eqb}
use lib.Ieee.{Float}
use Rattle.basics.proofs.ListLaws.{all-imp}
use Rattle.basics.specs.Lists.{All}
use Rattle.definitions.specs.Domain.{most_calls}
use Rattle.definitions.specs.Sheet.{Sheet}
use Rattle.definitions.specs.Run.{Run}
use Rattle.definitions.specs.RunList.{runs_of, calls_of}
use Rattle.definitions.specs.Cutting.{joined, cutting_cost}
use Rattle.definitions.specs.Placement.{by_clock}
use Rattle.definitions.specs.Drop.{Result, split_tw}
use Rattle.definitions.specs.Marker as Whole
use Rattle.definitions.specs.Marker.{other_calls, overload, break_too_late, window_missed, break_missing, too_far, too_long, best, dearer, cheaper, wheelchair_overload, road_closed, with_places, mark_by}
use Rattle.definitions.specs.Lent.{Lent, whole_sheet, marking}
use Rattle.definitions.specs.Refusals.{Within, refusal_of}
use Rattle.definitions.specs.Answers.{unless_refused, answer, mark_of}
use Rattle.definitions.specs.Listing.{end_of_line, drop_lines}
use Rattle.theorems.proofs.RunListLaws.{RiseTo, calls_back}
use Rattle.theorems.proofs.Accepted.{Accepted, accepted-within}
use Rattle.theorems.proofs.GivenRuns.{rises, with-calls, with_all, Filled, runs-filled}
use Rattle.bounds.specs.Sized.{Sized}
use Rattle.bounds.proofs.Inside.{sized, few-calls, calls-inside}
use Rattle.bounds.proofs.CostBoundLaws.{cost-fits, cutting-cost-most, split-by-fits}
use Rattle.whole.specs.Whole.{fl, limit}
use Rattle.whole.proofs.WholeLaws.{fl-sub, fl-sum}
use Rattle.texts.specs.CuttingText as Text
use Rattle.texts.specs.MarkText.{verdict_words, drops_behind, verdict_text, runs_refused, lent_runs, runs_cost, answer_text, cutting_text}
use Rattle.texts.proofs.OwnText.{means-itself}
use Rattle.listing_lines.proofs.WholePart.{whole-part-fl}
use Rattle.marker.specs.Image.{fl_verdict}
use Rattle.marker.proofs.Figures.{same_number}
use Rattle.marker.proofs.GivenRuns.{Inside, runs-inside}
use Rattle.mark_lines.specs.Verdicts.{words_f, drops_f, verdict_text_f}
use Rattle.call_cuts.specs.declared.marking.Marking.{Marking}
use Rattle.call_cuts.specs.declared.marking.Marking.TheVariants.{Refused, Verdict}
use Rattle.call_cuts.specs.Marking.{mark_in, mark_for}
use Rattle.call_shared.specs.Answers.{Answers}
use Rattle.models.specs.declared.customer.Customer.{Customer}
use Rattle.models.specs.declared.head.Head.{Head}
use Rattle.models.specs.declared.placement.Placement.TheVariants.{Clock}
use Rattle.sheet_loaded.specs.Held.{InMemory}
use Rattle.bytes_mark.specs.Mark.{given_runs, marked_on}
use Rattle.bytes_mark.proofs.Marked.{marked-on}
use Rattle.mark_text.proofs.FiguresFit.{Fit, mark-fits}

-- ---- a verdict

module _ (plan : Result) (calls : List ℕ) (cost : ℕ) (p : plan.cost ≤ limit) (q : cost ≤ limit) where
  words-exact : (v : Whole.Verdict) → Fit plan.cost cost v → words_f plan.served (fl plan.cost) calls (fl_verdict v) ≡ verdict_words plan calls cost v
  unfolding words_f verdict_words
  words-exact (other_calls position) f = refl
  words-exact (overload run load capacity) f = refl
  words-exact (break_too_late run place customer start latest) f = rw (whole-part-fl start f.0, whole-part-fl latest f.1) refl
  words-exact (window_missed run place customer readiness due) f = rw (whole-part-fl readiness f.0, whole-part-fl due f.1) refl
  words-exact (break_missing run duration earliest) f = rw (whole-part-fl duration f.0, whole-part-fl earliest f.1) refl
  words-exact (too_far run distance max) f = rw (whole-part-fl distance f.0, whole-part-fl max f.1) refl
  words-exact (too_long run duration max) f = rw (whole-part-fl duration f.0, whole-part-fl max f.1) refl
  words-exact best f = rw (whole-part-fl plan.cost p) refl
  words-exact (dearer by) f =
      let room : plan.cost + by ≤ limit = omega (arith, f, q) in
      rw (fl-sum plan.cost by room, whole-part-fl (plan.cost + by) room, whole-part-fl by (omega (arith, room)), whole-part-fl plan.cost p, f) refl
  words-exact (cheaper by) f =
      let less : plan.cost - by ≡ cost = omega (arith, f) in
      let few : by ≤ limit = omega (arith, f, p) in
      rw (fl-sub plan.cost by p few (omega (arith, f)), less, whole-part-fl cost q, whole-part-fl by few, whole-part-fl plan.cost p) refl
  words-exact (wheelchair_overload run load capacity) f = refl
  words-exact (road_closed run leg) f = refl

  drops-exact : (tour : List ℕ) (v : Whole.Verdict) → drops_f tour plan.dropped (fl_verdict v) ≡ drops_behind tour plan v
  drops-exact tour v = ap (λ (n : ℕ). cond (eqb n 1) (drop_lines tour plan.dropped) []) (same_number v)

  text-exact : (tour : List ℕ) (v : Whole.Verdict) → Fit plan.cost cost v
      → verdict_text_f tour plan.served plan.dropped (fl plan.cost) calls (fl_verdict v) ≡ verdict_text tour plan calls cost v
  text-exact tour v f = ap₂ (λ (a b : List ℕ). a ++ end_of_line ++ b) (words-exact v f) (drops-exact tour v)

-- ---- the mark of accepted runs

module _ (l : Lent ℕ) (h : refusal_of Some marking l ≡ None) where
  abbrev t : Sheet
  t = whole_sheet Some l.sheet

  abbrev runs : List Run
  runs = with_places (runs_of l.calls l.ends) l.breaks

  A : Accepted Some marking l
  A = accepted-within Some marking l h

  S : Sized t
  S = sized t A.within

  rising : RiseTo 0 l.ends (0 + length l.calls)
  rising = rw (zero-add (length l.calls)) (rises 0 l.ends (length l.calls) A.runs.ends)

  joined_back : joined runs ≡ l.calls
  joined_back = ap calls_of (with-calls (runs_of l.calls l.ends) l.breaks) ∙ calls_back 0 l.calls l.ends rising

  few : length (joined runs) ≤ most_calls
  few = omega (arith, ap length joined_back, few-calls t l.calls A.calls)

  cost-in-limit : cutting_cost t runs ≤ limit
  cost-in-limit =
      cost-fits (length (joined runs)) (cutting_cost t runs) few
      (cutting-cost-most t S runs (with_all Filled (runs_of l.calls l.ends) l.breaks (runs-filled 0 l.calls l.ends rising A.runs.some-call)) few)

  abbrev Few : List ℕ → Type 0
  Few calls = length calls ≤ most_calls

  runs-few : All (λ (r : Run). Few r.calls) runs
  runs-few =
      with_all Few (runs_of l.calls l.ends) l.breaks
      (all-imp (Inside t) Few (λ r i. i.0) (runs_of l.calls l.ends) (runs-inside t 0 l.calls l.ends (few-calls t l.calls A.calls, calls-inside t l.calls A.calls)))

  accepted-text : let x = split_tw t l.tour in
      let v = mark_by by_clock t l.tour runs in
      verdict_text_f l.tour x.served x.dropped (fl x.cost) l.calls (fl_verdict v) ≡ verdict_text l.tour x l.calls (cutting_cost t runs) v
  accepted-text =
      let x = split_tw t l.tour in
      text-exact x l.calls (cutting_cost t runs) (split-by-fits by_clock t S l.tour (few-calls t l.tour A.tour)) cost-in-limit l.tour
      (mark_by by_clock t l.tour runs) (mark-fits t S x runs runs-few)

-- ---- the mark, refused or given

-- what is shown of the code's answer
abbrev pub shown : Sheet → (tour calls : List ℕ) → Marking → List ℕ
shown s tour calls (Refused number) = runs_refused number
shown s tour calls (Verdict v) = let x = split_tw s tour in verdict_text_f tour x.served x.dropped (fl x.cost) calls v

module _ (s : Sheet) (W : Within s) (tour calls ends places : List ℕ) where
  abbrev given : Lent ℕ
  given = lent_runs s tour calls ends places

  -- the mark on the sheet that is meant, which is the sheet itself
  abbrev v : Whole.Verdict
  v = mark_by by_clock (whole_sheet Some s) tour (with_places (runs_of calls ends) places)

  shown-is : shown s tour calls (mark_in (mark_of Some given)) ≡ cutting_text s tour (Text.runs calls ends places)
  unfolding answer
  shown-is = go (refusal_of Some marking given) refl
    where
      go : (o : Option ℕ) → refusal_of Some marking given ≡ o
          → shown s tour calls (mark_in (unless_refused o v)) ≡ answer_text tour (split_tw s tour) calls (runs_cost s calls ends places) (unless_refused o v)
      go (Some n) e = refl
      go None e =
          subst
          (λ (u : Sheet). let x = split_tw u tour in
          verdict_text_f tour x.served x.dropped (fl x.cost) calls (fl_verdict v) ≡ verdict_text tour x calls (runs_cost u calls ends places) v)
          (means-itself s W.counted) (accepted-text given e)

-- of the sheet that is held in memory
pub held-marked : (s : Sheet) (tour : List ℕ) (head : Head) (array : List Customer) (distances times : List Float) (H : InMemory s tour head array distances times) (calls ends places : List ℕ)
    (r : Marking) → Answers (mark_for head distances times tour calls ends places Clock) head.places array r
    → shown s tour calls r ≡ cutting_text s tour (Text.runs calls ends places)
unfolding marked_on
held-marked s tour head array distances times H calls ends places r told =
    ap (shown s tour calls) (marked-on Clock s tour head array distances times H (given_runs calls ends places) tour refl r told)
    ∙ shown-is s H.within tour calls ends places
