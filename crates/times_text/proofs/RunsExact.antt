-- The runs of a cutting on the sheet in memory: refused as on the sheet of whole numbers, or told as its timelines are. Assumes nothing.
use Prim.Native.Nat.{ℕ, suc, ◌≤◌}
use native.Mathlib.Omega.{arith}
use mathlib.Core.Path.{◌≡◌, refl, sym, ap, subst, ◌∙◌}
use mathlib.Core.Bool.{cond, true≢false}
use mathlib.Core.List.{List, [], ◌∷◌, ◌++◌}
use Rattle.std.specs.Prelude.{Option, None, Some}
use lib.Ieee.{Float}
use lib.ListN.{length, take, length-take}
use borrow.Author.Tests.{ltb-false}
use Rattle.basics.specs.Options.{present, value_or}
use Rattle.basics.specs.Lists.{All}
use Rattle.basics.proofs.ListLaws.{all-imp}
use Rattle.definitions.specs.Domain.{most_calls}
use Rattle.definitions.specs.Sheet.{Break, Sheet}
use Rattle.definitions.specs.Run.{Run}
use Rattle.definitions.specs.RunList.{runs_of}
use Rattle.definitions.specs.Timeline.{timeline}
use Rattle.definitions.specs.Marker.{with_places}
use Rattle.definitions.specs.Marks.{Proper}
use Rattle.definitions.specs.Lent.{whole_sheet, marking}
use Rattle.definitions.specs.Refusals.{WithinCalls, refusal_of}
use Rattle.definitions.specs.Answers.{Answer, refused, gives, unless_refused, answer}
use Rattle.theorems.proofs.Accepted.{Accepted, accepted-within}
use Rattle.theorems.proofs.GivenRuns.{rises, with_first, with_all, runs-many, runs-proper}
use Rattle.theorems.proofs.RunListLaws.{RiseTo}
use Rattle.bounds.specs.Sized.{Sized}
use Rattle.bounds.proofs.Inside.{sized, few-calls, calls-inside}
use Rattle.whole.specs.Value.{value}
use Rattle.models.specs.declared.customer.Customer.{Customer}
use Rattle.models.specs.declared.head.Head.{Head}
use Rattle.models.specs.Load.{space_of}
use Rattle.evaluation.specs.Records.{Tables, lent, limits_of}
use Rattle.evaluation.specs.Image.{fl_limits, Image}
use Rattle.marker.proofs.GivenRuns.{Inside, runs-inside}
use Rattle.refuse_order.specs.Lent.{sheet_of, lent_of}
use Rattle.refuse_order.specs.Order.{Refuses}
use Rattle.call_shared.proofs.Accepting.{accepts}
use Rattle.sheet_loaded.specs.Held.{InMemory}
use Rattle.bytes_shared.proofs.OnSheet.{first, gathered, answered}
use Rattle.timeline.specs.Timing.{TimelineF}
use Rattle.timeline.proofs.TimelineExact.{Given, exactly}
use Rattle.times_lines.specs.Told.{run_text_f}
use Rattle.texts.specs.CuttingText.{runs}
use Rattle.texts.specs.MarkText.{runs_refused, lent_runs}
use Rattle.texts.specs.TimesText.{timeline_text, timelines_text, times_answer, runs_times}
use Rattle.times_text.specs.Runs.{Own, run_times_f, times_f}
use Rattle.times_text.proofs.ToldExact.{told-exact}

-- ---- runs on a sheet within the limits

-- a break place that a run may have is one that its timeline may be given
placed : (s : Sheet) (r : Run) → Proper s r → Given s r.calls r.place
placed s r P = go s.head.rest refl P.placeable
  where
    go : (o : Option Break) → s.head.rest ≡ o → r.place ≤ cond (present o) (length r.calls) 0 → Given s r.calls r.place
    go None e h = record { own = omega (arith, h); needed = λ n. omega (arith, h) }
    go (Some b) e h = record { own = h; needed = λ n. absurd (never (sym e ∙ n)) }
      where
        never : Some b ≡ None → ⊥
        never q = true≢false (ap present q)

module _ (s : Sheet) (S : Sized s) (t : Tables) (I : Image s t) where
  run-exact : (n : ℕ) (r : Run) → Inside s r.calls → Proper s r → run_times_f t s.head.capacity (fl_limits s) n r ≡ timeline_text s n (timeline s r)
  unfolding run_times_f
  run-exact n r i P =
      ap (λ (x : TimelineF). run_text_f t.customers (fl_limits s).rest r.place n x.route x.begins) (exactly s S t I r.calls i.0 i.1 r.place (placed s r P))
      ∙ told-exact s S t I r.place n r.calls i.0 i.1

  times-exact : (n : ℕ) (rs : List Run) → All (λ (r : Run). Inside s r.calls) rs → All (Proper s) rs → times_f t s.head.capacity (fl_limits s) n rs ≡ timelines_text s n rs
  times-exact n [] i P = refl
  times-exact n (r ∷ rs) i P =
      ap (λ (l : List ℕ). l ++ times_f t s.head.capacity (fl_limits s) (suc n) rs) (run-exact n r i.0 P.0)
      ∙ ap (λ (l : List ℕ). timeline_text s n (timeline s r) ++ l) (times-exact (suc n) rs i.1 P.1)

-- ---- refusals

-- the number of a refusal
abbrev number_in : Answer (Unit {0}) → Option ℕ
number_in (refused n) = Some n
number_in (gives x) = None

number-in : (o : Option ℕ) → number_in (unless_refused o tt) ≡ o
number-in None = refl
number-in (Some n) = refl

given-number : (number : ℕ) (o : Option ℕ) → number ≡ value_or 0 o → (number ≡ 0 → ⊥) → o ≡ Some number
given-number number None e h = absurd (h e)
given-number number (Some n) e h = ap Some (sym e)

module _ (s : Sheet) (tour : List ℕ) (head : Head) (array : List Customer) (distances times : List Float) (H : InMemory s tour head array distances times) (calls ends places : List ℕ) (number : ℕ)
    (refuses : Refuses marking (λ cs. lent_of (sheet_of head cs distances times) tour calls ends places []) head.places array number) where
  -- of these runs on the sheet of whole numbers
  abbrev refusal : Option ℕ
  refusal = refusal_of Some marking (lent_runs s tour calls ends places)

  -- and on the sheet in memory
  abbrev refusal_f : Option ℕ
  refusal_f = refusal_of value marking (lent_of (sheet_of head (first s tour head array distances times H) distances times) tour calls ends places [])

  same : refusal_f ≡ refusal
  unfolding answer
  same = sym (number-in refusal_f) ∙ ap number_in (answered s tour head array distances times H marking (λ x. tt) tour calls ends places []) ∙ number-in refusal

  told : number ≡ value_or 0 refusal_f
  told = refuses (first s tour head array distances times H) (gathered s tour head array distances times H)

  abbrev given : List Run
  given = with_places (runs_of calls ends) places

  pub refused-times : (number ≡ 0 → ⊥) → runs_refused number ≡ runs_times s tour (runs calls ends places)
  refused-times h = sym (ap (λ (o : Option ℕ). times_answer (unless_refused o (timelines_text s 1 given))) (sym same ∙ given-number number refusal_f told h))

  module _ (z : number ≡ 0) where
    free : refusal ≡ None
    free = sym same ∙ accepts marking (lent_of (sheet_of head (first s tour head array distances times H) distances times) tour calls ends places []) (sym z ∙ told)

    accepted : Accepted Some marking (lent_runs s tour calls ends places)
    accepted = accepted-within Some marking (lent_runs s tour calls ends places) free

    within-calls : WithinCalls s calls
    unfolding whole_sheet
    within-calls = accepted.calls

    rise : RiseTo 0 ends (length calls)
    rise = rises 0 ends (length calls) accepted.runs.ends

    pub few : length calls ≤ most_calls
    few = few-calls s calls within-calls

    pub few-ends : length ends ≤ most_calls
    few-ends = ltb-false most_calls (length ends) accepted.runs.few

    proper : All (Proper s) given
    proper = runs-proper s 0 calls ends places (subst (RiseTo 0 ends) (omega arith) rise) accepted.runs.some-call accepted.runs.breaks

    -- the first of the places, one for each run
    read_same : with_places (runs_of calls ends) (take most_calls places) ≡ given
    read_same = with_first (runs_of calls ends) places most_calls (omega (arith, few-ends, runs-many 0 calls ends))

    -- what is asked of the lists in the arrays
    pub asked : (RiseTo 0 ends (length calls)) × ((length calls ≤ 128) × (length ends ≤ length (take most_calls places))) × All Own (with_places (runs_of calls ends) (take most_calls places))
    asked = (
      rise,
      (few, omega (arith, few-ends, accepted.breaks refl, length-take most_calls places)),
      subst (All Own) (sym read_same) (all-imp (Proper s) Own (λ r P. (placed s r P).own) given proper),
    )

    pub times-told : times_f (lent array distances times head.places) (space_of head.capacity) (limits_of head.limits) 1 (with_places (runs_of calls ends) (take most_calls places))
        ≡ runs_times s tour (runs calls ends places)
    times-told =
        (λ i. times_f (lent array distances times head.places) (H.head-is i).capacity
        (record { max_distance = (H.head-is i).max_distance; max_duration = (H.head-is i).max_duration; rest = (H.head-is i).rest }) 1 (read_same i))
        ∙ times-exact s (sized s H.within) (lent array distances times head.places) H.tables 1 given
        (with_all (Inside s) (runs_of calls ends) places (runs-inside s 0 calls ends (few, calls-inside s calls within-calls))) proper
        ∙ sym (ap (λ (o : Option ℕ). times_answer (unless_refused o (timelines_text s 1 given))) free)
