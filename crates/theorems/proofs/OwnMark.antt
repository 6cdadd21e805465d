-- The planner's own cutting, given back to the marker with its break places, is accepted, and marked Best. Assumes nothing.
use Prim.Native.Nat.{ℕ, zero, suc, ◌+◌, ◌-◌, ◌≤◌}
use native.Mathlib.Omega.{arith}
use native.Mathlib.Nat.{zero-add}
use mathlib.Core.Path.{◌≡◌, refl, sym, ap, subst, ◌∙◌}
use mathlib.Core.Bool.{Bool, true, false, cond, not, true≢false}
use mathlib.Core.List.{List, [], ◌∷◌, map, append-nil}
use Rattle.std.specs.Prelude.{Option, None, Some}
use lib.ListN.{length, get_or, length-append, length-map}
use lib.Dec.{ltb, leb, eqb}
use borrow.Author.Tests.{ltb-false, le-ltb, leb-true, eqb-true, eq-eqb, ne_eqb}
use Rattle.basics.proofs.TestLaws.{both, or_left, or_right, or-false}
use Rattle.basics.specs.Options.{present}
use Rattle.basics.specs.Lists.{is_empty, any, All, count}
use Rattle.basics.proofs.ListLaws.{length-count, all-imp}
use Rattle.definitions.specs.Domain.{is_call, most_calls}
use Rattle.definitions.specs.Sheet.{Break, Sheet, map_break}
use Rattle.definitions.specs.Run.{Run, placed, legal}
use Rattle.definitions.specs.RunList.{calls_of, ends_from}
use Rattle.definitions.specs.Cutting.{calls_in, joined, legal_cutting}
use Rattle.definitions.specs.Placement.{Placement}
use Rattle.definitions.specs.Drop.{call_at, calls_at, Result, split_by}
use Rattle.definitions.specs.Promise.{Parts, ended, kept, gone}
use Rattle.definitions.specs.Marker.{best}
use Rattle.definitions.specs.Lent.{Lent, whole, whole_sheet, cutting, marking}
use Rattle.definitions.specs.Refusals.{ends_fall, empty_run, break_beyond, bad_calls, refusal_of}
use Rattle.definitions.specs.Answers.{gives, mark_by_of}
use Rattle.theorems.proofs.Ranges.{calls-in-range, range-calls, RunsEven}
use Rattle.theorems.proofs.RunListLaws.{ends-many}
use Rattle.theorems.proofs.Accepted.{present-same, Accepted, accepted-within, accepted-none}
use Rattle.theorems.proofs.Legality.{LegalFacts, legal-has}
use Rattle.theorems.proofs.Promised.{PromiseBy, promised-by}
use Rattle.theorems.proofs.GivenMarks.{given-own}

-- ---- served calls are calls of the tour

held-few : {l h d : List ℕ} → Parts l h d → length h ≤ length l
held-few ended = omega arith
held-few (kept x p) = let h = held-few p in omega arith
held-few (gone x p) = let h = held-few p in omega arith

module _ (Q : ℕ → Bool) where
  held-fails : (f : ℕ → ℕ) {l h d : List ℕ} → Parts l h d → any Q (map f l) ≡ false → any Q (map f h) ≡ false
  held-fails f ended e = refl
  held-fails f (kept {l} x p) e = or-false (Q (f x)) _ (or_left (Q (f x)) (any Q (map f l)) e) (held-fails f p (or_right (Q (f x)) (any Q (map f l)) e))
  held-fails f (gone {l} x p) e = held-fails f p (or_right (Q (f x)) (any Q (map f l)) e)

  fails-at : (l : List ℕ) (i : ℕ) → suc i ≤ length l → any Q l ≡ false → Q (get_or l i 0) ≡ false
  fails-at [] i h e = absurd (omega (arith, h))
  fails-at (x ∷ l) zero h e = or_left (Q x) (any Q l) e
  fails-at (x ∷ l) (suc i) h e = fails-at l i (omega (arith, h)) (or_right (Q x) (any Q l) e)

  tour-fails : (tour : List ℕ) (p n : ℕ) → p + n ≤ length tour → any Q tour ≡ false → any Q (calls_at tour (count (suc p) n)) ≡ false
  tour-fails tour p zero h e = refl
  tour-fails tour p (suc n) h e =
      or-false (Q (call_at tour (suc p))) _ (subst (λ (i : ℕ). Q (get_or tour i 0) ≡ false) (omega arith) (fails-at tour p (omega (arith, h)) e)) (tour-fails tour (suc p) n (omega (arith, h)) e)

pub served-in-range : (places : ℕ) (tour : List ℕ) {held dropped : List ℕ} → Parts (count 1 (length tour)) held dropped → bad_calls places tour ≡ false → bad_calls places (calls_at tour held) ≡ false
served-in-range places tour {held} p b =
    let R = calls-in-range places tour b in
    range-calls places (calls_at tour held)
    (record {
      few = le-ltb most_calls (length (calls_at tour held)) (omega (arith, ltb-false most_calls (length tour) R.few, held-few p, length-count 1 (length tour), length-map held (call_at tour)));
      each = held-fails (λ (c : ℕ). not (is_call places c)) (call_at tour) p (tour-fails (λ (c : ℕ). not (is_call places c)) tour 0 (length tour) (omega arith) R.each);
    })

-- ---- the ends of runs, and break places that are legal

ends-rise : (p : ℕ) (rs : List (List ℕ)) (n : ℕ) → p + length (calls_of rs) ≡ n → ends_fall p (ends_from p rs) n ≡ false
ends-rise p [] n e = rw (eq-eqb p n (omega (arith, e))) refl
ends-rise p (r ∷ rs) n e =
    or-false (ltb (p + length r) p) _ (le-ltb (p + length r) p (omega arith)) (ends-rise (p + length r) rs n (omega (arith, e, length-append r (calls_of rs))))

filled : (l : List ℕ) → not (is_empty l) ≡ true → 1 ≤ length l
filled [] h = absurd (true≢false (sym h))
filled (x ∷ l) h = omega arith

placed-in : (rest : Option Break) (place n duration : ℕ) → placed rest place n duration ≡ true → place ≤ cond (present rest) n 0
unfolding placed
placed-in None place n duration h = omega (arith, eqb-true place 0 h)
placed-in (Some b) zero n duration h = omega arith
placed-in (Some b) (suc k) n duration h = leb-true (suc k) n h

-- each break place of legal runs is at most the number of their calls
at_most : (b : Bool) (p n : ℕ) → p ≤ cond b n 0 → p ≤ n
at_most true p n h = h
at_most false p n h = omega arith

pub places-most : (s : Sheet) (rs : List Run) → legal_cutting s rs ≡ true → All (λ (p : ℕ). p ≤ length (joined rs)) (map (λ r. r.place) rs)
places-most s [] h = tt
places-most s (r ∷ rs) h =
    let b = both (legal s r) _ h in
    let (t, L) = legal-has s r b.0 in
    let here = at_most (present s.head.rest) r.place (length r.calls) (placed-in s.head.rest r.place (length r.calls) t.duration L.break-placed) in
    let m = length-append r.calls (joined rs) in (
      omega (arith, here, m),
      all-imp (λ (p : ℕ). p ≤ length (joined rs)) (λ (p : ℕ). p ≤ length (joined (r ∷ rs))) (λ p k. omega (arith, k, m)) (map (λ r. r.place) rs) (places-most s rs b.1),
    )

module _ (s : Sheet) where
  none-empty : (p : ℕ) (rs : List Run) → legal_cutting s rs ≡ true → empty_run p (ends_from p (calls_in rs)) ≡ false
  none-empty p [] h = refl
  none-empty p (r ∷ rs) h =
      let b = both (legal s r) _ h in
      let (t, L) = legal-has s r b.0 in
      or-false (eqb (p + length r.calls) p) _ (ne_eqb (p + length r.calls) p (λ e. absurd (omega (arith, e, filled r.calls L.some-calls))))
      (none-empty (p + length r.calls) rs b.1)

  none-beyond : (p : ℕ) (rs : List Run) → legal_cutting s rs ≡ true → break_beyond (present s.head.rest) p (ends_from p (calls_in rs)) (map (λ r. r.place) rs) ≡ false
  none-beyond p [] h = refl
  none-beyond p (r ∷ rs) h =
      let b = both (legal s r) _ h in
      let (t, L) = legal-has s r b.0 in
      or-false (ltb (cond (present s.head.rest) (p + length r.calls - p) 0) r.place) _
      (le-ltb (cond (present s.head.rest) (p + length r.calls - p) 0) r.place
      (subst (λ (n : ℕ). r.place ≤ cond (present s.head.rest) n 0) (omega arith) (placed-in s.head.rest r.place (length r.calls) t.duration L.break-placed)))
      (none-beyond (p + length r.calls) rs b.1)

  pub few-runs : (rs : List Run) → legal_cutting s rs ≡ true → length rs ≤ length (joined rs)
  few-runs [] h = omega arith
  few-runs (r ∷ rs) h =
      let b = both (legal s r) _ h in
      let (t, L) = legal-has s r b.0 in
      omega (arith, filled r.calls L.some-calls, few-runs rs b.1, length-append r.calls (joined rs))

-- ---- the planner's cutting given back

module _ (p : Placement) {F : Type 0} (value : F → Option ℕ) (l : Lent F) where
  -- the sheet that is meant, and its plan
  abbrev s : Sheet
  s = whole_sheet value l.sheet

  abbrev plan : Result
  plan = split_by p s l.tour

  -- what the marker is then lent
  abbrev pub own_lent : Lent F
  own_lent = record { sheet = l.sheet; tour = l.tour; calls = plan.served; ends = plan.ends; breaks = plan.places; rooms = [] }

  module _ (accepted : refusal_of value cutting l ≡ None) where
    A : Accepted value cutting l
    A = accepted-within value cutting l accepted

    P : PromiseBy p s l.tour plan
    P = promised-by s l.tour p

    own-calls : bad_calls l.sheet.head.places plan.served ≡ false
    unfolding whole_sheet
    own-calls = subst (λ (c : List ℕ). bad_calls l.sheet.head.places c ≡ false) P.served-are (served-in-range l.sheet.head.places l.tour P.parted A.tour)

    many : length plan.ends ≡ length P.runs
    many = ap length (sym P.ends-are) ∙ ends-many 0 (calls_in P.runs) ∙ length-map P.runs (λ r. r.calls)

    own_runs : RunsEven marking own_lent
    unfolding whole_sheet
    own_runs =
        record {
          few =
              le-ltb most_calls (length plan.ends)
              (omega (
                arith,
                many,
                few-runs s P.runs P.all-legal,
                ap length P.cuts,
                ltb-false most_calls (length plan.served) (calls-in-range l.sheet.head.places plan.served own-calls).few,
              ));
          ends =
              subst (λ (e : List ℕ). ends_fall 0 e (length plan.served) ≡ false) P.ends-are
              (ends-rise 0 (calls_in P.runs) (length plan.served) (zero-add (length (joined P.runs)) ∙ ap length P.cuts));
          some-call = subst (λ (e : List ℕ). empty_run 0 e ≡ false) P.ends-are (none-empty s 0 P.runs P.all-legal);
          breaks =
              subst (λ (b : Bool). break_beyond b 0 plan.ends plan.places ≡ false) (present-same (map_break (whole value)) l.sheet.head.rest)
              (subst (λ (e : List ℕ). break_beyond (present s.head.rest) 0 e plan.places ≡ false) P.ends-are
              (subst (λ (b : List ℕ). break_beyond (present s.head.rest) 0 (ends_from 0 (calls_in P.runs)) b ≡ false) P.places-are (none-beyond s 0 P.runs P.all-legal)));
        }

    -- the marker accepts it where the cutting accepts the sheet and its tour
    pub own-accepted : refusal_of value marking own_lent ≡ None
    unfolding whole_sheet
    own-accepted =
        accepted-none value marking own_lent
        (record {
          customers = A.customers;
          results = tt;
          breaks = λ m. omega (arith, many, ap length P.places-are, length-map P.runs (λ r. r.place));
          ranged = A.ranged;
          within = A.within;
          tour = A.tour;
          calls = own-calls;
          once = A.once;
          runs = own_runs;
          unpaid = λ m. absurd (true≢false (sym m));
          drivable = λ m. absurd (true≢false (sym m));
        })

    -- and marks it Best
    pub own-marked : mark_by_of value p own_lent ≡ gives best
    own-marked = given-own value own_lent p own-accepted refl refl [] (sym (append-nil plan.places))
