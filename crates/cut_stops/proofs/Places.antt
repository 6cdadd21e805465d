-- A place in the lists of numbers: what is put is what is read, and the other places stay. Assumes nothing.
use Prim.Native.Nat.{ℕ, zero, suc, ◌+◌, ◌*◌, ◌<◌, ◌≤◌}
use native.Mathlib.Numerals.{add-one}
use native.Mathlib.Nat.{add-zero}
use native.Mathlib.Omega.{arith}
use mathlib.Core.Path.{◌≡◌, refl, sym, ap, ap₂, ◌∙◌}
use mathlib.Core.List.{List, [], ◌∷◌}
use Rattle.std.specs.Prelude.{Option, None, Some}
use mathlib.Core.Logic.{◌≢◌}
use lib.ListN.{length, get_or, set, length-set}
use lib.Seq.{sets, length-sets, get_or-set_same, get_or-set_other, set-get_or}
use lib.Dec.{eqb}
use lib.Ieee.{Float, nan}
use borrow.Author.Tests.{eqb-true, eqb-false, lt-ltb}
use Rattle.basics.proofs.TestLaws.{by-test}
use Rattle.definitions.specs.Sheet.{WindowOf, CustomerOf}
use Rattle.distance.specs.declared.leg.Leg.{Leg}
use Rattle.distance.specs.Lookup.{drive_f}
use Rattle.models.specs.declared.customer.Customer.{Customer}
use Rattle.models.specs.Records.{customer_of}
use Rattle.evaluation.specs.Records.{Tables, lent}
use Rattle.evaluation.specs.Tables.{record_index}
use Rattle.evaluation.proofs.Reading.{read-record}
use Rattle.cut_stops.specs.Stops.{StopF, opening_at, penalty_at, code, times_in, price_in, codes_of, record_figures, leg_figures, figures_of, codes_each, figures_each, Numbers, numbers, Long, place_by, stop_in, stop_at, Put, StopsTo, StopsOf}

-- ---- a run of stores

module _ {A : Type 0} (d : A) where
  sets-out : (vs l : List A) (i j : ℕ) → (i ≤ j → j < i + length vs → ⊥) → get_or (sets l i vs) j d ≡ get_or l j d
  sets-out [] l i j h = refl
  sets-out (a ∷ vs) l i j h = sets-out vs (set l i a) (suc i) j (λ x y. h (omega arith) (omega arith)) ∙ get_or-set_other l i j a d (λ e. h (omega arith) (omega arith))

  sets-in : (vs l : List A) (i j : ℕ) → i + length vs ≤ length l → j < length vs → get_or (sets l i vs) (i + j) d ≡ get_or vs j d
  sets-in [] l i j h k = absurd (omega arith)
  sets-in (a ∷ vs) l i zero h k =
      ap (λ (n : ℕ). get_or (sets l i (a ∷ vs)) n d) (add-zero i) ∙ sets-out vs (set l i a) (suc i) i (λ x y. omega arith) ∙ get_or-set_same l i a d (omega arith)
  sets-in (a ∷ vs) l i (suc j) h k =
      let e : i + suc j ≡ suc i + j = omega arith in
      ap (λ (n : ℕ). get_or (sets l i (a ∷ vs)) n d) e ∙ sets-in vs (set l i a) (suc i) j (simp length-set (omega arith)) (omega arith)

-- ---- a window and a penalty through their code

opening-back : (o : Option (WindowOf Float)) → opening_at (code o) (times_in o).ready (times_in o).due ≡ o
opening-back None = refl
opening-back (Some w) = refl

penalty-back : (o : Option Float) → penalty_at (code o) (price_in o) ≡ o
penalty-back None = refl
penalty-back (Some p) = refl

-- ---- a place that is put

-- the numbers of its record, stored one after the other
module _ (x : CustomerOf Float) (i : ℕ) where
  pub codes-stored : (l : List ℕ) (a b : ℕ) → a ≡ code x.window → b ≡ code x.penalty
      → set (set (set (set l i x.demand.seats) (i + 1) x.demand.wheelchairs) (i + 2) a) (i + 3) b ≡ sets l i (codes_of x)
  unfolding codes_of
  codes-stored l a b ea eb =
      let e2 : i + 2 ≡ suc (suc i) = omega arith in
      let e3 : i + 3 ≡ suc (suc (suc i)) = omega arith in
      rw (ea, eb, add-one, e2, e3) refl

  pub figures-stored : (l : List Float) (w : WindowOf Float) (p : Float) → w ≡ times_in x.window → p ≡ price_in x.penalty
      → set (set (set (set l (i + 4) x.service) (i + 5) w.ready) (i + 6) w.due) (i + 7) p ≡ sets l (i + 4) (record_figures x)
  figures-stored l w p ew ep =
      let e5 : i + 5 ≡ suc (i + 4) = omega arith in
      let e6 : i + 6 ≡ suc (suc (i + 4)) = omega arith in
      let e7 : i + 7 ≡ suc (suc (suc (i + 4))) = omega arith in
      rw (ew, ep, e5, e6, e7) refl

-- the four figures before them
pub legs-stored : (out back : Leg) (i : ℕ) (l : List Float)
    → set (set (set (set l i out.distance) (i + 1) back.distance) (i + 2) out.time) (i + 3) back.time
    ≡ sets l i (out.distance ∷ back.distance ∷ out.time ∷ back.time ∷ [])
legs-stored out back i l =
    let e2 : i + 2 ≡ suc (suc i) = omega arith in
    let e3 : i + 3 ≡ suc (suc (suc i)) = omega arith in
    rw (add-one, e2, e3) refl

figures-joined : (s : StopF) (i : ℕ) (l : List Float)
    → sets (sets l i (s.out ∷ s.back ∷ s.time_out ∷ s.time_back ∷ [])) (i + 4) (record_figures s.customer) ≡ sets l i (figures_of s)
unfolding figures_of
figures-joined s i l = let e4 : i + 4 ≡ suc (suc (suc (suc i))) = omega arith in rw e4 refl

module _ (x : Numbers) (c : ℕ) where
  -- number j of its codes, and of its figures
  abbrev code_at : ℕ → ℕ
  code_at j = get_or x.codes (codes_each * c + j) 0

  abbrev figure_at : ℕ → Float
  figure_at j = get_or x.figures (figures_each * c + j) nan

-- what stands at a place
module _ (x : Numbers) (c : ℕ) where
  -- its record is read, with what its window and penalty are
  pub record-read : (o : Option (WindowOf Float)) (p : Option Float)
      → o ≡ opening_at (code_at x c 2) (figure_at x c 5) (figure_at x c 6) → p ≡ penalty_at (code_at x c 3) (figure_at x c 7)
      → ◌≡◌ {A = CustomerOf Float}
      (record {
        demand = record { seats = get_or x.codes (codes_each * c) 0; wheelchairs = code_at x c 1 };
        service = figure_at x c 4;
        window = o;
        penalty = p;
      })
      (stop_at x c).customer
  unfolding stop_at
  record-read o p eo ep = rw (eo, ep, add-zero (codes_each * c)) refl

  -- and the rest of it
  pub stop-read : (r : CustomerOf Float) → r ≡ (stop_at x c).customer
      → ◌≡◌ {A = StopF}
      (record {
        customer = r;
        out = get_or x.figures (figures_each * c) nan;
        back = figure_at x c 1;
        time_out = figure_at x c 2;
        time_back = figure_at x c 3;
      })
      (stop_at x c)
  unfolding stop_at
  stop-read r e = rw (e, add-zero (figures_each * c)) refl

  -- its codes and figures make a stop
  stop-of : (s : StopF) → ((j : ℕ) → j < codes_each → code_at x c j ≡ get_or (codes_of s.customer) j 0)
      → ((j : ℕ) → j < figures_each → figure_at x c j ≡ get_or (figures_of s) j nan) → stop_at x c ≡ s
  unfolding stop_at codes_of figures_of
  stop-of s n f =
      rw (n 0 (omega arith), n 1 (omega arith), n 2 (omega arith), n 3 (omega arith))
      (rw (f 0 (omega arith), f 1 (omega arith), f 2 (omega arith), f 3 (omega arith), f 4 (omega arith), f 5 (omega arith), f 6 (omega arith), f 7 (omega arith))
      (rw (opening-back s.customer.window, penalty-back s.customer.penalty) refl))

  same_stop : (x' : Numbers) → ((j : ℕ) → j < codes_each → code_at x' c j ≡ code_at x c j)
      → ((j : ℕ) → j < figures_each → figure_at x' c j ≡ figure_at x c j) → stop_at x' c ≡ stop_at x c
  unfolding stop_at
  same_stop x' n f =
      rw (n 0 (omega arith), n 1 (omega arith), n 2 (omega arith), n 3 (omega arith))
      (rw (f 0 (omega arith), f 1 (omega arith), f 2 (omega arith), f 3 (omega arith), f 4 (omega arith), f 5 (omega arith), f 6 (omega arith), f 7 (omega arith)) refl)

-- a stop is put at place c
abbrev with : Numbers → ℕ → StopF → Numbers
with x c s = numbers (sets x.codes (codes_each * c) (codes_of s.customer)) (sets x.figures (figures_each * c) (figures_of s))

module _ (x : Numbers) (c : ℕ) (s : StopF) where
  pub stop-put : Long x → c < 64 → stop_at (with x c s) c ≡ s
  stop-put l h =
      stop-of (with x c s) c s
      (λ j k. sets-in 0 (codes_of s.customer) x.codes (codes_each * c) j (unfold codes_of in omega arith) (unfold codes_of in k))
      (λ j k. sets-in nan (figures_of s) x.figures (figures_each * c) j (unfold figures_of in omega arith) (unfold figures_of in k))

  pub stop-kept : (k : ℕ) → k ≢ c → stop_at (with x c s) k ≡ stop_at x k
  unfolding codes_of figures_of
  stop-kept k h =
      same_stop x k (with x c s)
      (λ j b. sets-out 0 (codes_of s.customer) x.codes (codes_each * c) (codes_each * k + j) (λ x y. h (omega arith)))
      (λ j b. sets-out nan (figures_of s) x.figures (figures_each * c) (figures_each * k + j) (λ x y. h (omega arith)))

  pub stop-placed : (new : Numbers) → Long x → c < 64 → new.codes ≡ (with x c s).codes → new.figures ≡ (with x c s).figures → Put x c s new
  stop-placed new l h ec ef =
      rw (numbered new ec ef)
      (record {
        long =
            record {
              codes-long = length-sets x.codes (codes_each * c) (codes_of s.customer) ∙ l.codes-long;
              figures-long = length-sets x.figures (figures_each * c) (figures_of s) ∙ l.figures-long;
            };
        here = stop-put l h;
        others = stop-kept;
      })
    where
      numbered : (new : Numbers) → new.codes ≡ (with x c s).codes → new.figures ≡ (with x c s).figures → new ≡ with x c s
      numbered new e f = ap₂ numbers e f

-- its legs first, and then its record
pub place-put : (x new : Numbers) (c : ℕ) (r : CustomerOf Float) (leg : ℕ → ℕ → Option Leg) (middle : List Float) → Long x → c < 64
    → new.codes ≡ sets x.codes (codes_each * c) (codes_of r) → middle ≡ sets x.figures (figures_each * c) (leg_figures leg c)
    → new.figures ≡ sets middle (figures_each * c + 4) (record_figures r) → Put x c (place_by r leg c) new
place-put x new c r leg middle l h ec em ef =
    stop-placed x c (place_by r leg c) new l h ec
    (ef
    ∙ ap (λ (m : List Float). sets m (figures_each * c + 4) (record_figures r)) em
    ∙ figures-joined (place_by r leg c) (figures_each * c) x.figures)

-- its record alone
abbrev pub recorded : Numbers → ℕ → CustomerOf Float → StopF
recorded x c r = record { customer = r; out = figure_at x c 0; back = figure_at x c 1; time_out = figure_at x c 2; time_back = figure_at x c 3 }

pub record-put : (x new : Numbers) (c : ℕ) (r : CustomerOf Float) → Long x → c < 64 → new.codes ≡ sets x.codes (codes_each * c) (codes_of r)
    → new.figures ≡ sets x.figures (figures_each * c + 4) (record_figures r) → Put x c (recorded x c r) new
record-put x new c r l h ec ef =
    stop-placed x c (recorded x c r) new l h ec
    (ef
    ∙ ap (λ (m : List Float). sets m (figures_each * c + 4) (record_figures r)) (sym (legs-same x.figures (figures_each * c)))
    ∙ figures-joined (recorded x c r) (figures_each * c) x.figures)
  where
    legs-same : (m : List Float) (i : ℕ) → sets m i (get_or m (i + 0) nan ∷ get_or m (i + 1) nan ∷ get_or m (i + 2) nan ∷ get_or m (i + 3) nan ∷ []) ≡ m
    legs-same m i =
        let e2 : i + 2 ≡ suc (suc i) = omega arith in
        let e3 : i + 3 ≡ suc (suc (suc i)) = omega arith in
        rw (add-zero, add-one, e2, e3, set-get_or m i nan, set-get_or m (suc i) nan, set-get_or m (suc (suc i)) nan, set-get_or m (suc (suc (suc i))) nan) refl

-- ---- the places of calls

module _ (t : Tables) (x new : Numbers) (n : ℕ) (s : StopF) where
  -- the place of one call more
  pub stops-more : (calls : List ℕ) → StopsTo t calls x n → Put x (get_or calls n 0) s new → s ≡ stop_in t (get_or calls n 0) → StopsTo t calls new (n + 1)
  stops-more calls W P es =
      record {
        long = P.long;
        stops-are =
            λ k b.
            let c = get_or calls n 0 in
            let d = get_or calls k 0 in
            by-test (eqb d c) (λ e. rw (eqb-true d c e) (P.here ∙ es)) (λ e. P.others d (eqb-false d c e) ∙ W.stops-are k (earlier k b (eqb-false d c e)));
      }
    where
      earlier : (k : ℕ) → k < n + 1 → (get_or calls k 0 ≡ get_or calls n 0 → ⊥) → k < n
      earlier k b other = by-test (eqb k n) (λ e. absurd (other (ap (λ (j : ℕ). get_or calls j 0) (eqb-true k n e)))) (λ e. omega (arith, b, eqb-false k n e))

pub stops-all : (t : Tables) (calls : List ℕ) (x : Numbers) (n : ℕ) → StopsTo t calls x n → length calls ≤ n → StopsOf t calls x
stops-all t calls x n W h = record { long = W.long; stops-are = λ k b. W.stops-are k (omega arith) }

-- what is looked up of a place
pub looked-up : (customers : List Customer) (distances times : List Float) (size c : ℕ) (d : Customer) → length customers ≡ 64 → c < 64
    → place_by (customer_of (get_or customers c d)) (drive_f distances times size) c ≡ stop_in (lent customers distances times size) c
unfolding stop_in
looked-up customers distances times size c d long h =
    let i : c ≡ record_index c = rw (lt-ltb c 64 h) refl in
    ap (λ (r : CustomerOf Float). place_by r (drive_f distances times size) c) (read-record customers distances times size c c d long i h)
