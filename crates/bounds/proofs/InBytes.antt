-- Reading back what a call has written in bytes gives the same numbers: each number of its lists is one that a byte holds. Assumes nothing.
use Prim.Native.Nat.{ℕ, zero, suc, ◌+◌, ◌-◌, ◌≤◌, ◌<◌}
use native.Mathlib.Omega.{arith}
use native.Mathlib.Nat.{zero-add}
use mathlib.Core.Path.{◌≡◌, refl, sym, ap, ap₂, subst, ◌∙◌}
use mathlib.Core.Bool.{false}
use mathlib.Core.List.{List, [], ◌∷◌, map}
use Rattle.std.specs.Prelude.{Option, None, Some}
use lib.ListN.{length, length-map, length-append, drop}
use lib.Seq.{take-append_seam}
use Rattle.basics.specs.Lists.{All, Same, count, sum}
use Rattle.basics.proofs.ListLaws.{all-imp, all_get_d, all_map, length-count}
use Rattle.definitions.specs.Domain.{most_calls}
use Rattle.definitions.specs.Sheet.{Sheet}
use Rattle.definitions.specs.RunList.{runs_of, calls_of, ends_from, ends_of}
use Rattle.definitions.specs.Cutting.{calls_in, joined}
use Rattle.definitions.specs.Placement.{Placement, by_clock}
use Rattle.definitions.specs.Drop.{call_at, Result, split, split_by}
use Rattle.definitions.specs.Promise.{Parts, ended, kept, gone}
use Rattle.definitions.specs.Clauses.{bare}
use Rattle.definitions.specs.Improver.{given_of}
use Rattle.definitions.specs.TwoOpt.{improved}
use Rattle.definitions.specs.Elimination.{eliminated}
use Rattle.definitions.specs.Lent.{Lent, whole_sheet, Call, cutting, reversing, eliminating}
use Rattle.definitions.specs.Refusals.{Within, WithinCalls, ends_fall, refusal_of}
use Rattle.definitions.specs.Room.{written}
use Rattle.definitions.specs.Bytes.{byte_of, stored, read_back}
use Rattle.definitions.specs.Answers.{Answer, front, unless_refused, answer, two_opt, eliminate, two_opt_of, eliminate_of}
use Rattle.theorems.proofs.Accepted.{Accepted, accepted-within}
use Rattle.theorems.proofs.Bare.{split-by-clock}
use Rattle.theorems.proofs.EliminationLaws.{eliminated-eliminates}
use Rattle.theorems.proofs.GivenRuns.{rises}
use Rattle.theorems.proofs.OwnMark.{places-most, few-runs}
use Rattle.theorems.proofs.Promised.{PromiseBy, promised-by}
use Rattle.theorems.proofs.RunListLaws.{RiseTo, calls_back, sum-calls, ends-many}
use Rattle.theorems.proofs.TwoOptLaws.{improved-same}
use Rattle.bounds.specs.Sized.{Place}
use Rattle.bounds.proofs.Inside.{sized, few-calls, calls-inside, same-inside}
use Rattle.bounds.proofs.CostBoundLaws.{parts-few}

-- ---- numbers that a byte holds

-- the largest is the run end of the longest run list
abbrev pub InBytes : List ℕ → Type 0
InBytes ns = All (λ (n : ℕ). n ≤ most_calls) ns

byte-same : (n : ℕ) → n ≤ most_calls → byte_of n ≡ n
unfolding byte_of
byte-same n h = omega arith

pub bytes_same : (ns : List ℕ) → InBytes ns → map byte_of ns ≡ ns
bytes_same [] h = refl
bytes_same (n ∷ ns) h = ap₂ (λ (m : ℕ) (l : List ℕ). m ∷ l) (byte-same n h.0) (bytes_same ns h.1)

-- reading back what was written gives the same numbers
pub bytes-read-back : (ns old : List ℕ) → InBytes ns → read_back (length ns) (stored ns old) ≡ ns
bytes-read-back ns old h = ap (λ (l : List ℕ). read_back (length ns) (written l old)) (bytes_same ns h) ∙ take-append_seam ns (drop (length ns) old)

-- ---- calls, run ends, break places and positions

-- customers of a sheet
module _ (s : Sheet) (W : Within s) where
  customers-in-bytes : (cs : List ℕ) → All (Place s) cs → InBytes cs
  customers-in-bytes cs h = let few = (sized s W).few-places in all-imp (Place s) (λ (n : ℕ). n ≤ most_calls) (λ n b. omega (arith, few)) cs h

  pub calls-in-bytes : (calls : List ℕ) → WithinCalls s calls → InBytes calls
  calls-in-bytes calls c = customers-in-bytes calls (calls-inside s calls c)

-- each end of runs is at most the number of their calls
ends-most : (p : ℕ) (rs : List (List ℕ)) → All (λ (e : ℕ). e ≤ p + length (calls_of rs)) (ends_from p rs)
ends-most p [] = tt
ends-most p (r ∷ rs) =
    let m = length-append r (calls_of rs) in (
      omega (arith, m),
      all-imp (λ (e : ℕ). e ≤ p + length r + length (calls_of rs)) (λ (e : ℕ). e ≤ p + length (calls_of (r ∷ rs))) (λ e h. omega (arith, h, m)) (ends_from (p + length r) rs)
          (ends-most (p + length r) rs),
    )

ends-in-bytes : (rs : List (List ℕ)) → length (calls_of rs) ≤ most_calls → InBytes (ends_of rs)
ends-in-bytes rs few = all-imp (λ (e : ℕ). e ≤ 0 + length (calls_of rs)) (λ (e : ℕ). e ≤ most_calls) (λ e h. omega (arith, h, few)) (ends_of rs) (ends-most 0 rs)

-- positions are at most the length of the tour
count_most : (a n : ℕ) → All (λ (p : ℕ). p < a + n) (count a n)
count_most a zero = tt
count_most a (suc n) = (omega arith, all-imp (λ (p : ℕ). p < suc a + n) (λ (p : ℕ). p < a + suc n) (λ p h. omega (arith, h)) (count (suc a) n) (count_most (suc a) n))

dropped-all : (P : ℕ → Type 0) {l h d : List ℕ} → Parts l h d → All P l → All P d
dropped-all P ended a = tt
dropped-all P (kept x p) a = dropped-all P p a.1
dropped-all P (gone x p) a = (a.0, dropped-all P p a.1)

-- ---- what a cut writes

pub record CutInBytes (x : Result) : Type 0 where
  pub served : InBytes x.served
  pub ends : InBytes x.ends
  pub dropped : InBytes x.dropped
  pub places : InBytes x.places

everywhere : (Q : ℕ → Type 0) → ((n : ℕ) → Q n) → (l : List ℕ) → All Q l
everywhere Q h [] = tt
everywhere Q h (x ∷ l) = (h x, everywhere Q h l)

-- for either placement of the breaks
module _ (placement : Placement) (tour : List ℕ) (calls : InBytes tour) (few : length tour ≤ most_calls) (s : Sheet) where
  abbrev P : PromiseBy placement s tour (split_by placement s tour)
  P = promised-by s tour placement

  served-few : length (joined P.runs) ≤ most_calls
  served-few = omega (arith, few, ap length P.cuts, ap length P.served-are, length-map P.held (call_at tour), parts-few P.parted, length-count 1 (length tour))

  pub split-by-in-bytes : CutInBytes (split_by placement s tour)
  split-by-in-bytes =
      record {
        served =
            subst InBytes P.served-are (all_map (λ (n : ℕ). n ≤ most_calls) (call_at tour) P.held
            (everywhere (λ (p : ℕ). call_at tour p ≤ most_calls) (λ p. all_get_d (λ (n : ℕ). n ≤ most_calls) tour (p - 1) 0 calls (omega arith)) P.held));
        ends = subst InBytes P.ends-are (ends-in-bytes (calls_in P.runs) served-few);
        dropped =
            all-imp (λ (p : ℕ). p < 1 + length tour) (λ (p : ℕ). p ≤ most_calls) (λ p h. omega (arith, h, few)) (split_by placement s tour).dropped
            (dropped-all (λ (p : ℕ). p < 1 + length tour) P.parted (count_most 1 (length tour)));
        places =
            subst InBytes P.places-are
            (all-imp (λ (p : ℕ). p ≤ length (joined P.runs)) (λ (p : ℕ). p ≤ most_calls) (λ p h. omega (arith, h, served-few)) (map (λ r. r.place) P.runs)
            (places-most s P.runs P.all-legal));
      }

pub split-in-bytes : (tour : List ℕ) → InBytes tour → length tour ≤ most_calls → (s : Sheet) → CutInBytes (split s tour)
split-in-bytes tour calls few s = subst CutInBytes (split-by-clock s tour) (split-by-in-bytes by_clock tour calls few (bare s))

-- no list of a cut is longer than the tour
pub record CutFew (n : ℕ) (x : Result) : Type 0 where
  pub served : length x.served ≤ n
  pub ends : length x.ends ≤ n
  pub dropped : length x.dropped ≤ n

parts-gone : {l h d : List ℕ} → Parts l h d → length d ≤ length l
parts-gone ended = omega arith
parts-gone (kept x p) = let h = parts-gone p in omega arith
parts-gone (gone x p) = let h = parts-gone p in omega arith

module _ (tour : List ℕ) where
  pub split-by-few : (p : Placement) (s : Sheet) → CutFew (length tour) (split_by p s tour)
  split-by-few p s =
      let P = promised-by s tour p in
      let served : length (split_by p s tour).served ≤ length tour =
      omega (arith, parts-few P.parted, length-count 1 (length tour), ap length P.served-are, length-map P.held (call_at tour)) in
      record {
        served = served;
        ends =
            omega (
              arith,
              served,
              ap length P.ends-are,
              ends-many 0 (calls_in P.runs),
              length-map P.runs (λ r. r.calls),
              few-runs s P.runs P.all-legal,
              ap length P.cuts,
            );
        dropped = omega (arith, parts-gone P.parted, length-count 1 (length tour));
      }

  pub split-few : (s : Sheet) → CutFew (length tour) (split s tour)
  split-few s = subst (CutFew (length tour)) (split-by-clock s tour) (split-by-few by_clock (bare s))

-- ---- what the improvers write

module _ (s : Sheet) (W : Within s) where
  pub improved-in-bytes : (run : List ℕ) → WithinCalls s run → InBytes (improved (given_of s) run)
  improved-in-bytes run c =
      customers-in-bytes s W (improved (given_of s) run) (same-inside s run (improved (given_of s) run) (λ f. sym (improved-same (given_of s) run f)) (calls-inside s run c))

  module _ (calls ends : List ℕ) (c : WithinCalls s calls) (rise : ends_fall 0 ends (length calls) ≡ false) where
    abbrev left : List (List ℕ)
    left = eliminated (given_of s) (runs_of calls ends)

    -- the same calls as before
    same-calls : Same calls (calls_of left)
    same-calls f =
        ap (sum f) (sym (calls_back 0 calls ends (subst (RiseTo 0 ends) (sym (zero-add (length calls))) (rises 0 ends (length calls) rise))))
        ∙ sum-calls f (runs_of calls ends)
        ∙ sym ((eliminated-eliminates (given_of s) (runs_of calls ends)).calls f)
        ∙ sym (sum-calls f left)

    pub left-calls-in-bytes : InBytes (calls_of left)
    left-calls-in-bytes = customers-in-bytes s W (calls_of left) (same-inside s calls (calls_of left) same-calls (calls-inside s calls c))

    left-few : length (calls_of left) ≤ most_calls
    left-few = omega (arith, few-calls s calls c, same-calls (λ x. 1), ones calls, ones (calls_of left))
      where
        ones : (l : List ℕ) → sum (λ x. 1) l ≡ length l
        ones [] = refl
        ones (x ∷ l) = let h = ones l in omega arith

    pub left-ends-in-bytes : InBytes (ends_of left)
    left-ends-in-bytes = ends-in-bytes left left-few

-- ---- every list that a call writes, over whatever it is lent: nothing where it is refused

module _ {F : Type 0} (value : F → Option ℕ) (l : Lent F) where
  -- the sheet that is meant
  abbrev s : Sheet
  s = whole_sheet value l.sheet

  front-in-bytes : {A : Type 0} (k : Call) (result : Sheet → A) (list : A → List ℕ) → (Accepted value k l → InBytes (list (result s)))
      → InBytes (front list (answer value k result l))
  unfolding answer
  front-in-bytes k result list h = go (refusal_of value k l) refl
    where
      go : (o : Option ℕ) → refusal_of value k l ≡ o → InBytes (front list (unless_refused o (result s)))
      go (Some number) e = tt
      go None e = h (accepted-within value k l e)

  module _ (cut : Sheet → List ℕ → Result)
      (small : (tour : List ℕ) → InBytes tour → length tour ≤ most_calls → (s : Sheet) → CutInBytes (cut s tour)) where
    -- the list of an accepted cut
    cut_list : (list : Result → List ℕ) → ((x : Result) → CutInBytes x → InBytes (list x)) → InBytes (front list (answer value cutting (λ s. cut s l.tour) l))
    cut_list list of =
        front-in-bytes cutting (λ s. cut s l.tour) list
        (λ a. of (cut s l.tour) (small l.tour (calls-in-bytes s a.within l.tour a.tour) (few-calls s l.tour a.tour) s))

    pub record CutWritten (a : Answer Result) : Type 0 where
      pub served : InBytes (front (λ x. x.served) a)
      pub ends : InBytes (front (λ x. x.ends) a)
      pub dropped : InBytes (front (λ x. x.dropped) a)

    pub cut-in-bytes : CutWritten (answer value cutting (λ s. cut s l.tour) l)
    cut-in-bytes =
        record {
          served = cut_list (λ x. x.served) (λ x b. b.served);
          ends = cut_list (λ x. x.ends) (λ x b. b.ends);
          dropped = cut_list (λ x. x.dropped) (λ x b. b.dropped);
        }

  pub reversal-in-bytes : InBytes (front (λ x. x.calls) (two_opt_of value l))
  reversal-in-bytes = front-in-bytes reversing (λ s. two_opt s l.calls) (λ x. x.calls) (λ a. improved-in-bytes s a.within l.calls a.calls)

  pub elimination-calls-in-bytes : InBytes (front (λ x. x.calls) (eliminate_of value l))
  elimination-calls-in-bytes =
      front-in-bytes eliminating (λ s. eliminate s (runs_of l.calls l.ends)) (λ x. x.calls)
      (λ a. left-calls-in-bytes s a.within l.calls l.ends a.calls a.runs.ends)

  pub elimination-ends-in-bytes : InBytes (front (λ x. x.ends) (eliminate_of value l))
  elimination-ends-in-bytes =
      front-in-bytes eliminating (λ s. eliminate s (runs_of l.calls l.ends)) (λ x. x.ends)
      (λ a. left-ends-in-bytes s a.within l.calls l.ends a.calls a.runs.ends)
