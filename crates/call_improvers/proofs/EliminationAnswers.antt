-- The answer of `eliminate_routes` and what it writes: refused with nothing written, or the calls and the run ends that are left. Assumes nothing.
use Prim.Native.Nat.{ℕ, ◌≤◌, min}
use native.Mathlib.Omega.{arith}
use native.Mathlib.Nat.{zero-add}
use mathlib.Core.Path.{◌≡◌, refl, sym, ap, subst, ◌∙◌}
use mathlib.Core.Bool.{false}
use mathlib.Core.List.{List, [], ◌∷◌}
use lib.ListN.{length, take}
use borrow.Author.Tests.{ltb-false}
use Rattle.bounds.proofs.Inside.{few-calls}
use Rattle.definitions.specs.Domain.{most_calls}
use Rattle.definitions.specs.RunList.{runs_of, calls_of, ends_of}
use Rattle.definitions.specs.Lent.{eliminating}
use Rattle.definitions.specs.Refusals.{ends_fall}
use Rattle.definitions.specs.Room.{written}
use Rattle.definitions.specs.Bytes.{stored}
use Rattle.definitions.specs.Answers.{Answer, Eliminated, refused, gives, front, eliminate}
use Rattle.theorems.proofs.Accepted.{Accepted}
use Rattle.theorems.proofs.GivenRuns.{rises, runs-many}
use Rattle.theorems.proofs.RunListLaws.{RiseTo, calls_back, ends-many}
use Rattle.whole.specs.Value.{value}
use Rattle.models.specs.declared.customer.Customer.{Customer}
use Rattle.lending.specs.Padding.{padded}
use Rattle.byte_lists.proofs.Widened.{zeros, all_there}
use Rattle.byte_lists.proofs.Narrowed.{narrowed, all-narrowed}
use Rattle.evaluation.specs.Records.{limits_of}
use Rattle.improve_base.specs.Search.{SearchF}
use Rattle.route_elimination.specs.Elimination.{eliminated_f, Counts, Lists, lists, Leaves}
use Rattle.route_elimination.proofs.Fewer.{eliminated-fewer}
use Rattle.route_elimination.specs.declared.route_elimination.Left.{Left}
use Rattle.call_improvers.specs.declared.eliminating.Elimination.TheVariants as Cases
use Rattle.call_shared.specs.Answers.{Answers}
use Rattle.call_improvers.specs.Eliminating.{eliminate_for, left_of, elimination_in, Eliminates}
use Rattle.call_improvers.proofs.ImproverAnswers.{Asked, lent_with, meant_with, told_f, Refused, Open, Imaged, improver-accepted, improver-open, refused-improver, given-improver}
use Rattle.call_improvers.proofs.EliminationCase.{given_by, elimination-holds}

-- runs as they are written
abbrev lists_of : List (List ℕ) → Eliminated
lists_of rs = record { calls = calls_of rs; ends = ends_of rs }

-- the code's counts are those of the lists
counted : (rs : List (List ℕ)) (l : Left) → Counts rs l.calls l.runs → l ≡ left_of (lists_of rs)
counted rs l h = λ i. record { calls = h.calls_count i; runs = (h.runs-count ∙ sym (ends-many 0 rs)) i }

-- what the lists hold after that answer
abbrev calls_by : List ℕ → Answer Eliminated → List ℕ
calls_by calls_left a = stored (front (λ x. x.calls) a) calls_left

abbrev ends_by : List ℕ → Answer Eliminated → List ℕ
ends_by ends_left a = stored (front (λ x. x.ends) a) ends_left

-- the runs that the code leaves, by what it is told
abbrev pub left_by : Asked → List ℕ → SearchF → List (List ℕ)
left_by Q ends x = eliminated_f (given_by Q x) (runs_of Q.calls ends)

module _ (Q : Asked) (ends : List ℕ) (out : Lists) (number : ℕ) (refuses : Refused Q eliminating ends (length out.calls ∷ length out.ends ∷ []) number) where
  abbrev rooms : List ℕ
  rooms = length out.calls ∷ length out.ends ∷ []

  abbrev pub answered : List Customer → Answer Eliminated
  answered = eliminate_for Q.head Q.distances Q.times Q.calls ends out.calls out.ends

  pub refused-elimination : (number ≡ 0 → ⊥)
      → Eliminates answered Q.count Q.array out.calls out.ends (Cases.Refused number) out.calls out.ends
  refused-elimination h = record { answer = by elimination_in; calls-left = by (calls_by out.calls); ends-left = by (ends_by out.ends) }
    where
      by : {R : Type 0} (of : Answer Eliminated → R) → Answers (λ cs. of (answered cs)) Q.count Q.array (of (refused number))
      by of = refused-improver eliminating Q ends rooms number refuses (λ s. eliminate s (runs_of Q.calls ends)) of h

  module _ (z : number ≡ 0) (full : length Q.array ≡ 64) where
    -- the call is accepted
    lists-accepted : Accepted value eliminating (lent_with Q ends rooms (padded Q.count Q.array))
    lists-accepted = improver-accepted eliminating Q ends rooms number refuses z full

    few-ends : length ends ≤ most_calls
    few-ends = ltb-false most_calls (length ends) lists-accepted.runs.few

    -- the run ends all stand in an array that they are read into
    pub ends_read : (held : List ℕ) (n : ℕ) → n ≡ min (length ends) (length zeros) → held ≡ written (take (length zeros) ends) zeros → take n held ≡ ends
    ends_read held n counted read = all_there ends zeros held n counted read few-ends

    -- no more calls and runs are left than were given, so there is room for them
    module _ (x : SearchF) where
      abbrev left : List (List ℕ)
      left = left_by Q ends x

      calls-fit : length (calls_of left) ≤ length out.calls
      calls-fit =
          let a = lists-accepted in
          let rise = subst (RiseTo 0 ends) (sym (zero-add (length Q.calls))) (rises 0 ends (length Q.calls) a.runs.ends) in
          omega (arith, (eliminated-fewer (given_by Q x) (runs_of Q.calls ends)).calls-most, ap length (calls_back 0 Q.calls ends rise), a.results.0)

      ends-fit : length (ends_of left) ≤ length out.ends
      ends-fit =
          omega (
            arith,
            ends-many 0 left,
            (eliminated-fewer (given_by Q x) (runs_of Q.calls ends)).runs-most,
            runs-many 0 Q.calls ends,
            lists-accepted.results.1.0,
          )

    -- the run list as it is read
    module _ (calls' ends' : List ℕ) (calls_are : calls' ≡ Q.calls) (ends-are : ends' ≡ ends) (images : Imaged Q number) where
      -- it is as the code asks for it, the arrays are long enough for it, and the tables close no leg
      pub elimination-room : ((length calls' ≤ most_calls) × (length ends' ≤ most_calls) × (ends_fall 0 ends' (length calls') ≡ false))
          × (((length calls' ≤ most_calls) × (length ends' ≤ most_calls)) × Open Q)
      elimination-room =
          let a = lists-accepted in
          let few = few-calls (meant_with Q (padded Q.count Q.array)) Q.calls a.calls in
          rw (calls_are, ends-are)
          ((few, few-ends, a.runs.ends), ((few, few-ends), improver-open eliminating Q ends rooms number refuses refl images z full))

      -- kept is what the code leaves in arrays, and new is what is stored of it
      pub given-elimination : (search : SearchF) → search ≡ told_f Q (limits_of Q.head.limits)
          → {l : Left} {kept new : Lists} → Leaves (eliminated_f (given_by Q search) (runs_of calls' ends')) l (lists zeros zeros) kept
          → new.calls ≡ stored (take (min l.calls (length out.calls)) kept.calls) out.calls
          → new.ends ≡ stored (take (min l.runs (length out.ends)) kept.ends) out.ends
          → Eliminates answered Q.count Q.array out.calls out.ends (Cases.Left l) new.calls new.ends
      given-elimination search is {l} {kept} {new} leaves calls-stored ends-stored =
          let rs = left_by Q ends search in
          let L = subst (λ (x : List (List ℕ)). Leaves (eliminated_f (given_by Q search) x) l (lists zeros zeros) kept) (λ i. runs_of (calls_are i) (ends-are i)) leaves in
          record {
            answer = by elimination_in (Cases.Left l) (ap Cases.Left (counted rs l L.counts));
            calls-left =
                by (calls_by out.calls) new.calls
                (calls-stored
                ∙ narrowed l.calls (calls_of rs) zeros kept.calls out.calls L.counts.calls_count L.calls-written
                ∙ all-narrowed (calls_of rs) out.calls (calls-fit search));
            ends-left =
                by (ends_by out.ends) new.ends
                (ends-stored
                ∙ narrowed l.runs (ends_of rs) zeros kept.ends out.ends (L.counts.runs-count ∙ sym (ends-many 0 rs)) L.ends-written
                ∙ all-narrowed (ends_of rs) out.ends (ends-fit search));
          }
        where
          by : {R : Type 0} (of : Answer Eliminated → R) (r : R) → r ≡ of (gives (lists_of (left_by Q ends search))) → Answers (λ cs. of (answered cs)) Q.count Q.array r
          by of r same =
              given-improver eliminating Q ends rooms number refuses (λ s. eliminate s (runs_of Q.calls ends)) of images z search is r
              (λ x. of (gives (lists_of (left_by Q ends x)))) same
              (λ cs a held I. ap (λ (rs : List (List ℕ)). of (gives (lists_of rs))) (elimination-holds Q cs held I ends rooms a))
