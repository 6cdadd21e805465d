-- The answer of `two_opt_improve` and what it writes: refused with nothing written, or the calls and the distance of the improved run. Assumes nothing.
use Prim.Native.Nat.{ℕ, ◌≤◌, min}
use native.Mathlib.Omega.{arith}
use mathlib.Core.Path.{◌≡◌, refl, sym, ap, ◌∙◌}
use mathlib.Core.List.{List, [], ◌∷◌}
use lib.ListN.{length, take}
use lib.Ieee.{Float}
use Rattle.definitions.specs.Sheet.{Sheet}
use Rattle.definitions.specs.Improver.{given_of}
use Rattle.definitions.specs.Lent.{reversing}
use Rattle.definitions.specs.Room.{written}
use Rattle.definitions.specs.Bytes.{stored}
use Rattle.definitions.specs.Answers.{Answer, Improved, refused, gives, front, two_opt}
use Rattle.theorems.proofs.Sums.{length-is-sum}
use Rattle.theorems.proofs.TwoOptLaws.{improved-same}
use Rattle.theorems.proofs.Accepted.{Accepted}
use Rattle.whole.specs.Whole.{fl}
use Rattle.whole.specs.Value.{value}
use Rattle.models.specs.declared.customer.Customer.{Customer}
use Rattle.byte_lists.proofs.Widened.{zeros}
use Rattle.byte_lists.proofs.Narrowed.{narrowed, all-narrowed}
use Rattle.evaluation.specs.Records.{limits_of}
use Rattle.evaluation.specs.Image.{Image}
use Rattle.improve_base.specs.Search.{SearchF, told}
use Rattle.two_opt.specs.TwoOpt.{improved_f, improved_distance_f}
use Rattle.two_opt.proofs.TwoOptExact.{AsDefined, two-opt-exact}
use Rattle.call_improvers.specs.declared.reversing.Reversed.{Reversed}
use Rattle.call_improvers.specs.declared.reversing.Reversed.TheVariants as Reverseds
use Rattle.call_shared.specs.Answers.{Answers}
use Rattle.call_improvers.specs.Reversing.{reverse_for, reversed_in, Reverses}
use Rattle.call_improvers.proofs.ImproverAnswers.{Asked, lent_with, tables_in, meant_with, told_f, Refused, Open, Imaged, improver-open, refused-improver, given-improver}

-- a run of so many calls and that distance
abbrev answer_of : ℕ → Float → Reversed
answer_of calls distance = Reverseds.Improved (record { calls = calls; distance = distance })

-- the improved run has as many calls
as_many : (s : Sheet) (run : List ℕ) → length run ≡ length (two_opt s run).calls
as_many s run = sym (length-is-sum run) ∙ sym (improved-same (given_of s) run (λ (c : ℕ). 1)) ∙ length-is-sum (two_opt s run).calls

-- what the list for the calls holds after an answer
abbrev left_by : List ℕ → Answer Improved → List ℕ
left_by list a = stored (front (λ x. x.calls) a) list

-- what is stored of a run that was written into an array: all of it, where there is room
abbrev stored_of : ℕ → List ℕ → List ℕ → List ℕ
stored_of n calls list = stored (take (min n (length list)) (written calls zeros)) list

all-stored : (n : ℕ) (calls list : List ℕ) → n ≡ length calls → n ≤ length list → stored_of n calls list ≡ stored calls list
all-stored n calls list many room = narrowed n calls zeros (written calls zeros) list many refl ∙ all-narrowed calls list (omega (arith, many, room))

-- `list` is lent for the calls of the run
module _ (Q : Asked) (list : List ℕ) (number : ℕ) (refuses : Refused Q reversing [] (length list ∷ []) number) where
  abbrev run : List ℕ
  run = Q.calls

  abbrev rooms : List ℕ
  rooms = length list ∷ []

  abbrev pub answered : List Customer → Answer Improved
  answered = reverse_for Q.head Q.distances Q.times run list

  -- the tables close no leg
  pub reversal-open : Imaged Q number → number ≡ 0 → length Q.array ≡ 64 → Open Q
  reversal-open = improver-open reversing Q [] rooms number refuses refl

  pub refused-reversal : (number ≡ 0 → ⊥) → Reverses answered Q.count Q.array list (Reverseds.Refused number) list
  refused-reversal h = record { answer = by reversed_in; calls-left = by (left_by list) }
    where
      by : {R : Type 0} (of : Answer Improved → R) → Answers (λ cs. of (answered cs)) Q.count Q.array (of (refused number))
      by of = refused-improver reversing Q [] rooms number refuses (λ s. two_opt s run) of h

  -- on a sheet that is meant the code's run is the whole-number one
  exact : (cs : List Customer) → Accepted value reversing (lent_with Q [] rooms cs) → Image (meant_with Q cs) (tables_in Q) → AsDefined (meant_with Q cs) (tables_in Q) run
  exact cs a I = two-opt-exact (meant_with Q cs) a.within (a.drivable refl) (tables_in Q) I run a.calls

  -- from the run as it is read, turned in an array of which the list is stored
  pub given-reversal : Imaged Q number → number ≡ 0 → (search : SearchF) → search ≡ told_f Q (limits_of Q.head.limits)
      → (run' : List ℕ) → run' ≡ run → (d : Float) → d ≡ improved_distance_f (tables_in Q) search run'
      → {turned list' : List ℕ} → turned ≡ written (improved_f (tables_in Q) search run') zeros → list' ≡ stored (take (min (length run) (length list)) turned) list
      → Reverses answered Q.count Q.array list (answer_of (length run) d) list'
  given-reversal images z search is run' run_is d distance_is {turned} {list'} turned-is left_is =
      let reckoned : d ≡ improved_distance_f (tables_in Q) search run = distance_is ∙ ap (improved_distance_f (tables_in Q) search) run_is in
      let left : list' ≡ stored_of (length run) (improved_f (tables_in Q) search run) list = left_is
      ∙ ap (λ (l : List ℕ). stored (take (min (length run) (length list)) l) list) (turned-is ∙ ap (λ (l : List ℕ). written (improved_f (tables_in Q) search l) zeros) run_is) in
      record {
        answer =
            by reversed_in (answer_of (length run) d) (λ x. answer_of (length run) (improved_distance_f (tables_in Q) x run)) (ap (answer_of (length run)) reckoned)
            (λ s e room. ap (answer_of (length run)) e.distance_is ∙ ap (λ (n : ℕ). answer_of n (fl (two_opt s run).distance)) (as_many s run));
        calls-left =
            by (left_by list) list' (λ x. stored_of (length run) (improved_f (tables_in Q) x run) list) left
            (λ s e room. ap (λ (l : List ℕ). stored_of (length run) l list) e.calls_are ∙ all-stored (length run) (two_opt s run).calls list (as_many s run) room);
      }
    where
      by : {R : Type 0} (of : Answer Improved → R) (r : R) (from : SearchF → R) → r ≡ from search
          → ((s : Sheet) → AsDefined s (tables_in Q) run → length run ≤ length list → from (told s (tables_in Q)) ≡ of (gives (two_opt s run)))
          → Answers (λ cs. of (answered cs)) Q.count Q.array r
      by of r from same defined =
          given-improver reversing Q [] rooms number refuses (λ s. two_opt s run) of images z search is r from same
          (λ cs a held I. defined (meant_with Q cs) (exact cs a I) a.results.0)
