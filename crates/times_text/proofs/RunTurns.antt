-- The loop over a run list: one run's lines at each turn. Assumes nothing.
use Prim.Native.Nat.{ℕ, ◌+◌, ◌-◌, ◌*◌, ◌≤◌, ◌<◌}
use native.Mathlib.Omega.{arith}
use native.Mathlib.Numerals.{add-one}
use mathlib.Core.Path.{◌≡◌, sym, ap, subst, ◌∙◌}
use mathlib.Core.List.{List, ◌∷◌, ◌++◌}
use lib.ListN.{length, take, drop, get_or, length-drop}
use lib.Seq.{length-take-le}
use Rattle.basics.specs.Lists.{All}
use Rattle.definitions.specs.Load.{Load}
use Rattle.definitions.specs.Marker.{with_places}
use Rattle.definitions.specs.Run.{Run}
use Rattle.definitions.specs.RunList.{runs_of}
use Rattle.theorems.proofs.RunListLaws.{RiseTo}
use Rattle.evaluation.specs.Records.{Tables, LimitsF}
use Rattle.listing_lines.specs.Put.{Put}
use Rattle.listing_lines.proofs.Pieces.{next-left}
use Rattle.listing_lines.proofs.Putting as Putting
use Rattle.listing_lines.proofs.Putting.{Wrote, begun, same-room}
use Rattle.listing_lines.proofs.RunWalk.{runs_left, AtRun, none_left, rises, inside, run-next, next}
use Rattle.times_text.specs.Runs.{Own, run_times_f, times_f}

-- what is told: a run list with the places of its breaks, on these tables
pub record RunList : Type 0 where
  pub tables : Tables
  pub capacity : Load
  pub limits : LimitsF
  pub calls : List ℕ
  pub ends : List ℕ
  pub places : List ℕ

-- the runs from number k on, whose calls begin at `from`
abbrev left : RunList → ℕ → ℕ → List Run
left p from k = with_places (runs_left p.calls p.ends from k) (drop k p.places)

abbrev lines_from : RunList → ℕ → ℕ → List ℕ
lines_from p from k = times_f p.tables p.capacity p.limits (k + 1) (left p from k)

-- before run number k, whose calls begin at `from`
pub record RunsTo (p : RunList) (old out : List ℕ) (end from k : ℕ) : Type 0 where
  pub at-run : AtRun p.calls p.ends from k
  pub own : All Own (left p from k)
  pub short : end ≤ 550 * from + 900 * k
  pub wrote : Wrote (lines_from p 0 0) (lines_from p from k) 0 old out end

pub set_out : (p : RunList) (old : List ℕ) → RiseTo 0 p.ends (length p.calls) → All Own (with_places (runs_of p.calls p.ends) p.places) → RunsTo p old old 0 0 0
set_out p old h o =
    record { at-run = record { within = omega arith; rise = h }; own = o; short = omega arith; wrote = begun (lines_from p 0 0) 0 old (omega arith) }

module _ {p : RunList} {old out : List ℕ} {end from k : ℕ} (q : RunsTo p old out end from k) where
  pub kept : length out ≡ length old
  kept = same-room q.wrote

  pub ended : length p.ends ≤ k → Put 0 (times_f p.tables p.capacity p.limits 1 (with_places (runs_of p.calls p.ends) p.places)) old out end
  ended h =
      Putting.ended q.wrote (ap (λ (rs : List (List ℕ)). times_f p.tables p.capacity p.limits (k + 1) (with_places rs (drop k p.places))) (none_left q.at-run h))

  module _ (more : k < length p.ends) (placed : length p.ends ≤ length p.places) (enough : 550 * length p.calls + 900 * length p.ends + 20 ≤ length old) where
    -- the end of run number k, its calls and its break place
    abbrev to : ℕ
    to = get_or p.ends k 0

    abbrev run : List ℕ
    run = take (to - from) (drop from p.calls)

    abbrev place : ℕ
    place = get_or p.places k 0

    pub run_length : length run ≡ to - from
    run_length =
        length-take-le (to - from) (drop from p.calls)
        (omega (arith, length-drop from p.calls, rises q.at-run more, inside q.at-run more))

    left-more : left p from k ≡ record { calls = run; place = place } ∷ left p to (k + 1)
    left-more = rw (run-next q.at-run more, next-left p.places k 0 (omega arith))

    lines_more : lines_from p from k ≡ run_times_f p.tables p.capacity p.limits (k + 1) (record { calls = run; place = place }) ++ lines_from p to (k + 1)
    lines_more =
        ap (times_f p.tables p.capacity p.limits (k + 1)) left-more
        ∙ ap (λ (m : ℕ). run_times_f p.tables p.capacity p.limits (k + 1) (record { calls = run; place = place }) ++ times_f p.tables p.capacity p.limits m (left p to (k + 1)))
        (sym (add-one (k + 1)))

    own-here : All Own (record { calls = run; place = place } ∷ left p to (k + 1))
    own-here = subst (All Own) left-more q.own

    pub its_own : place ≤ length run
    its_own = own-here.0

    pub room : end + (550 * length run + 920) ≤ length old
    room = omega (arith, run_length, rises q.at-run more, inside q.at-run more, q.short)

    pub turn : {new : List ℕ} {r : ℕ} → Put end (run_times_f p.tables p.capacity p.limits (k + 1) (record { calls = run; place = place })) out new r
        → r ≤ end + (550 * length run + 900) → RunsTo p old new r to (k + 1)
    turn {new} {r} w l =
        record {
          at-run = next q.at-run more;
          own = own-here.1;
          short = omega (arith, run_length, rises q.at-run more, q.short);
          wrote = Putting.turn q.wrote (lines_from p to (k + 1)) w lines_more (omega (arith, room));
        }
