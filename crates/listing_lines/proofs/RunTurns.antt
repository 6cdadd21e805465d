-- The loop over a run list: one run's line at each turn. Assumes nothing.
use Rattle.std.proofs.Common.{◌≡◌, ℕ, ◌+◌, ◌-◌, ◌*◌, ◌<◌, ◌≤◌, List, ◌++◌, map, length, get_or, take, drop, ap, subst, arith, length-drop, length-take-le}
use lib.Ieee.{Float}
use Rattle.definitions.specs.RunList.{runs_of}
use Rattle.theorems.proofs.RunListLaws.{RiseTo}
use Rattle.listing_lines.specs.Number.{whole_part}
use Rattle.listing_lines.specs.Lines.{start_if, run_text}
use Rattle.listing_lines.specs.Put.{Put}
use Rattle.listing_lines.specs.Plan.{runs_text}
use Rattle.listing_lines.proofs.Pieces.{next-left}
use Rattle.listing_lines.proofs.Putting as Putting
use Rattle.listing_lines.proofs.Putting.{Wrote, begun, same-room}
use Rattle.listing_lines.proofs.RunWalk.{runs_left, AtRun, begins, none_left, rises, inside, run-next, next}

-- what is printed: a run list, with the places and starts of its breaks
pub record RunList : Type 0 where
  pub calls : List ℕ
  pub ends : List ℕ
  pub places : List ℕ
  pub starts : List Float

abbrev pub run_list : (calls ends places : List ℕ) (starts : List Float) → RunList
run_list calls ends places starts = record { calls = calls; ends = ends; places = places; starts = starts }

-- the lines of the runs from number k on, whose calls begin at `from`
abbrev lines_from : RunList → ℕ → ℕ → List ℕ
lines_from p from k = runs_text (runs_left p.calls p.ends from k) (drop k p.places) (map whole_part (drop k p.starts))

-- before run number k, whose calls begin at `from`
pub record RunsTo (p : RunList) (at : ℕ) (old out : List ℕ) (end from k : ℕ) : Type 0 where
  pub at-run : AtRun p.calls p.ends from k
  pub short : end ≤ at + (51 * k + 21 * from)
  pub wrote : Wrote (lines_from p 0 0) (lines_from p from k) at old out end

pub set_out : (p : RunList) (at : ℕ) (old : List ℕ) → RiseTo 0 p.ends (length p.calls) → at ≤ length old → RunsTo p at old old at 0 0
set_out p at old h l = record { at-run = record { within = omega arith; rise = h }; short = omega arith; wrote = begun (lines_from p 0 0) at old l }

module _ {p : RunList} {at : ℕ} {old out : List ℕ} {end from k : ℕ} (q : RunsTo p at old out end from k) where
  pub kept : length out ≡ length old
  kept = same-room q.wrote

  pub ended : length p.ends ≤ k → Put at (runs_text (runs_of p.calls p.ends) p.places (map whole_part p.starts)) old out end
  ended h =
      Putting.ended q.wrote
      (ap (λ (rs : List (List ℕ)). runs_text rs (drop k p.places) (map whole_part (drop k p.starts))) (none_left q.at-run h))

  pub short-end : end ≤ at + (51 * length p.ends + 21 * length p.calls)
  short-end = omega (arith, q.short, q.at-run.within, begins q.at-run)

  module _ (more : k < length p.ends) where
    -- the end of run number k, and its calls
    abbrev to : ℕ
    to = get_or p.ends k 0

    abbrev run : List ℕ
    run = take (to - from) (drop from p.calls)

    run_length : length run ≡ to - from
    run_length =
        length-take-le (to - from) (drop from p.calls)
        (omega (arith, length-drop from p.calls, rises q.at-run more, inside q.at-run more))

    module _ (breaks : (length p.ends ≤ length p.places) × (length p.ends ≤ length p.starts)) (d : Float) where
      -- the place of its break, and the start
      abbrev place : ℕ
      place = get_or p.places k 0

      abbrev start : ℕ
      start = whole_part (get_or p.starts k d)

      lines_more : lines_from p from k ≡ run_text run place (start_if place start) ++ lines_from p to (k + 1)
      lines_more =
          rw (run-next q.at-run more, next-left p.places k 0 (omega (arith, breaks.0)), next-left p.starts k d (omega (arith, breaks.1)))

      module _ (enough : at + (51 * length p.ends + 21 * length p.calls) ≤ length old) where
        pub room : end + (51 + 21 * length run) ≤ length old
        room = omega (arith, run_length, rises q.at-run more, inside q.at-run more, q.short)

        pub turn : (t : ℕ) → t ≡ start → {new : List ℕ} {r : ℕ} → Put end (run_text run place (start_if place t)) out new r
            → r ≤ end + (51 + 21 * length run) → RunsTo p at old new r to (k + 1)
        turn t e {new} {r} w l =
            record {
              at-run = next q.at-run more;
              short = omega (arith, run_length, rises q.at-run more, q.short);
              wrote =
                  Putting.turn q.wrote (lines_from p to (k + 1))
                  (subst (λ (x : ℕ). Put end (run_text run place (start_if place x)) out new r) e w) lines_more (omega (arith, room));
            }
