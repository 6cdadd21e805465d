-- The loop over a run list: one run's break at each turn. Assumes nothing.
use Prim.Native.Nat.{ℕ, ◌+◌, ◌-◌, ◌≤◌, ◌<◌}
use native.Mathlib.Omega.{arith}
use mathlib.Core.Path.{◌≡◌, refl, sym, ap, ◌∙◌}
use mathlib.Core.List.{List, [], ◌∷◌, ◌++◌, map, append-nil, append_assoc, map-append}
use lib.Ieee.{Float}
use lib.ListN.{length, take, drop, get_or, set, length-append, length-map}
use Rattle.definitions.specs.Room.{written}
use Rattle.definitions.specs.RunList.{runs_of}
use Rattle.theorems.proofs.RunListLaws.{RiseTo}
use Rattle.basics.specs.Options.{value_or}
use Rattle.whole.specs.Whole.{fl}
use Rattle.sheet_read.proofs.Fitting.{write-more, write-length}
use Rattle.listing_lines.proofs.RunWalk.{runs_left, AtRun, none_left, run-next, next}
use Rattle.evaluation.specs.Records.{TakenF}
use Rattle.sheet_plan.specs.Breaks.{places_in, starts_in}

-- one more element of a list that is written through a map
written-more : {A B : Type 0} (g : A → B) (done : List A) (x : A) (old new : List B) (k : ℕ) → k ≡ length done → k < length old → new ≡ written (map g done) old
    → set new k (g x) ≡ written (map g (done ++ x ∷ [])) old
written-more g done x old new k many room e =
    ap (λ (l : List _). set l k (g x)) e ∙ write-more old (map g done) (g x) k (many ∙ sym (length-map done g)) room
    ∙ ap (λ (l : List _). written l old) (sym (map-append g done (x ∷ [])))

-- the breaks of the runs from number k on, whose calls begin at `from`
abbrev breaks_from : (List ℕ → TakenF) → (calls ends : List ℕ) → ℕ → ℕ → List TakenF
breaks_from f calls ends from k = map f (runs_left calls ends from k)

-- the lists of places and starts
pub record BreakLists : Type 0 where
  pub places : List ℕ
  pub starts : List Float

abbrev pub break_lists : List ℕ → List Float → BreakLists
break_lists places starts = record { places = places; starts = starts }

-- before run number k, whose calls begin at `from`
pub record BreaksTo (f : List ℕ → TakenF) (calls ends : List ℕ) (old new : BreakLists) (from k : ℕ) : Type 0 where
  pub done : List TakenF
  pub many : k ≡ length done
  pub at-run : AtRun calls ends from k
  pub all : done ++ breaks_from f calls ends from k ≡ breaks_from f calls ends 0 0
  pub places-are : new.places ≡ written (places_in done) old.places
  pub starts-are : new.starts ≡ written (starts_in done) old.starts

pub set_out : (f : List ℕ → TakenF) (calls ends : List ℕ) (old : BreakLists) → RiseTo 0 ends (length calls) → BreaksTo f calls ends old old 0 0
set_out f calls ends old h =
    record { done = []; many = refl; at-run = record { within = omega arith; rise = h }; all = refl; places-are = refl; starts-are = refl }

module _ {f : List ℕ → TakenF} {calls ends : List ℕ} {old new : BreakLists} {from k : ℕ} (q : BreaksTo f calls ends old new from k) where
  pub places-kept : length ends ≤ length old.places → length new.places ≡ length old.places
  places-kept room =
      ap length q.places-are
      ∙ write-length old.places (places_in q.done) (omega (arith, length-map q.done (λ b. b.place), q.many, q.at-run.within))

  pub starts-kept : length ends ≤ length old.starts → length new.starts ≡ length old.starts
  starts-kept room =
      ap length q.starts-are
      ∙ write-length old.starts (starts_in q.done) (omega (arith, length-map q.done (λ b. value_or (fl 0) b.start), q.many, q.at-run.within))

  -- all runs are passed
  passed : length ends ≤ k → q.done ≡ map f (runs_of calls ends)
  passed h = sym (append-nil q.done) ∙ ap (λ (l : List TakenF). q.done ++ l) (sym (ap (map f) (none_left q.at-run h))) ∙ q.all

  pub places-ended : length ends ≤ k → new.places ≡ written (places_in (map f (runs_of calls ends))) old.places
  places-ended h = q.places-are ∙ ap (λ (l : List TakenF). written (places_in l) old.places) (passed h)

  pub starts-ended : length ends ≤ k → new.starts ≡ written (starts_in (map f (runs_of calls ends))) old.starts
  starts-ended h = q.starts-are ∙ ap (λ (l : List TakenF). written (starts_in l) old.starts) (passed h)

  module _ (more : k < length ends) where
    -- the end of run number k
    abbrev to : ℕ
    to = get_or ends k 0

    -- the calls of run number k
    abbrev run : List ℕ
    run = take (to - from) (drop from calls)

    breaks-more : breaks_from f calls ends from k ≡ f run ∷ breaks_from f calls ends to (k + 1)
    breaks-more = ap (map f) (run-next q.at-run more)

    -- the break of the run, and its start as it is written
    pub turn : (length ends ≤ length old.places) × (length ends ≤ length old.starts) → (b : TakenF) → b ≡ f run → (start : Float) → start ≡ value_or (fl 0) b.start
        → BreaksTo f calls ends old (break_lists (set new.places k b.place) (set new.starts k start)) to (k + 1)
    turn room b e start t =
        record {
          done = q.done ++ b ∷ [];
          many = omega (arith, q.many, length-append q.done (b ∷ []));
          at-run = next q.at-run more;
          all =
              append_assoc q.done (b ∷ []) (breaks_from f calls ends to (k + 1)) ∙ ap (λ (x : TakenF). q.done ++ (x ∷ breaks_from f calls ends to (k + 1))) e
              ∙ ap (λ (l : List TakenF). q.done ++ l) (sym breaks-more) ∙ q.all;
          places-are = written-more (λ b. b.place) q.done b old.places new.places k q.many (omega (arith, room.0)) q.places-are;
          starts-are =
              ap (set new.starts k) t
              ∙ written-more (λ b. value_or (fl 0) b.start) q.done b old.starts new.starts k q.many (omega (arith, room.1)) q.starts-are;
        }
