-- The loop over runs: what is left of them from run k on is marked as all of them are. Assumes nothing.
use Prim.Native.Nat.{ℕ, ◌+◌, ◌-◌, ◌≤◌, ◌<◌}
use native.Mathlib.Omega.{arith}
use native.Mathlib.Numerals.{add-one}
use mathlib.Core.Path.{◌≡◌, sym, ap, subst, ◌∙◌}
use mathlib.Core.Bool.{false}
use mathlib.Core.List.{List}
use lib.ListN.{length, get_or, take, drop, drop_of_length-le}
use lib.Seq.{drop-cons, drop-drop}
use lib.Ieee as Ieee
use lib.Ieee.{Float, binary64}
use Rattle.definitions.specs.Run.{Run}
use Rattle.definitions.specs.RunList.{runs_from, runs_of}
use Rattle.definitions.specs.Refusals.{ends_fall}
use Rattle.definitions.specs.Marker.{with_places}
use Rattle.theorems.proofs.RunListLaws.{RiseTo, rise-le}
use Rattle.whole.specs.Whole.{fl}
use Rattle.marker.specs.declared.verdict.Verdict.{Verdict}
use Rattle.std.specs.Prelude.{Result, Ok, Err}
use Rattle.marker.specs.RunMark.{Ground, run_mark_f}
use Rattle.marker.specs.Marks.{runs_mark_f}
use Rattle.theorems.proofs.GivenRuns.{rises}

-- the runs from number k on, from 0, where p calls stand before them
abbrev left : List ℕ → List ℕ → List ℕ → ℕ → ℕ → List Run
left calls ends breaks p k = with_places (runs_from p (drop p calls) (drop k ends)) (drop k breaks)

-- before run k: the ends rise on from p to the number of calls, and the runs that are left are marked, on top of the cost so far, as all are
pub record Left (G : Ground) (calls ends breaks : List ℕ) (total : Float) (p k : ℕ) : Type 0 where
  pub few : k ≤ length ends
  pub rising : RiseTo p (drop k ends) (length calls)
  pub marked : runs_mark_f G (k + 1) total (left calls ends breaks p k) ≡ runs_mark_f G 1 (fl 0) (with_places (runs_of calls ends) breaks)

pub set_out : (G : Ground) (calls ends breaks : List ℕ) (total : Float) → fl 0 ≡ total → ends_fall 0 ends (length calls) ≡ false → Left G calls ends breaks total 0 0
set_out G calls ends breaks total e h = record { few = omega arith; rising = rises 0 ends (length calls) h; marked = rw e }

module _ {G : Ground} {calls ends breaks : List ℕ} {total : Float} {p k : ℕ} (L : Left G calls ends breaks total p k) where
  pub ended : length ends ≤ k → Ok total ≡ runs_mark_f G 1 (fl 0) (with_places (runs_of calls ends) breaks)
  unfolding runs_from runs_mark_f
  ended h = ap (λ (l : List ℕ). runs_mark_f G (k + 1) total (with_places (runs_from p (drop p calls) l) (drop k breaks))) (sym (drop_of_length-le ends h)) ∙ L.marked

  module _ (h : k < length ends) where
    next-rises : (p ≤ get_or ends k 0) × RiseTo (get_or ends k 0) (drop (k + 1) ends) (length calls)
    next-rises = rw (add-one k) (subst (λ (l : List ℕ). RiseTo p l (length calls)) (drop-cons ends k 0 h) L.rising)

    -- the next run is a stretch of the calls
    pub next-inside : (p ≤ get_or ends k 0) × (get_or ends k 0 ≤ length calls)
    next-inside = (next-rises.0, rise-le (get_or ends k 0) (drop (k + 1) ends) (length calls) next-rises.1)

    module _ (short : length ends ≤ length breaks) (m : (Result Float Verdict)) (e : m ≡ run_mark_f G (k + 1) (take (get_or ends k 0 - p) (drop p calls)) (get_or breaks k 0)) where
      -- it costs so much
      pub onward : (cost : Float) → m ≡ Ok cost → Left G calls ends breaks (Ieee.add binary64 total cost) (get_or ends k 0) (k + 1)
      unfolding runs_from runs_mark_f
      onward cost c =
          let g : k < length breaks = omega arith in
          let z : p + (get_or ends k 0 - p) ≡ get_or ends k 0 = omega (arith, next-rises.0) in
          record {
            few = omega arith;
            rising = next-rises.1;
            marked =
                sym
                (rw (drop-cons ends k 0, drop-cons breaks k 0, sym e ∙ c, runs_mark_f)
                (rw (drop-drop (get_or ends k 0 - p) p calls, z, add-one (k + 1), add-one k)))
                ∙ L.marked;
          }

      -- it has a fault
      pub stopped : (v : Verdict) → m ≡ Err v → m ≡ runs_mark_f G 1 (fl 0) (with_places (runs_of calls ends) breaks)
      unfolding runs_from runs_mark_f
      stopped v f =
          let g : k < length breaks = omega arith in
          f ∙ (sym (rw (drop-cons ends k 0, drop-cons breaks k 0, sym e ∙ f, runs_mark_f)) ∙ L.marked)
