-- The loops over calls: what is left of them from call i on ends as all of them do. Assumes nothing.
use Prim.Native.Nat.{ℕ, suc, ◌+◌, ◌≤◌, ◌<◌, min}
use native.Mathlib.Omega.{arith}
use native.Mathlib.Numerals.{add-one}
use mathlib.Core.Path.{◌≡◌, refl, sym, ap, ◌∙◌}
use mathlib.Core.Bool.{Bool, not}
use mathlib.Core.List.{List, [], ◌∷◌}
use Rattle.std.specs.Prelude.{Option, Ok, Err}
use lib.ListN.{length, get_or, drop, drop_of_length-le}
use lib.Seq.{drop-cons}
use lib.Dec.{eqb}
use lib.Ieee as Ieee
use lib.Ieee.{Float, binary64}
use Rattle.std.proofs.Common.{Some, None}
use Rattle.std.specs.List.{zip, position_from}
use Rattle.basics.proofs.TestLaws.{by-test}
use Rattle.definitions.specs.Sheet.{BreakOf, CustomerOf}
use Rattle.definitions.specs.Marker.{differ}
use Rattle.distance.specs.declared.leg.Leg.{Leg}
use Rattle.clock.specs.declared.schedule.Label.{Label}
use Rattle.clock.specs.Serving.{serve_f}
use Rattle.clock.specs.Clock.{home_f}
use Rattle.evaluation.specs.Records.{Tables}
use Rattle.evaluation.specs.Tables.{record_f, leg_f}
use Rattle.marker.specs.declared.verdict.Verdict.TheVariants.{RoadClosed}
use Rattle.marker.specs.Walking.{break_at_f, call_fault_f, walk_f}

-- ---- two lists, up to where one ends: what the first pair of numbers apart, counted from k, says of them

abbrev pub apart : ℕ × ℕ → Bool
apart p = not (eqb p.0 p.1)

pub differ-here : (k j : ℕ) → j ≡ k + 1 → (xs ys : List ℕ) (i : ℕ) → position_from apart k (zip xs ys) ≡ Some i → differ j xs ys ≡ Some (i + 1)
differ-here k j n [] ys i e = absurd cc
differ-here k j n (x ∷ xs) [] i e = absurd cc
differ-here k j n (x ∷ xs) (y ∷ ys) i e =
    by-test (eqb x y) (λ t. rw t (differ-here (k + 1) (suc j) (omega arith) xs ys i (rw t at e)))
    (λ f. let h : k ≡ i = cc (rw f at e) in rw f (ap Some (omega arith)))

pub differ-none : (k j : ℕ) → j ≡ k + 1 → (xs ys : List ℕ) → position_from apart k (zip xs ys) ≡ None → length xs ≡ length ys → differ j xs ys ≡ None
differ-none k j n [] [] e l = refl
differ-none k j n [] (y ∷ ys) e l = absurd (omega arith)
differ-none k j n (x ∷ xs) [] e l = absurd (omega arith)
differ-none k j n (x ∷ xs) (y ∷ ys) e l =
    by-test (eqb x y) (λ t. rw t (differ-none (k + 1) (suc j) (omega arith) xs ys (rw t at e) (omega arith))) (λ f. absurd (cc (rw f at e)))

pub differ-ended : (k j : ℕ) → j ≡ k + 1 → (xs ys : List ℕ) → position_from apart k (zip xs ys) ≡ None → (length xs ≡ length ys → ⊥) → differ j xs ys ≡ Some (min (length xs) (length ys) + j)
differ-ended k j n [] [] e l = absurd (l refl)
differ-ended k j n [] (y ∷ ys) e l = ap Some (omega arith)
differ-ended k j n (x ∷ xs) [] e l = ap Some (omega arith)
differ-ended k j n (x ∷ xs) (y ∷ ys) e l =
    by-test (eqb x y)
    (λ t. rw t (differ-ended (k + 1) (suc j) (omega arith) xs ys (rw t at e) (λ q. l (ap suc q)) ∙ ap Some (omega arith)))
    (λ f. absurd (cc (rw f at e)))

-- ---- the walk

module _ (t : Tables) (rest : Option (BreakOf Float)) (n place : ℕ) (calls : List ℕ) (far : Float) (a : ℕ) (l : Label) (i : ℕ) where
  module _ (g : Option Leg) (h : i < length calls) (eg : g ≡ leg_f t a (get_or calls i 0)) where
    -- the leg to the call is closed
    pub walk-closed : g ≡ None → walk_f t rest n place (i + 1) far a l (drop i calls) ≡ Err (RoadClosed n (i + 1))
    unfolding walk_f
    walk-closed e = rw (drop-cons calls i 0 h, walk_f, ← eg, e)

    module _ (w : Leg) (ew : g ≡ Some w) (c : CustomerOf Float) (here : Option (BreakOf Float)) (o : Option Label)
        (ec : c ≡ record_f t (get_or calls i 0)) (eh : here ≡ break_at_f rest place (i + 1)) (es : o ≡ serve_f c here (i + 1) w.time l) where
      found : serve_f (record_f t (get_or calls i 0)) (break_at_f rest place (i + 1)) (i + 1) w.time l ≡ o
      found = rw (← ec, ← eh) (sym es)

      pub walk-on : (m : Label) → o ≡ Some m
          → walk_f t rest n place (i + 1) far a l (drop i calls) ≡ walk_f t rest n place (i + 1 + 1) (Ieee.add binary64 far w.distance) (get_or calls i 0) m (drop (i + 1) calls)
      unfolding walk_f
      walk-on m e = rw (drop-cons calls i 0 h, ← eg, ew, found ∙ e, walk_f) (rw (add-one (i + 1), add-one i))

      pub walk-stops : o ≡ None → walk_f t rest n place (i + 1) far a l (drop i calls) ≡ Err (call_fault_f n (i + 1) (get_or calls i 0) c here (Ieee.add binary64 l.time w.time))
      unfolding walk_f
      walk-stops e = rw (drop-cons calls i 0 h, ← eg, ew, found ∙ e, walk_f) (rw (ec, eh))

  -- the way home
  module _ (g : Option Leg) (h : length calls ≤ i) (eg : g ≡ leg_f t a 0) where
    pub home-closed : g ≡ None → walk_f t rest n place (i + 1) far a l (drop i calls) ≡ Err (RoadClosed n (i + 1))
    unfolding walk_f
    home-closed e = rw (drop_of_length-le calls h, walk_f, ← eg, e)

    pub walk_end : (w : Leg) → g ≡ Some w → walk_f t rest n place (i + 1) far a l (drop i calls) ≡ Ok (home_f (Ieee.add binary64 far w.distance) w.time l)
    unfolding walk_f
    walk_end w e = rw (drop_of_length-le calls h, walk_f, ← eg, e)
