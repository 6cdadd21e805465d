-- Row i with a break at its best place, call by call: beside what every row keeps, the labels of all places after m calls. Assumes nothing.
use Prim.Native.Nat.{ℕ, suc, ◌+◌}
use native.Mathlib.Numerals.{add-one}
use native.Mathlib.Omega.{arith}
use mathlib.Core.Path.{◌≡◌, refl, sym, ap, subst, ◌∙◌}
use mathlib.Core.Bool.{true, false, ◌||◌}
use mathlib.Core.List.{List, [], ◌++◌}
use Rattle.std.specs.Prelude.{Option, None, Some}
use lib.ListN.{get_or}
use lib.Dec.{ltb}
use lib.Ieee.{Float, binary64, add}
use borrow.Author.Tests.{ltb-false}
use Rattle.basics.specs.Options.{present}
use Rattle.basics.proofs.TestLaws.{or_left, or_right}
use Rattle.basics.proofs.OptionLaws.{absent}
use Rattle.definitions.specs.Sheet.{BreakOf}
use Rattle.models.specs.declared.placement.Placement.TheVariants.{Least}
use Rattle.models.specs.Limits.{allow_f}
use Rattle.clock.specs.declared.schedule.Label.{Label}
use Rattle.clock.specs.declared.schedule.Scheduled.{Scheduled}
use Rattle.clock.specs.Serving.{start_label, serve_f, carry_f}
use Rattle.evaluation.specs.Records.{Tables}
use Rattle.evaluation.specs.Tables.{leg_f}
use Rattle.cut_labels.specs.Labels.{Lists, labels_in, listed, kept, best_f}
use Rattle.cut_table.specs.Table.{Table, Offered}
use Rattle.definitions.specs.Load.{Load}
use Rattle.cut_stops.specs.Stops.{StopF}
use Rattle.cut_runs.specs.Tariff.{RowOf, Ended}
use Rattle.cut_runs.specs.Places.{label_of, least_of}
use Rattle.cut_runs.specs.Runs.{Instance, tariff, kept_of, end_in}
use Rattle.cut_runs.proofs.Along.{Row, Along, stopped, vain}
use Rattle.cut_runs.proofs.Placing.{all_to, label-on, all_more, least-is, Keeps, least-keeps, as_end, least-end}
use Rattle.cut_runs.proofs.Calls.{by_home}
use Rattle.cut_runs.proofs.Calling.{Called, leg-is, no_end, no-home, home, total, way-is, back_is, offered}
use Rattle.cut_runs.proofs.Ends.{unplaced-over}

-- the labels after m calls of a stretch: that before the break, and those of the places 1 to m, where there are any
pub record Labelled (t : Tables) (st : List ℕ) (rest : BreakOf Float) (m : ℕ) (before : Option Label) (ls : List Label) : Type 0 where
  pub is-before : before ≡ label_of t st rest 0 m
  pub are-after : ls ≡ all_to t st rest m m

pub record LeastAlong (I : Instance) (rest : BreakOf Float) (R : Row) (new : Table) (load : Load) (gone : Float) (before : Option Label) (ls : List Label) (m : ℕ)
    : Type 0 where
  pub along : Along (tariff I) R new load gone m
  pub labelled : Labelled I.tables R.st rest m before ls

-- before the first call
pub least-setout : {I : Instance} {rest : BreakOf Float} {R : Row} {load : Load} {gone : Float} {before : Option Label} {ls : List Label}
    → Along (tariff I) R R.old load gone 0 → before ≡ Some start_label → ls ≡ [] → LeastAlong I rest R R.old load gone before ls 0
unfolding label_of all_to
least-setout A eb el = record { along = A; labelled = record { is-before = eb; are-after = el } }

-- no label is left, before the break or after it
pub none_left : (before : Option Label) (x : Lists) (n : ℕ) → (present before || ltb 0 n) ≡ false → (before ≡ None) × (labels_in x n ≡ [])
unfolding labels_in
none_left before x n e =
    let z : n ≡ 0 = omega (arith, ltb-false 0 n (or_right (present before) (ltb 0 n) e)) in
    (absent (or_left (present before) (ltb 0 n) e), ap (labels_in x) z)

-- one call more; k is its number, from 1
module _ (I : Instance) (by : I.placement ≡ Least) (rest : BreakOf Float) (broken : I.limits.rest ≡ Some rest) {R : Row} {new : Table} {load : Load} {gone : Float}
    {before : Option Label} {ls : List Label} {m : ℕ} {s : StopF} {travel : Float} {load' : Load} {gone' : Float} {before' : Option Label} {ls' : List Label}
    (K : Called I R new load gone m s travel load' gone') (L : Labelled I.tables R.st rest m before ls) (k : ℕ) (ek : k ≡ suc m)
    (en : before' ≡ carry_f s.customer None k travel before)
    (ea : ls' ≡ kept (serve_f s.customer None k travel) ls ++ listed (carry_f s.customer (Some rest) k travel before)) where
  abbrev t : Tables
  t = I.tables

  before-is : before' ≡ label_of t R.st rest 0 (suc m)
  before-is =
      en ∙ rw (ek, K.is-call.record_is, L.is-before) refl ∙ sym (label-on t R.st rest m _ (leg-is K) 0 (omega arith))

  after-are : ls' ≡ all_to t R.st rest (suc m) (suc m)
  after-are = ea ∙ rw (ek, K.is-call.record_is, L.is-before, L.are-after) refl ∙ sym (all_more t R.st rest m _ (leg-is K))

  -- no label is left
  pub unplaced : before' ≡ None → ls' ≡ [] → RowOf (tariff I) R.st R.i R.old new × Ended (tariff I) R.st m
  unplaced zb zl =
      let E = unplaced-over I R.st m K.along.within by rest broken (sym before-is ∙ zb) (sym after-are ∙ zl) in
      (stopped K.along K.inside E, E)

  -- after it
  abbrev Next : Table → Type 0
  Next new' = LeastAlong I rest R new' load' gone' before' ls' (m + 1)

  next : (new' : Table) → Along (tariff I) R new' load' gone' (m + 1) → Next new'
  next new' N =
      record {
        along = N;
        labelled = subst (λ (n : ℕ). Labelled t R.st rest n before' ls') (sym (add-one m)) (record { is-before = before-is; are-after = after-are });
      }

  -- this is the best way home, as it is listed
  module _ (o : Option Scheduled) (eo : o ≡ best_f (kept_of t R.st (suc m) I.limits) (total K) s.time_back rest before' ls') where
    -- it is open
    module _ (road : leg_f t (get_or R.st m 0) 0 ≡ Some (home K)) where
      best-is : o ≡ least_of t R.st rest (kept_of t R.st (suc m) I.limits) (suc m)
      best-is =
          eo ∙ rw (before-is, after-are) refl
          ∙ least-is t R.st rest (kept_of t R.st (suc m) I.limits) (suc m) _ _ (way-is K road) (back_is K road)

      end_is : end_in I R.st (suc m) ≡ as_end o
      end_is = least-end I by rest broken R.st (suc m) ∙ ap as_end (sym best-is)

      keeps : (x : Scheduled) → o ≡ Some x → allow_f I.limits.max_distance I.limits.max_duration x.distance x.duration ≡ true
      keeps x e =
          subst (Keeps (kept_of t R.st (suc m) I.limits)) (sym best-is ∙ e) (least-keeps t R.st rest (kept_of t R.st (suc m) I.limits) (suc m) (suc m))

    -- there is none
    pub endless : o ≡ None → Next new
    endless e = next new (by_home K.is-call (λ shut _. no-home K shut) (λ road. no_end K (end_is road ∙ ap as_end e)))

    -- there is one
    pub put : (x : Scheduled) → o ≡ Some x → (j : ℕ) (new' : Table) → j ≡ R.i + (m + 1)
        → Offered j R.i (add binary64 (add binary64 R.base (total K)) x.cost) (add binary64 R.ahead (total K)) new new' → Next new'
    put x ex j new' ej O =
        by_home K.is-call (λ shut none-listed. subst Next (sym (vain R.base gone' s.back x.cost none-listed O)) (next new (no-home K shut)))
        (λ road.
        next new'
        (offered K road (record { distance = x.distance; duration = x.duration; pay = x.cost }) (end_is road ∙ ap as_end ex) j new' (keeps road x ex) ej O))
