-- The drops, call by call: what the loop keeps while it fills the table row by row, and drops the last call of a beginning that has no cutting. To go on from there gives what starting over
-- gives, since nothing before the dropped call changes. Assumes nothing.
use Prim.Native.Nat.{ℕ, zero, suc, ◌+◌, ◌-◌, ◌<◌, ◌≤◌}
use native.Mathlib.Omega.{arith}
use mathlib.Core.Path.{◌≡◌, refl, sym, ap, subst, ◌∙◌}
use mathlib.Core.Bool.{true, false}
use mathlib.Core.List.{List, [], ◌∷◌}
use Rattle.std.specs.Prelude.{None, Some}
use lib.ListN.{length, get_or, take, length-map}
use lib.Seq.{length-take-le}
use lib.Dec.{eqb}
use lib.Ieee.{Float, nan, inf, lt}
use borrow.Author.Tests.{eqb-true, eqb-false}
use Rattle.basics.proofs.TestLaws.{by-test}
use Rattle.basics.specs.Lists.{without, count}
use Rattle.basics.proofs.ListLaws.{length-count, length_without}
use Rattle.basics.proofs.Parts.{without-alike}
use Rattle.cut_theory.specs.Tab.{most_cut, cells}
use Rattle.cut_theory.proofs.TabLaws.{length-tab}
use Rattle.cut_theory.specs.First.{FirstOf}
use Rattle.cut_theory.proofs.FirstLaws.{first-none, first_some}
use Rattle.cut_theory.specs.Rows.{Legs}
use Rattle.cut_theory.proofs.RowLaws.{last_has}
use Rattle.cut_theory.specs.Carried.{Carry}
use Rattle.cut_theory.proofs.CarriedLaws.{next}
use Rattle.definitions.specs.Drop.{call_at, calls_at, Held, drop_at, all_held}
use Rattle.definitions.specs.Room.{written}
use Rattle.evaluation.specs.Records.{Tables}
use Rattle.evaluation.specs.Tables.{leg_f}
use Rattle.cut_table.specs.Table.{Calls, DropCall}
use Rattle.cut_table.proofs.Writing.{front-written}
use Rattle.cut_table.proofs.Holding.{Holding, all-holding, call-goes}
use Rattle.cut_stops.specs.Stops.{Below64, LegLists, LegsLong, LegsBy, LegsAre, Numbers, stop_in, stop_at, StopsOf}
use Rattle.cut_runs.specs.Tariff.{stretches, runs_of, fars_of, TableOf}
use Rattle.cut_runs.specs.Runs.{Instance, tariff}
use Rattle.cut_drops.specs.Drops.{have_f, stuck_f, drop_from_f, drops_f}
use Rattle.cut_drops.specs.Refill.{Rows, RowsLong, LegsTo, NotedRow, FrontOf, EarlyBelow, Work, work, Filled, Stayed}
use Rattle.cut_runs.proofs.Alike.{call-alike, place-alike}
use Rattle.cut_runs.proofs.Local.{tariff-local, steps_alike, fars-alike, ended-alike}
use Rattle.cut_drops.proofs.Noting.{legs-whole, noted-long}
use Rattle.cut_drops.proofs.Refilling.{cost-same, front_same}
use Rattle.cut_drops.proofs.Again.{reached-more}

-- so many calls are lent, and not more
pub few-taken : (n k : ℕ) (l : List ℕ) → n ≤ k → n ≤ length l → length (take n l) ≤ k
few-taken n k l h b = omega (arith, length-take-le n l b)

-- the positions of all calls, from 1
pub numbered : (n : ℕ) (positions₀ positions : List ℕ) → positions ≡ written (count 1 n) positions₀ → take n positions ≡ count 1 n
numbered n positions₀ positions e =
    ap (take n) e ∙ ap (λ (k : ℕ). take k (written (count 1 n) positions₀)) (sym (length-count 1 n)) ∙ front-written (count 1 n) positions₀

-- ---- the calls held after a drop

-- what holds of each call
without-each : (P : ℕ → Type 0) (k : ℕ) (l : List ℕ) → ((j : ℕ) → j < length l → P (get_or l j 0)) → (j : ℕ) → j < length (without k l) → P (get_or (without k l) j 0)
without-each P k [] w j h = w j h
without-each P zero (x ∷ l) w j h = w (suc j) (omega arith)
without-each P (suc k) (x ∷ l) w zero h = w 0 (omega arith)
without-each P (suc k) (x ∷ l) w (suc j) h = without-each P k l (λ m g. w (suc m) (omega arith)) j (omega arith)

without-below : (k : ℕ) (l : List ℕ) → Below64 l → Below64 (without k l)
unfolding Below64
without-below k l w = without-each (λ (c : ℕ). c < 64) k l w

without-stops : (t : Tables) (x : Numbers) (k : ℕ) (l : List ℕ) → StopsOf t l x → StopsOf t (without k l) x
without-stops t x k l w = record { long = w.long; stops-are = without-each (λ (c : ℕ). stop_at x c ≡ stop_in t c) k l w.stops-are }

module _ (n i : ℕ) (held held' : List ℕ) (b : i < n) (long : n ≤ length held) (less : take (n - 1) held' ≡ without i (take n held)) where
  -- they begin as before
  pub same-front : take i (take n held) ≡ take i (take (n - 1) held')
  same-front = sym (ap (take i) less ∙ without-alike i (take n held))

  pub one_fewer : length (take (n - 1) held') ≡ n - 1
  one_fewer = omega (arith, ap length less, length_without i (take n held) (omega (arith, length-take-le n held long)), length-take-le n held long)

  pub below-after : Below64 (take n held) → Below64 (take (n - 1) held')
  below-after w = subst Below64 (sym less) (without-below i (take n held) w)

  pub stops-after : (t : Tables) (x : Numbers) → StopsOf t (take n held) x → StopsOf t (take (n - 1) held') x
  stops-after t x w = subst (λ (l : List ℕ). StopsOf t l x) (sym less) (without-stops t x i (take n held) w)

  -- the legs before the dropped call are those of the calls that are left
  pub legs-kept : (t : Tables) (legs : LegLists) → LegsAre t (take n held) legs → LegsTo (leg_f t) (take (n - 1) held') i legs
  unfolding LegsBy LegsTo
  legs-kept t legs L k p g h =
      let a = L k p (omega (arith, length-take-le n held long)) in
      let c = call-alike i (take n held) (take (n - 1) held') same-front k g in
      let q = place-alike i (take n held) (take (n - 1) held') same-front k (omega arith) in
      record { distance_is = a.distance_is ∙ rw (c, q) refl; time-is = a.time-is ∙ rw (c, q) refl }

-- ---- row i is filled

-- the table's lists are as long as it has cells
pub filled-long : (I : Instance) (held : List ℕ) (i : ℕ) (legs : LegLists) (x : Rows) → Filled I held i legs x → RowsLong x
filled-long I held i legs x F =
    record {
      table-long =
          record {
            cost-long = ap length F.filled.costs-are ∙ length-tab _ cells;
            far-long = ap length F.filled.fars-are ∙ length-tab _ cells;
            pred-long = ap length F.filled.preds-are ∙ length-tab _ cells;
          };
      reach-long = F.reach-long;
    }

module _ (I : Instance) (held : List ℕ) (n i : ℕ) (legs : LegLists) (old new : Rows) (few : n ≤ most_cut) (long : n ≤ length held)
    (F : Filled I (take n held) i legs old) (b : i < n) (N : NotedRow (tariff I) (take n held) i old new) where
  -- the runs of the calls held
  abbrev runs : List ℕ → Legs
  runs calls = runs_of (tariff I) (stretches calls)

  abbrev fars : List ℕ → Carry Float
  fars calls = fars_of (tariff I) (stretches calls)

  table_more : TableOf (tariff I) (take n held) (i + 1) new.table
  table_more =
      let o = old.table in
      let t = new.table in
      next (runs (take n held)) (fars (take n held)) i (omega arith) o.cost o.far o.pred F.filled t.cost t.far t.pred N.done

  -- whether the beginning of i + 1 calls has a cutting is read from its cell
  pub have-is : (top : Float) → top ≡ inf false → lt (get_or new.table.cost (i + 1) nan) top ≡ have_f I (take n held) (suc i)
  have-is top e =
      ap (λ (x : Float). lt (get_or new.table.cost (i + 1) nan) x) e
      ∙ ap (λ (l : List Float). lt (get_or l (i + 1) nan) (inf false)) table_more.costs-are
      ∙ last_has (runs (take n held)) (i + 1) i (omega arith) (omega arith)

  pub filled_more : Filled I (take n held) (i + 1) legs new
  filled_more =
      record {
        legs-long = F.legs-long;
        reach-long = (noted-long (tariff I) (take n held) i old new F.reach-long N).reach-long;
        legs-are = F.legs-are;
        filled = table_more;
        reached = reached-more (tariff I) (take n held) i old new N F.reached;
      }

  -- after the call at i was dropped
  module _ (held' : List ℕ) (less : take (n - 1) held' ≡ without i (take n held)) where
    abbrev after : List ℕ
    after = take (n - 1) held'

    alike : take i (take n held) ≡ take i after
    alike = same-front n i held held' b long less

    -- the cells up to i are those of the calls that are left
    pub front-after : FrontOf (tariff I) after i new.table
    front-after =
        front_same (runs (take n held)) (runs after) i (steps_alike (tariff I) (tariff-local I) i (take n held) after alike)
        (fars (take n held)) (fars after) refl (fars-alike (tariff I) (tariff-local I) i (take n held) after alike)
        (i + 1) (omega arith) (omega arith) new.table table_more

    pub early-after : EarlyBelow (tariff I) after i new.reach
    early-after s h l =
        ended-alike (tariff I) (tariff-local I) i (take n held) after alike s (get_or new.reach s 0 - s) (omega arith)
        (omega (arith, one_fewer n i held held' b long less)) (filled_more.reached s (omega arith))

-- ---- what the loop keeps

-- n calls are held, the rows below i are filled and the beginnings up to i have a cutting; the drops from here on are those of the tour
pub record Settling (I : Instance) (tour dropped₀ : List ℕ) (n i : ℕ) (x : Work) : Type 0 where
  pub calls : Held
  pub holding : Holding tour dropped₀ calls x.calls n (length tour - n)
  pub same : drop_from_f I tour n calls ≡ drops_f I tour
  pub found : (k : ℕ) → k < i → have_f I (take n x.calls.held) (suc k) ≡ true
  pub filled : Filled I (take n x.calls.held) i x.legs x.rows

-- the lists are long enough, whatever the tables
pub record Roomy (tour held₀ dropped₀ : List ℕ) (n i : ℕ) (x : Calls) : Type 0 where
  pub short : length tour ≤ most_cut
  pub few : n ≤ length tour
  pub low : i ≤ n
  pub held-room : length tour ≤ length x.held
  pub dropped-room : length tour ≤ length x.dropped
  pub below : Below64 (take n x.held)
  pub held-long : length x.held ≡ length held₀
  pub dropped-long : length x.dropped ≡ length dropped₀
  pub positions-long : length x.positions ≡ most_cut

module _ (I : Instance) (tour : List ℕ) where
  -- one turn, by the place that is stuck
  pub drop-none : (n : ℕ) (h : Held) → stuck_f I (calls_at tour h.held) ≡ None → drop_from_f I tour n h ≡ h
  unfolding drop_from_f
  drop-none zero h e = refl
  drop-none (suc n) h e = rw (e, drop_from_f)

  pub drop-some : (n k : ℕ) (h : Held) → 0 < n → stuck_f I (calls_at tour h.held) ≡ Some k
      → drop_from_f I tour n h ≡ drop_from_f I tour (n - 1) (drop_at k h)
  unfolding drop_from_f
  drop-some zero k h b e = absurd (clash b)
    where
      clash : 0 < 0 → ⊥
      clash b = omega arith
  drop-some (suc n) k h b e = let p : suc n - 1 ≡ n = omega arith in rw (p, e, drop_from_f) refl

  -- at first all calls are held, and no row is filled
  pub all-settling : (n : ℕ) (x : Work) → length tour ≡ n → take n x.calls.held ≡ tour → take n x.calls.positions ≡ count 1 n
      → LegsTo (leg_f I.tables) (take n x.calls.held) n x.legs → TableOf (tariff I) (take n x.calls.held) 0 x.rows.table
      → LegsLong x.legs → length x.rows.reach ≡ cells → Settling I tour x.calls.dropped n 0 x
  unfolding drops_f
  all-settling n x e eh ep L T ll lr =
      let A = all-holding tour x.calls.dropped [] [] in
      let none-gone : length tour - n ≡ 0 = omega arith in
      record {
        calls = all_held tour;
        holding =
            record {
              held-are = eh ∙ sym (front-written tour []) ∙ A.held-are;
              positions-are = ep ∙ ap (count 1) (sym e);
              dropped-are = A.dropped-are;
              held-count = sym e ∙ A.held-count;
              gone-count = none-gone ∙ A.gone-count;
            };
        same = ap (λ (k : ℕ). drop_from_f I tour k (all_held tour)) (sym e);
        found = λ k h. absurd (clash k h);
        filled =
            record {
              legs-long = ll;
              reach-long = lr;
              legs-are = legs-whole I.tables (take n x.calls.held) n x.legs (omega (arith, ap length eh)) L;
              filled = T;
              reached = λ k h. absurd (clash k h);
            };
      }
    where
      clash : (k : ℕ) → k < 0 → ⊥
      clash k h = omega arith

  module _ (dropped₀ : List ℕ) (n i : ℕ) (x : Work) (long : n ≤ length x.calls.held) (S : Settling I tour dropped₀ n i x) where
    abbrev held : List ℕ
    held = x.calls.held

    abbrev FirstAt : ℕ → Type 0
    FirstAt k = FirstOf (λ k. have_f I (calls_at tour S.calls.held) (suc k)) (length (calls_at tour S.calls.held)) k

    calls-long : length (calls_at tour S.calls.held) ≡ n
    calls-long = length-map S.calls.held (call_at tour) ∙ sym S.holding.held-count

    -- ---- a turn at row i

    module _ (b : i < n) (legs : LegLists) (new : Rows) where
      -- the beginning of i + 1 calls has a cutting: the next row
      pub one_on : have_f I (take n held) (suc i) ≡ true → Filled I (take n held) (i + 1) legs new → Settling I tour dropped₀ n (i + 1) (work x.calls legs new)
      one_on h F =
          record {
            calls = S.calls;
            holding = S.holding;
            same = S.same;
            found = λ k l. by-test (eqb k i) (λ t. rw (eqb-true k i t) h) (λ f. S.found k (left k l (eqb-false k i f)));
            filled = F;
          }
        where
          left : (k : ℕ) → k < i + 1 → (k ≡ i → ⊥) → k < i
          left k l n = omega arith

      -- it has none: its last call goes
      module _ (none-there : have_f I (take n held) (suc i) ≡ false) (room : n ≤ length tour) (space : length tour ≤ length dropped₀)
          (less : Calls) (D : DropCall n i (length tour - n) x.calls less) where
        abbrev left_over : List ℕ
        left_over = take (n - 1) less.held

        is-first : FirstAt i
        is-first =
            subst (λ (l : List ℕ). FirstOf (λ k. have_f I l (suc k)) (length l) i) S.holding.held-are
            (record { within = omega (arith, length-take-le n held long); passes = S.found; fails = λ _. none-there })

        -- the beginnings up to i are those of before
        found_after : (k : ℕ) → k < i → have_f I left_over (suc k) ≡ true
        found_after k h =
            let alike = same-front n i held less.held b long D.held-less in
            let same = steps_alike (tariff I) (tariff-local I) i (take n held) left_over alike in
            sym (ap (λ (y : Float). lt y (inf false)) (cost-same (runs_of (tariff I) (stretches (take n held))) (runs_of (tariff I) (stretches left_over)) i same (suc k) (suc k) h))
            ∙ S.found k h

        pub one_less : Filled I left_over i legs new → Settling I tour dropped₀ (n - 1) i (work less legs new)
        one_less F =
            let z : length tour - n + 1 ≡ length tour - (n - 1) = omega arith in
            record {
              calls = drop_at i S.calls;
              holding =
                  subst (λ (g : ℕ). Holding tour dropped₀ (drop_at i S.calls) less (n - 1) g) z
                  (call-goes tour dropped₀ S.calls x.calls less n (length tour - n) i S.holding b (omega arith) D);
              same = sym (drop-some n i S.calls (omega arith) (first_some _ _ i is-first (omega (arith, calls-long)))) ∙ S.same;
              found = found_after;
              filled = F;
            }

    -- ---- all rows are filled: no beginning is stuck

    module _ (all : i ≡ n) where
      none_stuck : FirstAt i
      none_stuck =
          subst (λ (l : List ℕ). FirstOf (λ k. have_f I l (suc k)) (length l) i) S.holding.held-are
          (record { within = omega (arith, length-take-le n held long); passes = S.found; fails = λ h. absurd (clash h) })
        where
          clash : i < length (take n held) → ⊥
          clash h = omega (arith, length-take-le n held long)

      calls_are : S.calls ≡ drops_f I tour
      calls_are = sym (drop-none n S.calls (first-none _ _ i none_stuck (omega (arith, calls-long)))) ∙ S.same

      pub stayed : n ≤ length tour → Stayed I tour dropped₀ n held x.calls.dropped x.rows.table
      stayed room =
          record {
            held-count = S.holding.held-count ∙ ap (λ (h : Held). length h.held) calls_are;
            dropped-count = S.holding.gone-count ∙ ap (λ (h : Held). length h.dropped) calls_are;
            few = room;
            held-are = S.holding.held-are ∙ ap (λ (h : Held). calls_at tour h.held) calls_are;
            dropped-are = S.holding.dropped-are ∙ ap (λ (h : Held). written h.dropped dropped₀) calls_are;
            whole = subst (λ (k : ℕ). TableOf (tariff I) (take n held) k x.rows.table) all S.filled.filled;
          }
