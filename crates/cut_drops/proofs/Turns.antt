-- A turn of the loop that drops: a row is filled, and then the next one is due or a call goes. Said of any customers that the lists are worked out from, since the loop has only the lists.
-- Assumes nothing.
use Prim.Native.Nat.{ℕ, suc, ◌+◌, ◌-◌, ◌<◌, ◌≤◌}
use native.Mathlib.Omega.{arith}
use mathlib.Core.Path.{◌≡◌, refl, sym, subst, ◌∙◌}
use mathlib.Core.Bool.{Bool, true, false, true≢false, false≢true}
use mathlib.Core.List.{List}
use lib.ListN.{length, get_or, take}
use lib.Seq.{length-take-le}
use lib.IntN.{pos}
use lib.Ieee.{Float, nan, inf, fin, lt, of_int}
use Rattle.cut_theory.proofs.CarriedLaws.{none_done}
use Rattle.cut_theory.specs.Tab.{most_cut, cells}
use Rattle.whole.specs.Whole.{fl}
use Rattle.evaluation.specs.Records.{Tables}
use Rattle.models.specs.declared.customer.Customer.{Customer}
use Rattle.cut_stops.specs.Stops.{LegLists, LegsAre, LegsWritten}
use Rattle.cut_table.specs.Table.{Calls, DropCall}
use Rattle.cut_runs.specs.Tariff.{stretches, runs_of, fars_of}
use Rattle.cut_runs.specs.Runs.{Instance, over, tariff, RowLists}
use Rattle.cut_drops.specs.Drops.{have_f}
use Rattle.cut_drops.specs.Refill.{Rows, RowsLong, NotedRow, Noted, Refilled, Given, legs_given, tables_with, instance_with, ListsOf, SomeLists, Work, work, Filled, Turned, RowOrDrop, Unfilled, StuckReady, Holds}
use Rattle.cut_drops.proofs.Noting.{noted-long, legs-joined, noted-at, refilled-at}
use Rattle.cut_drops.proofs.Settling.{legs-kept, below-after, stops-after, have-is, filled_more, front-after, early-after, Settling, Roomy, one_on, one_less, all-settling, stayed}

zero-start : fl 0 ≡ fin false 0 (pos 0)
unfolding fl of_int
zero-start = refl

module _ (E : Given) where
  -- some customers that the numbers are of
  unfoldable pub some_of : (held : List ℕ) → SomeLists E held → List Customer
  unfolding SomeLists
  some_of held w = w.0

  pub some-lists : (held : List ℕ) (w : SomeLists E held) → ListsOf E held (some_of held w)
  unfolding SomeLists some_of
  some-lists held w = w.1

  pub some-on : (held left : List ℕ) → ((customers : List Customer) → ListsOf E held customers → ListsOf E left customers) → SomeLists E held → SomeLists E left
  unfolding SomeLists
  some-on held left f w = (w.0, f w.0 w.1)

  abbrev by_tables : Tables → Instance
  by_tables t = over t E.terms

  abbrev pub rows_of : List ℕ → LegLists → RowLists
  rows_of held legs = record { held = held; legs = legs; stops = E.stops }

  -- ---- row i of the n calls held, over the lists

  module _ (n i gone : ℕ) (x : Work) (few : n ≤ most_cut) (long : n ≤ length x.calls.held) (b : i < n)
      (new : Rows) (N : Noted by_tables (rows_of (take n x.calls.held) x.legs) i x.rows new) where
    abbrev held : List ℕ
    held = x.calls.held

    row_at : (customers : List Customer) → ListsOf E (take n held) customers → LegsAre (tables_with E customers) (take n held) x.legs
        → NotedRow (tariff (instance_with E customers)) (take n held) i x.rows new
    row_at customers W L = noted-at by_tables (rows_of (take n held) x.legs) (tables_with E customers) W L i x.rows new N

    pub row-long : (customers : List Customer) → ListsOf E (take n held) customers → LegsAre (tables_with E customers) (take n held) x.legs
        → length x.rows.reach ≡ cells → RowsLong new
    row-long customers W L l = noted-long (tariff (instance_with E customers)) (take n held) i x.rows new l (row_at customers W L)

    module _ (top : Float) (is-top : top ≡ inf false) where
      abbrev FilledBy : List Customer → Type 0
      FilledBy customers = Filled (instance_with E customers) (take n held) i x.legs x.rows

      told : (customers : List Customer) → ListsOf E (take n held) customers → FilledBy customers
          → lt (get_or new.table.cost (i + 1) nan) top ≡ have_f (instance_with E customers) (take n held) (suc i)
      told customers W F =
          have-is (instance_with E customers) held n i x.legs x.rows new few long F b (row_at customers W F.legs-are) top is-top

      -- the beginning of i + 1 calls has a cutting
      pub row_stays : lt (get_or new.table.cost (i + 1) nan) top ≡ true → RowOrDrop E n i gone true x (work x.calls x.legs new)
      unfolding RowOrDrop
      row_stays h customers W F =
          record {
            tells = sym h ∙ told customers W F;
            stays = λ _. (refl, filled_more (instance_with E customers) held n i x.legs x.rows new few long F b (row_at customers W F.legs-are));
            drops = λ e. absurd (true≢false e);
          }

      -- it has none: its last call goes, the legs from there on are written, and the rows before it filled again
      pub row_drops : lt (get_or new.table.cost (i + 1) nan) top ≡ false → (y : Work) → DropCall n i gone x.calls y.calls
          → LegsWritten (legs_given E) (take (n - 1) y.calls.held) i x.legs y.legs
          → Refilled by_tables (rows_of (take (n - 1) y.calls.held) y.legs) i new y.rows → RowOrDrop E n i gone false x y
      unfolding RowOrDrop
      row_drops h y D G A customers W F =
          let I = instance_with E customers in
          let t = tables_with E customers in
          let after = take (n - 1) y.calls.held in
          let R = row_at customers W F.legs-are in
          let L : LegsAre t after y.legs =
          legs-joined t after i x.legs y.legs (legs-kept n i held y.calls.held b long D.held-less t x.legs F.legs-are) G in
          let f =
          refilled-at by_tables (rows_of after y.legs) t (stops-after n i held y.calls.held b long D.held-less t E.stops W) L i new y.rows A
          (front-after I held n i x.legs x.rows new few long F b R y.calls.held D.held-less)
          (early-after I held n i x.legs x.rows new few long F b R y.calls.held D.held-less) in
          record {
            tells = sym h ∙ told customers W F;
            stays = λ e. absurd (false≢true e);
            drops = λ _. (D, record { legs-long = G.long; reach-long = f.2; legs-are = L; filled = f.0; reached = f.1 });
          }

  -- ---- the loop

  -- the invariant
  pub record Turn (tour held₀ dropped₀ : List ℕ) (n i : ℕ) (x : Work) : Type 0 where
    pub settling : (customers : List Customer) → ListsOf E tour customers → Settling (instance_with E customers) tour dropped₀ n i x
    pub listed : (customers : List Customer) → ListsOf E tour customers → ListsOf E (take n x.calls.held) customers
    pub roomy : Roomy tour held₀ dropped₀ n i x.calls

  module _ (tour held₀ dropped₀ : List ℕ) (n i : ℕ) (x : Work) (U : Turn tour held₀ dropped₀ n i x) where
    long : n ≤ length x.calls.held
    long = let v = U.roomy in omega arith

    space : length tour ≤ length dropped₀
    space = let v = U.roomy in omega arith

    module _ (b : i < n) (gone : ℕ) (is-gone : gone ≡ length tour - n) (r : Bool) (y : Work) (P : RowOrDrop E n i gone r x y) where
      turned : (customers : List Customer) → ListsOf E tour customers → Turned (instance_with E customers) n i gone r x y
      unfolding RowOrDrop
      turned customers W = P customers (U.listed customers W) (U.settling customers W).filled

      module _ (some-customers : List Customer) (from : ListsOf E tour some-customers) where
        -- no call goes
        pub turn_on : r ≡ true → Turn tour held₀ dropped₀ n (i + 1) y
        turn_on e =
            let v = U.roomy in
            let same = ((turned some-customers from).stays e).0 in
            subst (λ (c : Calls). Turn tour held₀ dropped₀ n (i + 1) (work c y.legs y.rows)) (sym same)
            (record {
              settling =
                  λ customers W.
                  let T = turned customers W in
                  one_on (instance_with E customers) tour dropped₀ n i x long (U.settling customers W) b y.legs y.rows (sym T.tells ∙ e) (T.stays e).1;
              listed = U.listed;
              roomy =
                  record {
                    short = v.short;
                    few = v.few;
                    low = omega arith;
                    held-room = v.held-room;
                    dropped-room = v.dropped-room;
                    below = v.below;
                    held-long = v.held-long;
                    dropped-long = v.dropped-long;
                    positions-long = v.positions-long;
                  };
            })

        -- a call goes
        pub turn-off : r ≡ false → length y.calls.held ≡ length x.calls.held → length y.calls.positions ≡ length x.calls.positions
            → length y.calls.dropped ≡ length x.calls.dropped → Turn tour held₀ dropped₀ (n - 1) i y
        turn-off e lh lp ld =
            let v = U.roomy in
            record {
              settling =
                  λ customers W.
                  let T = turned customers W in
                  one_less (instance_with E customers) tour dropped₀ n i x long (U.settling customers W) b y.legs y.rows (sym T.tells ∙ e) v.few space y.calls
                  (subst (λ (g : ℕ). DropCall n i g x.calls y.calls) is-gone (T.drops e).0) (T.drops e).1;
              listed =
                  λ customers W.
                  stops-after n i x.calls.held y.calls.held b long ((turned customers W).drops e).0.held-less (tables_with E customers) E.stops (U.listed customers W);
              roomy =
                  record {
                    short = v.short;
                    few = omega arith;
                    low = omega arith;
                    held-room = omega arith;
                    dropped-room = omega arith;
                    below = below-after n i x.calls.held y.calls.held b long ((turned some-customers from).drops e).0.held-less v.below;
                    held-long = lh ∙ v.held-long;
                    dropped-long = ld ∙ v.dropped-long;
                    positions-long = lp ∙ v.positions-long;
                  };
            }

    -- all rows are filled
    pub turn-ends : n ≤ i → Holds E tour dropped₀ n x.calls.held x.calls.dropped x.rows.table
    unfolding Holds
    turn-ends h customers W =
        let v = U.roomy in
        stayed (instance_with E customers) tour dropped₀ n i x long (U.settling customers W) (omega arith) v.few

  -- before the first row
  pub turn-begins : (n : ℕ) (x : Work) → StuckReady E n x → Turn (take n x.calls.held) x.calls.held x.calls.dropped n 0 x
  unfolding Unfilled
  turn-begins n x P =
      let held = x.calls.held in
      let f = P.front in
      let z = P.unfilled in
      let m : length (take n held) ≡ n = length-take-le n held f.held-long in
      record {
        settling =
            λ customers _.
            let T = tariff (instance_with E customers) in
            let N = none_done (runs_of T (stretches (take n held))) (fars_of T (stretches (take n held))) (inf false) (fl 0) (fl 0) refl zero-start refl in
            all-settling (instance_with E customers) (take n held) n x m refl P.positions-are P.legs-are
            (record { costs-are = z.0 ∙ N.costs-are; fars-are = z.1 ∙ N.fars-are; preds-are = z.2 ∙ N.preds-are })
            P.legs-long P.reach-long;
        listed = λ customers W. W;
        roomy =
            record {
              short = omega (arith, f.few);
              few = omega arith;
              low = omega arith;
              held-room = omega (arith, f.held-long);
              dropped-room = omega (arith, f.dropped-long);
              below = f.below;
              held-long = refl;
              dropped-long = refl;
              positions-long = P.positions-long;
            };
      }
