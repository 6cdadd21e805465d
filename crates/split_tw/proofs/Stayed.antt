-- From the table of the calls that stay to their cut. Assumes nothing.
use Prim.Native.Nat.{ℕ, ◌+◌, ◌≤◌}
use native.Mathlib.Omega.{arith}
use mathlib.Core.Path.{◌≡◌, refl, sym, subst}
use mathlib.Core.Bool.{false}
use mathlib.Core.List.{List, []}
use lib.ListN.{length, get_or, set, take, drop, replicate}
use lib.Seq.{length-take-le}
use lib.Ieee.{Float, nan, inf}
use Rattle.cut_theory.specs.Cut.{back_of, Falls}
use Rattle.cut_theory.specs.Tab.{most_cut, cells}
use Rattle.whole.specs.Whole.{fl}
use Rattle.models.specs.declared.customer.Customer.{Customer}
use Rattle.cut_table.specs.Table.{Table, table}
use Rattle.cut_runs.specs.Tariff.{TableOf, CutDone}
use Rattle.cut_runs.specs.Runs.{Instance, tariff}
use Rattle.split_tw.specs.SplitTw.{Settled}
use Rattle.cut_drops.specs.Drops.{drops_f}
use Rattle.cut_drops.specs.Refill.{Given, instance_with, ListsOf, SomeLists, Stayed, Unfilled, Holds}
use Rattle.split_tw.proofs.Cutting.{table-falls, table-cut}

module _ (E : Given) (customers : List Customer) (tour : List ℕ) (W : ListsOf E tour customers) where
  -- the numbers are of these customers
  pub worked : SomeLists E tour
  unfolding SomeLists
  worked = (customers, W)

  pub stayed-of : (dropped : List ℕ) (n : ℕ) (held dropped' : List ℕ) (t : Table)
      → Holds E tour dropped n held dropped' t → Stayed (instance_with E customers) tour dropped n held dropped' t
  unfolding Holds
  stayed-of dropped n held dropped' t H = H customers W

module _ {I : Instance} {tour dropped : List ℕ} {n : ℕ} {held dropped' : List ℕ} {t : Table} (S : Stayed I tour dropped n held dropped' t)
    (few : n ≤ most_cut) (long : n ≤ length held) where
  is-long : length (take n held) ≡ n
  is-long = length-take-le n held long

  short : length (take n held) ≤ most_cut
  short = omega (arith, is-long, few)

  all-rows : TableOf (tariff I) (take n held) (length (take n held)) t
  all-rows = subst (λ (k : ℕ). TableOf (tariff I) (take n held) k t) (sym is-long) S.whole

  pub stayed-falls : Falls (λ j. get_or t.pred j 0) n
  stayed-falls = subst (λ (k : ℕ). Falls (λ j. get_or t.pred j 0) k) is-long (table-falls (tariff I) (take n held) short t all-rows)

  module _ (at : ℕ) (es : List ℕ) (l : (at ≤ cells) × (length es ≡ cells)) (e : drop at es ≡ back_of (λ j. get_or t.pred j 0) n n []) where
    abbrev CutOf : List ℕ → ℕ → Type 0
    CutOf calls k = CutDone (tariff I) calls (get_or t.cost k nan) (get_or t.far k nan) at es

    cut : CutOf (take n held) n
    cut = subst (CutOf (take n held)) is-long (table-cut (tariff I) (take n held) short t all-rows at es l (rw is-long e))

    pub stayed-settled : Settled I tour n (get_or t.cost n nan) (get_or t.far n nan) at held es
    stayed-settled =
        record {
          held-count = S.held-count;
          dropped-count = S.dropped-count;
          few = S.few;
          held-are = S.held-are;
          cut-done = subst (λ (c : List ℕ). CutOf c n) S.held-are cut;
        }

-- the table before the first row, as it is made
pub unfilled : (x z d : Float) → x ≡ inf false → z ≡ fl 0 → d ≡ fl 0 → Unfilled (table (set (replicate cells x) 0 z) (replicate cells d) (replicate cells 0))
unfolding Unfilled
unfilled x z d ex ez ed = (rw (ex, ez) refl, rw ed refl, refl)

-- each call of the tour is held or dropped
pub each-counted : (I : Instance) (tour : List ℕ) (n : ℕ) (cost distance : Float) (at : ℕ) (hs es : List ℕ) → Settled I tour n cost distance at hs es
    → length (drops_f I tour).held + length (drops_f I tour).dropped ≡ length tour
each-counted I tour n cost distance at hs es S = omega (arith, S.held-count, S.dropped-count, S.few)
