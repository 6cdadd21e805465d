-- `split_tw::settle` meets its contract: the calls that stay, and their cut as it is read back from the table. Assumes nothing.
use native.Mathlib.Omega.{arith}
use mathlib.Core.Path.{sym}
use Rattle.whole.proofs.Bits.{fl-zero}
use Rattle.cut_table.specs.Table.{table}
use Rattle.cut_drops.specs.Refill.{given}
use Rattle.split_tw.proofs.Stayed.{worked, stayed-of, stayed-falls, stayed-settled, unfilled}
use Rattle.split_tw.proofs.split_tw.settle.Goals as goal

pub hold_tour-n-requires : goal.hold_tour-n-requires
hold_tour-n-requires c =
    let top = c in
    let s = top in
    let a = s.args in
    let W = top.work_out_calls.ensures in
    record {
      tour_len_bound = (s.requires.tour_len_bound.0, s.requires.tour_len_bound.1, W.long);
      tour_in_bounds = s.requires.tour_in_bounds;
      unfilled = unfilled _ _ _ top.infinity-top.ensures (sym fl-zero) (sym fl-zero);
      fact = worked (given a.distances.now a.times.now a.size _ _ a.terms) a.customers a.tour.now W;
    }

pub read_back-at-requires : goal.read_back-at-requires
read_back-at-requires c =
    let h = c in
    let top = h in
    let s = top in
    let a = s.args in
    let S =
    stayed-of (given a.distances.now a.times.now a.size _ _ a.terms) a.customers a.tour.now top.work_out_calls.ensures _ h.hold_tour-n.result _ _ (table _ _ _)
    h.hold_tour-n.ensures.fact_2 in
    record { n_le_most_cut = (omega (arith, S.few, s.requires.tour_len_bound.0), s.requires.tour_len_bound.2); falls = stayed-falls S (omega (arith, S.few, s.requires.tour_len_bound.0)) (omega (arith, S.few, s.requires.tour_in_bounds.0)) }

pub returns : goal.returns
returns c =
    let h = c in
    let top = h in
    let s = top in
    let a = s.args in
    let S =
    stayed-of (given a.distances.now a.times.now a.size _ _ a.terms) a.customers a.tour.now top.work_out_calls.ensures _ h.hold_tour-n.result _ _ (table _ _ _)
    h.hold_tour-n.ensures.fact_2 in
    let r = c.read_back-at.ensures in record { fact = stayed-settled S (omega (arith, S.few, s.requires.tour_len_bound.0)) (omega (arith, S.few, s.requires.tour_in_bounds.0)) _ _ r.upper_bound r.ends_after; dropped_after = S.dropped-are }
