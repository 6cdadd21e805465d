-- `load::load` meets its contract. Assumes nothing.
use native.Mathlib.Omega.{arith}
use native.Mathlib.Nat.{le_of_eq}
use mathlib.Core.Path.{refl, sym}
use Rattle.sheet_loaded.specs.Loaded.{arrays}
use Rattle.sheet_loaded.proofs.Loading.{loaded}
use borrow.Author.Rules.{rules}
use Rattle.sheet_loaded.proofs.load.load.Goals as goal

pub returns : goal.returns
returns c =
    let t = c in
    let m = t in
    let d = m in
    let start = d in
    let a = start.args in
    let old = arrays a.distances.now a.times.now a.tour.now in
    let new = arrays d.write_values.new.out m.write_values-2.new.out t.write_tour.new.out in
    loaded a.bytes.now _ old new
    (record {
      distances-are = d.write_values.ensures.written;
      times-are = m.write_values-2.ensures.written;
      tour-is = t.write_tour.ensures.written;
      customers-are = c.customers_of.ensures;
    })
    (record {
      distances = omega arith;
      times = omega arith;
      tour = omega arith;
    })
    a.found (record { head-is = refl; far-is = refl; long-is = refl; calls_are = refl }) start.requires
