-- `text::held_text` meets its contract. Assumes nothing.
use Prim.Native.Nat.{ℕ}
use native.Mathlib.Omega.{arith}
use mathlib.Core.Path.{subst}
use mathlib.Core.List.{List}
use Rattle.listing_lines.specs.Put.{Put}
use Rattle.listing_text.proofs.PlanPrinted.{rising, breaks-all, room, planned}
use Rattle.listing_text.proofs.text.held_text.Goals as goal

pub plan_text-requires : goal.plan_text-requires
plan_text-requires c =
    let shared = c in
    let made = shared in
    let x = made in
    let known = x in
    let start = known in
    let a = start.args in
    let s = start.requires.held.0 in
    let H = start.requires.held.1 in
    let L = x.plan_held-cut.ensures s H in
    let space = room s a.tour.now a.head a.customers a.distances.now a.times.now H L in
    let rise = rising s a.tour.now a.head a.customers a.distances.now a.times.now H L in
    record { rise_to = rise; ends_in_bounds = breaks-all s a.tour.now a.head a.customers a.distances.now a.times.now H L; lines_in_bounds = omega (arith, start.requires.in_bounds, space) }

pub returns : goal.returns
returns c =
    let y = c in
    let shared = y in
    let made = shared in
    let x = made in
    let known = x in
    let start = known in
    let a = start.args in
    let t = y.plan_text in record {
      text = λ s H.
          let L = x.plan_held-cut.ensures s H in
          let same = planned s a.tour.now a.head a.customers a.distances.now a.times.now H L in
          subst (λ (l : List ℕ). Put 0 l a.out.now t.new.out t.result) same t.ensures.text;
      short = t.ensures.short;
    }
