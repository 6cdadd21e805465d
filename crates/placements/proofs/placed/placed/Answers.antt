-- `placed::placed` meets its contract. Assumes nothing.
use Prim.Native.Nat.{ℕ, suc, ◌+◌, ◌-◌}
use native.Mathlib.Numerals.{add-one}
use native.Mathlib.Omega.{arith}
use mathlib.Core.Path.{◌≡◌, ap, ◌∙◌}
use lib.ListN.{length, take, drop, length-drop}
use lib.Seq.{take_all}
use Rattle.std.specs.Prelude.{None, Some}
use Rattle.evaluation.specs.Records.{lent, limits_of}
use Rattle.evaluation.specs.Way.{plain_f}
use Rattle.evaluation.specs.Route.{kept_f}
use Rattle.placements.specs.Placed.{placed_f}
use borrow.Author.Rules.{rules}
use Rattle.placements.proofs.placed.placed.Goals as goal

pub returns-in_err-w : goal.returns-in_err-w
unfolding placed_f
returns-in_err-w c =
    let w = c in
    let e : w.rested_way.result ≡ None = search rules in
    rw (c.from_residual.ensures, ← w.rested_way.ensures, e)

pub returns : goal.returns
unfolding placed_f
returns c =
    let p = c in
    let x = p in
    let w = x in
    let a = w.args in
    let e : w.rested_way.result ≡ Some x.in_ok-w.w = search rules in
    let rest : take (length a.route.now - (a.k + 1)) (drop (a.k + 1) a.route.now) ≡ drop (suc a.k) a.route.now
    = ap (λ (n : ℕ). take (length a.route.now - n) (drop n a.route.now)) (add-one a.k)
    ∙ take_all (length a.route.now - suc a.k) (drop (suc a.k) a.route.now) (omega (arith, length-drop (suc a.k) a.route.now))
    in
    rw (← w.rested_way.ensures, e)
    (c.kept.ensures
    ∙ ap (kept_f (limits_of a.limits))
    (p.plain_from.ensures ∙ ap (plain_f (lent a.customers a.distances.now a.times.now a.size) x.in_ok-w.w) rest))
