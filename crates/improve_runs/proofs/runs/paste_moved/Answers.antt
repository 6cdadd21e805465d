-- `runs::paste_moved` meets its contract. The loop's invariant: the first k ends are moved, behind the first `at`. Assumes nothing.
use Prim.Native.Nat.{◌-◌}
use native.Mathlib.Omega.{arith}
use mathlib.Core.Path.{◌≡◌, sym, ◌∙◌}
use mathlib.Core.List.{map}
use lib.ListN.{get_or, length-map, get_or-map}
use Rattle.improve_runs.specs.RunLists.{shifted}
use Rattle.improve_runs.proofs.Fronts.{pasted-more}
use Rattle.improve_runs.proofs.runs.paste_moved.Goals as goal

pub loop-k-preserved : goal.loop-k-preserved
loop-k-preserved c =
    let l = c.loop-k in
    let a = c.args in
    let f = shifted 0 a.down in
    let x = get_or a.from.now l.k 0 in
    let many = length-map a.from.now f in
    let here : x - a.down ≡ f x = omega arith in
    pasted-more _ (map f a.from.now) l.to a.at l.k _ (f 0) c.requires.to_len.0 (omega (arith, many)) (omega (arith, many))
    (here ∙ sym (get_or-map f a.from.now l.k 0)) l.invariant
