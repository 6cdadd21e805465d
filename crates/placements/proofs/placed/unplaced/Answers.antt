-- `placed::unplaced` meets its contract. Assumes nothing.
use mathlib.Core.Path.{◌≡◌, sym, ◌∙◌}
use Rattle.std.specs.Prelude.{None, Some}
use Rattle.placements.specs.Placed.{unplaced_f}
use borrow.Author.Rules.{rules}
use Rattle.placements.proofs.placed.unplaced.Goals as goal

pub returns-in_err-s : goal.returns-in_err-s
unfolding unplaced_f
returns-in_err-s c =
    let p = c in
    let e : p.plain_from.result ≡ None = search rules in
    rw (c.from_residual.ensures, ← p.start.ensures) (rw (← p.plain_from.ensures, e))

pub returns-then-excused : goal.returns-then-excused
unfolding unplaced_f
returns-then-excused c =
    let x = c in
    let h = x in
    let p = h in
    let e : p.plain_from.result ≡ Some h.in_ok-s.s = search rules in
    rw (← p.start.ensures) (rw (← p.plain_from.ensures, e) (rw (sym x.excused.ensures ∙ c.if-excused.true) c.kept.ensures))

pub returns-else-excused : goal.returns-else-excused
unfolding unplaced_f
returns-else-excused c =
    let x = c in
    let h = x in
    let p = h in
    let e : p.plain_from.result ≡ Some h.in_ok-s.s = search rules in
    rw (← p.start.ensures) (rw (← p.plain_from.ensures, e) (rw (sym x.excused.ensures ∙ c.if-excused.false)))
