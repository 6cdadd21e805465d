-- `read::next` meets its contract. Assumes nothing.
use native.Mathlib.Omega.{arith}
use mathlib.Core.Path.{◌≡◌, sym, subst, ◌∙◌}
use Prim.Native.Nat.{◌≤◌}
use lib.ListN.{length}
use Rattle.cutting_text.specs.declared.read.TextSoFar.{TextSoFar}
use Rattle.std.specs.Prelude.{Option, None, Some}
use borrow.Author.Rules.{rules}
use Rattle.cutting_text.specs.Modes.{moved_of}
use Rattle.cutting_text.specs.TextSoFar.{state_of, stepped_of, More}
use Rattle.cutting_text.proofs.Stepped.{known, at-line-end, stuck_there, at-blank, at-letter, more-run, more-both}
use Rattle.cutting_text.proofs.read.next.Goals as goal

pub returns-in_err-q : goal.returns-in_err-q
returns-in_err-q c =
    let b4 = c in
    let b6 = b4 in
    let b10 = b6 in
    let a = b10.args in
    let s = state_of a.r a.calls.now a.ends.now a.places.now in
    let calls = b4.blanked.new.calls in
    let said = b4.blanked.ensures.said a.ends.now a.places.now in
    let e : c.blanked.result ≡ None = search rules in
    rw c.from_residual.ensures (record { said = stuck_there s a.b b6.if-b-eq10.true (known (λ (t : Option TextSoFar). stepped_of t calls a.ends.now a.places.now) e said); few = tt })

pub returns-then-b-eq10 : goal.returns-then-b-eq10
returns-then-b-eq10 c =
    let b4 = c in
    let b8 = b4 in
    let b11 = b8 in
    let b12 = b11 in
    let b14 = b12 in
    let b18 = b14 in
    let a = b18.args in
    let s = state_of a.r a.calls.now a.ends.now a.places.now in
    let q = b8.in_ok-q.q in
    let calls = b12.blanked.new.calls in
    let e : b12.blanked.result ≡ Some q = search rules in
    let m = subst (λ (t : Option TextSoFar). More 1 0 a.r t) e b12.blanked.ensures.few in
    let h : q.calls ≤ length calls = omega (arith, m.0, c.blanked.auto.calls, b18.requires.calls_in_bounds) in record {
      said = at-line-end s a.b (state_of q calls a.ends.now a.places.now) b14.if-b-eq10.true
          (known (λ (t : Option TextSoFar). stepped_of t calls a.ends.now a.places.now) e (b12.blanked.ensures.said a.ends.now a.places.now))
          (b4.line_ended.ensures.said calls h);
      few = more-both a.r q b4.line_ended.result m.0 m.1 b4.line_ended.ensures.few;
    }

pub returns-then-is_blank : goal.returns-then-is_blank
returns-then-is_blank c =
    let b2 = c in
    let b4 = b2 in
    let b5 = b4 in
    let b6 = b5 in
    let b10 = b6 in
    let a = b10.args in
    let s = state_of a.r a.calls.now a.ends.now a.places.now in
    let said = b2.blanked-then-is_blank.ensures.said a.ends.now a.places.now in
    record { said = at-blank s a.b b6.if-b-eq10.false (sym b5.is_blank.ensures ∙ b4.if-is_blank.true) said; few = more-run a.r b2.blanked-then-is_blank.result b2.blanked-then-is_blank.ensures.few }

pub returns-in_err-on : goal.returns-in_err-on
returns-in_err-on c =
    let b2 = c in
    let b3 = b2 in
    let b4 = b3 in
    let b5 = b4 in
    let b9 = b5 in
    let a = b9.args in
    let s = state_of a.r a.calls.now a.ends.now a.places.now in
    let e : c.letter.result ≡ None = search rules in
    rw c.from_residual-in_err-on.ensures (record { said = at-letter s a.b b5.if-b-eq10.false (sym b4.is_blank.ensures ∙ b3.if-is_blank.false) (known moved_of e b2.letter.ensures); few = tt })

pub returns : goal.returns
returns c =
    let b3 = c in
    let b4 = b3 in
    let b5 = b4 in
    let b6 = b5 in
    let b10 = b6 in
    let a = b10.args in
    let s = state_of a.r a.calls.now a.ends.now a.places.now in
    let e : c.letter.result ≡ Some c.in_ok-on.on = search rules in
    record { said = at-letter s a.b b6.if-b-eq10.false (sym b5.is_blank.ensures ∙ b4.if-is_blank.false) (known moved_of e b3.letter.ensures); few = (omega arith, omega arith) }
