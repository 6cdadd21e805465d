-- `state::State::may_stand` meets its contract. Assumes nothing.
use Prim.Native.Nat.{ℕ}
use mathlib.Core.List.{[], ◌∷◌}
use mathlib.Core.Path.{ap, ◌∙◌}
use native.Mathlib.Omega.{arith}
use borrow.Author.Tests.{ne_eqb}
use Rattle.definitions.specs.Reader.{among, may_stand}
use Rattle.sheet_words.proofs.state.State.may_stand.Goals as goal

pub returns-in-16 : goal.returns-in-16
unfolding may_stand
returns-in-16 c = rw c.in-16.is c.among1.ensures

pub returns-in-1 : goal.returns-in-1
unfolding may_stand
returns-in-1 c = rw c.in-1.is c.among1-in-1.ensures

pub returns-in-2 : goal.returns-in-2
unfolding may_stand
returns-in-2 c = rw c.in-2.is c.among2.ensures

pub returns-in-3 : goal.returns-in-3
unfolding may_stand
returns-in-3 c =
    let a = c.args in
    rw c.in-3.is (c.among4.ensures ∙ ap (λ (n : ℕ). among a.kind (4 ∷ 5 ∷ 6 ∷ n ∷ [])) c.onward-on.ensures)

pub returns-in-4 : goal.returns-in-4
unfolding may_stand
returns-in-4 c =
    let a = c.args in
    rw c.in-4.is (c.among3.ensures ∙ ap (λ (n : ℕ). among a.kind (5 ∷ 6 ∷ n ∷ [])) c.onward-on.ensures)

pub returns-in-5 : goal.returns-in-5
unfolding may_stand
returns-in-5 c =
    let a = c.args in
    rw c.in-5.is (c.among2-in-5.ensures ∙ ap (λ (n : ℕ). among a.kind (6 ∷ n ∷ [])) c.onward-on.ensures)

pub returns-in-6 : goal.returns-in-6
unfolding may_stand
returns-in-6 c = rw c.in-6.is c.behind_break.ensures

pub returns-in-7 : goal.returns-in-7
unfolding may_stand
returns-in-7 c = rw c.in-7.is c.among2-in-7.ensures

pub returns-in-8 : goal.returns-in-8
unfolding may_stand
returns-in-8 c =
    let a = c.args in
    rw c.in-8.is (c.among3-in-8.ensures ∙ ap (λ (n : ℕ). among a.kind (9 ∷ 0xB ∷ n ∷ [])) c.onward-on.ensures)

pub returns-in-9 : goal.returns-in-9
unfolding may_stand
returns-in-9 c = rw c.in-9.is c.among1-in-9.ensures

pub returns-in-10 : goal.returns-in-10
unfolding may_stand
returns-in-10 c =
    let a = c.args in
    rw c.in-10.is (c.among2-in-10.ensures ∙ ap (λ (n : ℕ). among a.kind (0xB ∷ n ∷ [])) c.onward-on.ensures)

pub returns-in-11 : goal.returns-in-11
unfolding may_stand
returns-in-11 c =
    let a = c.args in
    rw c.in-11.is (c.among1-in-11.ensures ∙ ap (λ (n : ℕ). among a.kind (n ∷ [])) c.onward-on.ensures)

pub returns-in-12 : goal.returns-in-12
unfolding may_stand
returns-in-12 c = rw c.in-12.is c.behind_distance.ensures

pub returns-in-13 : goal.returns-in-13
unfolding may_stand
returns-in-13 c = rw c.in-13.is c.behind_time.ensures

pub returns-in-14 : goal.returns-in-14
unfolding may_stand
returns-in-14 c = rw c.in-14.is c.among2-in-14.ensures

pub returns-in-0 : goal.returns-in-0
unfolding may_stand
returns-in-0 c =
    let a = c.args in
    rw c.in-0.is (c.among1-in-0.ensures ∙ ap (λ (n : ℕ). among a.kind (n ∷ [])) c.behind_second-second.ensures)

pub returns-in_default : goal.returns-in_default
unfolding may_stand
returns-in_default c =
    let l = c.args.self.last.kind in
    rw (
      ne_eqb l 16 (omega arith),
      ne_eqb l 1 (omega arith),
      ne_eqb l 2 (omega arith),
      ne_eqb l 3 (omega arith),
      ne_eqb l 4 (omega arith),
      ne_eqb l 5 (omega arith),
      ne_eqb l 6 (omega arith),
      ne_eqb l 7 (omega arith),
      ne_eqb l 8 (omega arith),
      ne_eqb l 9 (omega arith),
      ne_eqb l 10 (omega arith),
      ne_eqb l 11 (omega arith),
      ne_eqb l 12 (omega arith),
      ne_eqb l 13 (omega arith),
      ne_eqb l 14 (omega arith),
      ne_eqb l 0 (omega arith),
    )
