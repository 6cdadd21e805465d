-- `state::State::in_range` meets its contract. Assumes nothing.
use native.Mathlib.Omega.{arith}
use borrow.Author.Tests.{ne_eqb}
use Rattle.definitions.specs.Reader.{in_range}
use Rattle.sheet_words.proofs.state.State.in_range.Goals as goal

pub returns-in-1 : goal.returns-in-1
unfolding in_range
returns-in-1 c = rw c.in-1.is c.is_places.ensures

pub returns-in-2 : goal.returns-in-2
unfolding in_range
returns-in-2 c = rw c.in-2.is c.is_capacity.ensures

pub returns-in-7 : goal.returns-in-7
unfolding in_range
returns-in-7 c = rw c.in-7.is c.is_demand.ensures

pub returns-in-11 : goal.returns-in-11
unfolding in_range
returns-in-11 c = rw c.in-11.is c.is_penalty.ensures

pub returns-in-12 : goal.returns-in-12
unfolding in_range
returns-in-12 c = rw c.in-12.is c.is_leg.ensures

pub returns-in-13 : goal.returns-in-13
unfolding in_range
returns-in-13 c = rw c.in-13.is c.is_leg-in-13.ensures

pub returns-in-14 : goal.returns-in-14
unfolding in_range
returns-in-14 c = rw c.in-14.is c.is_call.ensures

pub returns-in-15 : goal.returns-in-15
unfolding in_range
returns-in-15 c = rw c.in-15.is

pub returns-in-0 : goal.returns-in-0
unfolding in_range
returns-in-0 c = rw c.in-0.is c.second_in_range.ensures

pub returns-in_default : goal.returns-in_default
unfolding in_range
returns-in_default c =
    let k = c.args.w.kind in
    rw (
      ne_eqb k 0 (omega arith),
      ne_eqb k 1 (omega arith),
      ne_eqb k 2 (omega arith),
      ne_eqb k 7 (omega arith),
      ne_eqb k 11 (omega arith),
      ne_eqb k 12 (omega arith),
      ne_eqb k 13 (omega arith),
      ne_eqb k 14 (omega arith),
      ne_eqb k 15 (omega arith),
    )
    c.is_number.ensures
