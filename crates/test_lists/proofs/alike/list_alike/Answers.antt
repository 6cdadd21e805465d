-- `alike::list_alike` meets its contract. Assumes nothing.
use native.Mathlib.Omega.{arith}
use Prim.Native.Nat.{ℕ}
use mathlib.Core.Path.{sym, ap, ◌∙◌}
use mathlib.Core.List.{List}
use lib.ListN.{length, take}
use Rattle.test_runs.specs.Runs.{given_in}
use Rattle.test_lists.specs.Answers.{list_alike}
use Rattle.test_lists.proofs.Asked.{fall-unlike}
use Rattle.test_lists.proofs.Numbers.{numbers-inside, numbers-counted, numbers-are}
use Rattle.test_lists.proofs.alike.list_alike.Goals as goal

pub returns-then-ends_fall : goal.returns-then-ends_fall
returns-then-ends_fall c =
    let a = c.args in
    fall-unlike (given_in a.held a.distances.now a.times.now) a.tour.now a.calls.now a.ends.now a.recorded.now (sym c.ends_fall.ensures ∙ c.if-ends_fall.true)

-- ---- the arrays with the calls and the run ends

pub slice_bounds-call_numbers-end : goal.slice_bounds-call_numbers-end
slice_bounds-call_numbers-end c = numbers-inside c.args.calls.now c.write_numbers.new.numbers c.write_numbers.ensures

pub slice_bounds-text_alike-end : goal.slice_bounds-text_alike-end
slice_bounds-text_alike-end c = numbers-counted c.args.calls.now c.write_numbers.new.numbers c.write_numbers.ensures

pub slice_bounds-end_numbers-end : goal.slice_bounds-end_numbers-end
slice_bounds-end_numbers-end c = numbers-inside c.args.ends.now c.write_numbers-2.new.numbers c.write_numbers-2.ensures

pub slice_bounds-text_alike-end-2 : goal.slice_bounds-text_alike-end-2
slice_bounds-text_alike-end-2 c = numbers-counted c.args.ends.now c.write_numbers-2.new.numbers c.write_numbers-2.ensures

pub text_alike-requires : goal.text_alike-requires
text_alike-requires c =
    let a = c.args in
    let p = c.requires in
    let calls = c.write_numbers in
    let ends = c.write_numbers-2 in
    record {
      fits =
          record {
            few-calls = omega (arith, numbers-counted a.calls.now calls.new.numbers calls.ensures, p.fits.few-calls);
            few-ends = omega (arith, numbers-counted a.ends.now ends.new.numbers ends.ensures, p.fits.few-ends);
            short = p.fits.short;
          };
      calls_value =
          rw (numbers-are a.calls.now calls.new.numbers calls.ensures, numbers-are a.ends.now ends.new.numbers ends.ensures)
          (sym c.ends_fall.ensures ∙ c.if-ends_fall.false);
      tour_len_bound = p.tour_len_bound;
    }

pub returns : goal.returns
returns c =
    let a = c.args in
    let calls = c.write_numbers in
    let ends = c.write_numbers-2 in
    let G = given_in a.held a.distances.now a.times.now in
    c.text_alike.ensures
    ∙ ap (λ (l : List ℕ). list_alike G a.tour.now l (take (length a.ends.now) ends.new.numbers) a.recorded.now) (numbers-are a.calls.now calls.new.numbers calls.ensures)
    ∙ ap (λ (l : List ℕ). list_alike G a.tour.now a.calls.now l a.recorded.now) (numbers-are a.ends.now ends.new.numbers ends.ensures)
