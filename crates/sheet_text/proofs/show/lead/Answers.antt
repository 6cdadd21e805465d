-- `show::lead` meets its contract. Assumes nothing.
use native.Mathlib.Omega.{arith}
use borrow.Author.Tests.{ne_eqb}
use Rattle.listing_lines.proofs.Putting.{nothing}
use Rattle.sheet_text.proofs.show.lead.Goals as goal

pub returns-in_default : goal.returns-in_default
returns-in_default c =
    let b2 = c in
    let a = b2.args in
    let k = a.kind in record {
      text = rw (
        ne_eqb k 1 (omega arith),
        ne_eqb k 2 (omega arith),
        ne_eqb k 0 (omega arith),
        ne_eqb k 3 (omega arith),
        ne_eqb k 4 (omega arith),
        ne_eqb k 5 (omega arith),
        ne_eqb k 6 (omega arith),
        ne_eqb k 7 (omega arith),
        ne_eqb k 8 (omega arith),
        ne_eqb k 9 (omega arith),
        ne_eqb k 10 (omega arith),
        ne_eqb k 11 (omega arith),
        ne_eqb k 12 (omega arith),
        ne_eqb k 13 (omega arith),
        ne_eqb k 14 (omega arith),
      )
          (nothing a.at a.out.now);
      short = omega arith;
    }
