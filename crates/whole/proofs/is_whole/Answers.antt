-- `whole::is_whole` meets its contract. Where the patterns are compared, n is x cut to a whole number: equal patterns say that x is `fl n`, and of an x that is `fl n` the cut is n.
-- Where a test before that fails, x is no `fl n`, since each such number passes. Assumes nothing.
use Rattle.std.proofs.Common.{◌≡◌, ℕ, ◌≤◌, Bool, true, false, T, leb, pos, sym, ap, ◌∙◌, subst, le_trans, arith, eq-eqb, eqb-true}
use mathlib.Core.Bool.{false≢true}
use lib.Ieee.{Float, fin, binary64, fits, of_bits, neg, to_unsigned, to_bits, lt}
use denote.Floats.{passes}
use Rattle.basics.proofs.TestLaws.{same_test}
use Rattle.basics.specs.Options.{holds}
use Rattle.whole.specs.Whole.{fl, limit}
use Rattle.whole.proofs.WholeLaws.{fl-fits}
use Rattle.whole.proofs.Bits.{fl-in, fl-back, fl-not-nan, lt-not-nan, bits-inj, minus-one-lt, lt-top}
use Rattle.whole.specs.Value.{value}
use Rattle.whole.proofs.ValueLaws.{stored, within, outside}
use Rattle.whole.proofs.is_whole.Goals as goal

-- of an x that is a whole number the cut is that number
cut : (x : Float) (n k : ℕ) → n ≡ to_unsigned 64 x → x ≡ fl k → k ≤ limit → n ≡ k
cut x n k e i h = e ∙ ap (to_unsigned 64) i ∙ fl-back k h

-- an x that fails a test which every whole number passes is none
refused : (x : Float) (m : ℕ) → T (fits binary64 x) → m ≤ limit → (t : Float → Bool) → t x ≡ false → ((n : ℕ) → n ≤ limit → t (fl n) ≡ true) → false ≡ holds (value x) (λ n. leb n m)
refused x m f l t e all = sym (outside x m f l (λ n i h. false≢true (sym e ∙ ap t i ∙ all n (le_trans h l))))

pub truncating_f64_to_u64-n-requires : goal.truncating_f64_to_u64-n-requires
unfolding of_bits neg
truncating_f64_to_u64-n-requires c = record { lower_bound = subst T (sym c.if-x.true) tt; upper_bound = subst T (sym c.if-x-2.true) tt }

pub int_to_float-result : goal.int_to_float-result
int_to_float-result c = fl-in _ (omega arith)

pub float_to_bits-result : goal.float_to_bits-result
unfolding fl
float_to_bits-result c = fl-not-nan _ (omega arith)

pub float_to_bits-result-then-n-max : goal.float_to_bits-result-then-n-max
float_to_bits-result-then-n-max c = lt-not-nan _ _ c.if-x-2.true

pub returns-then-n-max : goal.returns-then-n-max
unfolding fl
returns-then-n-max c =
    let s = c in
    let x = s.args.x in
    let m = s.args.max in
    let n = c.truncating_f64_to_u64-n.result in
    let held = passes _ s.well_formed.0.1 in
    same_test _ _
    (λ e. within x m n (bits-inj x (fl n) held (fl-fits n) (sym (eqb-true (to_bits binary64 (fl n)) (to_bits binary64 x) e))) (omega arith) (omega arith))
    (λ e. let w = stored x m held (omega arith) e in
    eq-eqb (to_bits binary64 (fl n)) (to_bits binary64 x) (ap (to_bits binary64) (ap fl (cut x n w.number c.truncating_f64_to_u64-n.ensures w.is (omega arith)) ∙ sym w.is)))

pub returns-else-n-max : goal.returns-else-n-max
returns-else-n-max c =
    let s = c in
    let m = s.args.max in
    let l : m ≤ limit = omega arith in
    sym (outside s.args.x m (passes _ s.well_formed.0.1) l (λ n i h. let e = cut _ _ n c.truncating_f64_to_u64-n.ensures i (le_trans h l) in omega arith))

pub returns-else-x-2 : goal.returns-else-x-2
unfolding of_bits
returns-else-x-2 c =
    let s = c in
    refused s.args.x s.args.max (passes _ s.well_formed.0.1) (omega arith) (λ z. lt z (fin false 1 (pos 64))) c.if-x-2.false lt-top

pub returns-else-x : goal.returns-else-x
unfolding of_bits neg
returns-else-x c =
    let s = c in
    refused s.args.x s.args.max (passes _ s.well_formed.0.1) (omega arith) (λ z. lt (fin true 1 (pos 0)) z) c.if-x.false minus-one-lt
