-- The lines of a run's calls and violations, one more at a time. Assumes nothing.
use Prim.Native.Nat.{ℕ, zero, suc, ◌+◌, ◌≤◌, ◌<◌}
use native.Mathlib.Omega.{arith}
use native.Mathlib.Nat.{not-suc-le-zero}
use native.Mathlib.Numerals.{add-one}
use mathlib.Core.Path.{◌≡◌, refl, sym, ap, ◌∙◌}
use mathlib.Core.List.{List, [], ◌∷◌, ◌++◌, map}
use Rattle.std.specs.Prelude.{Option}
use lib.Dec.{eqb}
use lib.Ieee.{Float}
use lib.ListN.{length, take, drop, get_or, length-take, drop_of_length-le}
use lib.Seq.{get_or-take}
use borrow.Author.Tests.{ne_eqb}
use Rattle.basics.specs.Lists.{is_empty}
use Rattle.definitions.specs.Sheet.{CustomerOf}
use Rattle.models.specs.declared.customer.Customer.{Customer}
use Rattle.models.specs.Records.{opening_of, customer_of}
use Rattle.evaluation.specs.Tables.{record_index, blank, record_f}
use Rattle.evaluation.proofs.Reading.{read-record}
use Rattle.listing_lines.proofs.Pieces.{next-left}
use Rattle.texts.specs.TimesText.{stop_line, stop_lines, violation_line, violation_lines}
use Rattle.visits.specs.declared.visit.Visit.{Visit}
use Rattle.visits.specs.declared.visit.Violation.{Violation}
use Rattle.times_lines.specs.Told.{told_at, stops_in, violation_in}

-- ---- calls

-- the window of a call, with its record read in the array of 64
pub window-read : (customers : List Customer) (c i : ℕ) (d : Customer) → length customers ≡ 64 → i ≡ record_index c → i < 64
    → opening_of (get_or customers i d).time_window ≡ (get_or (map customer_of customers) (record_index c) blank).window
unfolding record_f
window-read customers c i d long e h = ap (λ (y : CustomerOf Float). y.window) (read-record customers [] [] 0 c i d long e h)

module _ (customers : List (CustomerOf Float)) (duration : Float) (place : ℕ) (start : Option Float) (n : ℕ) (visits : List Visit) (begins : List Float) (count : ℕ) where
  -- the lines from call number i + 1 on
  abbrev pub stops_left : ℕ → List ℕ
  stops_left i = stop_lines n (i + 1) (stops_in customers duration place start (i + 1) (drop i visits) (drop i (take count begins)))

  pub stops-more : (i : ℕ) (v : Visit) (b : Float) → count ≤ length begins → i < length visits → i < count
      → stops_left i ≡ stop_line n (i + 1) (told_at customers duration place start (i + 1) (get_or visits i v) (get_or begins i b)) ++ stops_left (i + 1)
  unfolding stops_in
  stops-more i v b few hᵥ h =
      let begin-next : drop i (take count begins) ≡ get_or begins i b ∷ drop (i + 1) (take count begins) =
      next-left (take count begins) i b (rw (length-take count begins) (omega arith)) ∙ ap (λ x. x ∷ drop (i + 1) (take count begins)) (get_or-take count begins i b h) in
      ap (λ (l : List Visit). stop_lines n (i + 1) (stops_in customers duration place start (i + 1) l (drop i (take count begins)))) (next-left visits i v hᵥ)
      ∙ ap (λ (l : List Float). stop_lines n (i + 1) (stops_in customers duration place start (i + 1) (get_or visits i v ∷ drop (i + 1) visits) l)) begin-next
      ∙ ap (λ (m : ℕ). stop_line n (i + 1) (told_at customers duration place start (i + 1) (get_or visits i v) (get_or begins i b))
      ++ stop_lines n m (stops_in customers duration place start m (drop (i + 1) visits) (drop (i + 1) (take count begins)))) (sym (add-one (i + 1)))

  pub stops-ended : (i : ℕ) → length visits ≤ i → stops_left i ≡ []
  unfolding stops_in
  stops-ended i h =
      ap (λ (l : List Visit). stop_lines n (i + 1) (stops_in customers duration place start (i + 1) l (drop i (take count begins)))) (drop_of_length-le visits h)

-- ---- violations

module _ (n : ℕ) (violations : List Violation) where
  abbrev pub violations_left : ℕ → List ℕ
  violations_left i = violation_lines n (map violation_in (drop i violations))

  pub violations-more : (i : ℕ) (v : Violation) → i < length violations → violations_left i ≡ violation_line n (violation_in (get_or violations i v)) ++ violations_left (i + 1)
  violations-more i v h = ap (λ (l : List Violation). violation_lines n (map violation_in l)) (next-left violations i v h)

-- ---- a run with calls

-- its lines are those of no run only where it has no visits
pub driven : (customers : List (CustomerOf Float)) (duration : Float) (place : ℕ) (start : Option Float) (count : ℕ) (visits : List Visit) (begins : List Float)
    → count ≤ length visits → count ≤ length begins → is_empty (stops_in customers duration place start 1 (take count visits) (take count begins)) ≡ eqb count 0
unfolding stops_in
driven customers duration place start zero visits begins h k = refl
driven customers duration place start (suc m) [] begins h k = absurd (not-suc-le-zero h)
driven customers duration place start (suc m) (v ∷ vs) [] h k = absurd (not-suc-le-zero k)
driven customers duration place start (suc m) (v ∷ vs) (b ∷ bs) h k = sym (ne_eqb (suc m) 0 never)
  where
    never : suc m ≡ 0 → ⊥
    never e = omega arith
