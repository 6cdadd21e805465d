-- The run ends of a text as bytes: the mark of its runs stays. Assumes nothing.
use Prim.Native.Nat.{ℕ, ◌+◌, ◌≤◌, min}
use native.Mathlib.Omega.{arith}
use mathlib.Core.Path.{◌≡◌, refl, sym, ap, ◌∙◌}
use mathlib.Core.Bool.{Bool, true, false, cond, not, ◌&&◌, ◌||◌, false≢true}
use mathlib.Core.List.{List, [], ◌∷◌, map}
use Rattle.std.specs.Prelude.{Option, Some}
use lib.ListN.{length, length-map, length-append, length-take, length-drop, take, drop}
use lib.Seq.{take_all}
use lib.Dec.{ltb}
use borrow.Author.Tests.{ltb-false}
use Rattle.basics.specs.Tests.{either}
use Rattle.basics.specs.Lists.{any}
use Rattle.basics.proofs.TestLaws.{by-test}
use Rattle.basics.proofs.ListLaws.{all-imp}
use Rattle.definitions.specs.Domain.{most_calls, is_call}
use Rattle.definitions.specs.Sheet.{Sheet, records, any_soft}
use Rattle.definitions.specs.Bytes.{byte_of, stored}
use Rattle.definitions.specs.Placement.{by_clock}
use Rattle.definitions.specs.RunList.{runs_of}
use Rattle.definitions.specs.Drop.{split_tw}
use Rattle.definitions.specs.Marker.{with_places, mark_by}
use Rattle.definitions.specs.Lent.{whole_sheet, marking}
use Rattle.definitions.specs.Refusal.{Refusal, refusal, first_fit}
use Rattle.definitions.specs.Refusals.{too_short, tables_odd, bad_tour, repeats, bad_sheet, out_of_range, pairs_fall, closures_differ, any_closed, runs_odd, refusals, refusal_of}
use Rattle.definitions.specs.Answers.{unless_refused, answer}
use Rattle.bounds.proofs.InBytes.{bytes_same}
use Rattle.cut_table.proofs.Fronts.{front}
use Rattle.texts.specs.CuttingText.{runs}
use Rattle.texts.specs.MarkText.{runs_refused, lent_runs, runs_cost, answer_text, cutting_text}
use Rattle.texts.proofs.ReadRuns.{EndsIn}

-- ---- stored at the front of an array

pub ends-stored : (m : ℕ) (ends old new : List ℕ) → m ≡ length ends → m ≤ length new → new ≡ stored (take (min m (length old)) ends) old → take m new ≡ map byte_of ends
ends-stored m ends old new h k e =
    let x = map byte_of (take (min m (length old)) ends) in
    let many : length x ≡ min (min m (length old)) (length ends) = length-map (take (min m (length old)) ends) byte_of ∙ length-take (min m (length old)) ends in
    let size : length new ≡ length x + length (drop (length x) old) = ap length e ∙ length-append x (drop (length x) old) in
    let room : m ≤ length old = omega (arith, h, k, many, size, length-drop (length x) old) in
    let all : take (min m (length old)) ends ≡ ends = take_all (min m (length old)) ends (omega (arith, h, room)) in
    front m x old new (omega (arith, h, many, room)) e ∙ ap (map byte_of) all

-- ---- more than 128 calls are refused, whatever the ends are

-- 1 is given where neither 13 nor 14 fits
third-fits : (a b c : Bool) (rest : List Refusal) → c ≡ true → first_fit (refusal 13 a ∷ refusal 14 b ∷ refusal 1 c ∷ rest) ≡ Some (cond a 13 (cond b 14 1))
third-fits true b c rest e = refl
third-fits false true c rest e = refl
third-fits false false true rest e = refl
third-fits false false false rest e = absurd (false≢true e)

third_of : (a b c d : Bool) → c ≡ true → either (a ∷ b ∷ (c || d) ∷ []) ≡ true
third_of true b c d e = refl
third_of false true c d e = refl
third_of false false true d e = refl
third_of false false false d e = absurd (false≢true e)

module _ (s : Sheet) (tour calls places : List ℕ) where
  -- the number of their refusal
  abbrev number : List ℕ → ℕ
  number ends = cond (too_short marking (lent_runs s tour calls ends places)) 13 (cond (tables_odd s) 14 1)

  module _ (many : ltb most_calls (length calls) ≡ true) (ends : List ℕ) where
    out : out_of_range Some (lent_runs s tour calls ends places) ≡ true
    unfolding out_of_range
    out = third_of (bad_sheet Some s) (bad_tour s.head.places tour) (ltb most_calls (length calls)) (any (λ (c : ℕ). not (is_call s.head.places c)) calls) many

    refused : refusal_of Some marking (lent_runs s tour calls ends places) ≡ Some (number ends)
    unfolding refusal_of refusals
    refused =
        let l = lent_runs s tour calls ends places in
        third-fits (too_short marking l) (tables_odd s) (out_of_range Some l)
        (refusal 21 (repeats tour)
        ∷ refusal 2 (pairs_fall Some s)
        ∷ refusal 22 (closures_differ Some s.legs)
        ∷ refusal 5 (runs_odd marking l)
        ∷ refusal 4 (false && any_soft (records s))
        ∷ refusal 23 (false && any_closed Some s.legs)
        ∷ [])
        out

    refused-text : cutting_text s tour (runs calls ends places) ≡ runs_refused (number ends)
    unfolding answer
    refused-text =
        let v = mark_by by_clock (whole_sheet Some s) tour (with_places (runs_of calls ends) places) in
        ap (λ (o : Option ℕ). answer_text tour (split_tw s tour) calls (runs_cost s calls ends places) (unless_refused o v)) refused

  -- it goes by how many ends there are
  same_number : (ends : List ℕ) → number (map byte_of ends) ≡ number ends
  same_number ends =
      ap (λ (n : ℕ). cond (either (ltb (length s.customers) s.head.places ∷ false ∷ ltb (length places) n ∷ [])) 13 (cond (tables_odd s) 14 1)) (length-map ends byte_of)

  -- ---- the mark

  pub bytes-marked : (ends : List ℕ) → EndsIn calls ends → cutting_text s tour (runs calls (map byte_of ends) places) ≡ cutting_text s tour (runs calls ends places)
  bytes-marked ends inside =
      by-test (ltb most_calls (length calls))
      (λ many. refused-text many (map byte_of ends) ∙ ap runs_refused (same_number ends) ∙ sym (refused-text many ends))
      (λ few. let h = ltb-false most_calls (length calls) few in
      ap (λ (l : List ℕ). cutting_text s tour (runs calls l places))
      (bytes_same ends (all-imp (λ (e : ℕ). e ≤ length calls) (λ (e : ℕ). e ≤ most_calls) (λ e k. omega (arith, h, k)) ends inside)))
