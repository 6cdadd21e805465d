-- The planner's plan as text, given back to the marker, is read as the plan and marked Best, on every sheet and tour within the limits. Assumes nothing.
use Prim.Native.Nat.{ℕ, ◌≤◌}
use native.Mathlib.Omega.{arith}
use mathlib.Core.Path.{◌≡◌, refl, sym, ap, subst, ◌∙◌}
use mathlib.Core.Bool.{true, false, not, false≢true}
use mathlib.Core.List.{List, [], ◌∷◌, map, map-id}
use Rattle.std.specs.Prelude.{Option, None, Some, option_map}
use lib.ListN.{length}
use lib.Seq.{take_all}
use lib.Dec.{leb, ltb}
use borrow.Author.Tests.{ltb-true, ltb-false, leb-true}
use Rattle.basics.proofs.TestLaws.{both, not-false}
use Rattle.basics.specs.Lists.{All}
use Rattle.basics.proofs.ListLaws.{all-imp, any-fails, fails-not}
use Rattle.definitions.specs.Domain.{most_places, most_calls, is_places, is_call}
use Rattle.definitions.specs.Sheet.{Customer, Sheet, map_customer}
use Rattle.definitions.specs.Placement.{Placement}
use Rattle.definitions.specs.Cutting.{joined}
use Rattle.definitions.specs.Drop.{Result, split_by}
use Rattle.definitions.specs.Marker.{best}
use Rattle.definitions.specs.Lent.{Lent, whole_sheet, cutting}
use Rattle.definitions.specs.Refusals.{Within, WithinCalls, repeats, bad_calls, refusal_of}
use Rattle.definitions.specs.Answers.{gives, mark_by_of}
use Rattle.definitions.specs.Listing.{plan_text}
use Rattle.texts.specs.CuttingText.{CuttingRead, runs, bad_at, read_cutting}
use Rattle.texts.specs.MarkText.{lent_runs}
use Rattle.theorems.proofs.Ranges.{calls-in-range, in-range}
use Rattle.theorems.proofs.Accepted.{accepted-none}
use Rattle.theorems.proofs.Promised.{PromiseBy, promised-by}
use Rattle.theorems.proofs.OwnMark.{served-in-range, places-most, own-marked}
use Rattle.texts.proofs.CuttingSteps.{Byte}
use Rattle.texts.proofs.CuttingBack.{plan-read}

-- ---- a sheet in whole numbers means itself

same-option : {A : Type 0} (o : Option A) → option_map (λ (x : A). x) o ≡ o
same-option None = refl
same-option (Some x) = refl

same-customers : (cs : List Customer) → map (map_customer (λ (n : ℕ). n)) cs ≡ cs
same-customers [] = refl
same-customers (c ∷ cs) = λ i. record { demand = c.demand; service = c.service; window = same-option c.window i; penalty = same-option c.penalty i } ∷ same-customers cs i

pub means-itself : (s : Sheet) → length s.customers ≡ s.head.places → whole_sheet Some s ≡ s
unfolding whole_sheet
means-itself s counted =
    λ i.
    record {
      head =
          record {
            places = s.head.places;
            capacity = s.head.capacity;
            fixed = s.head.fixed;
            max_distance = same-option s.head.max_distance i;
            max_duration = same-option s.head.max_duration i;
            rest = same-option s.head.rest i;
          };
      customers = (ap (map (map_customer (λ (n : ℕ). n))) (take_all s.head.places s.customers (omega (arith, counted))) ∙ same-customers s.customers) i;
      legs = record { distances = map-id s.legs.distances i; times = map-id s.legs.times i };
    }

-- ---- the plan of a sheet and tour within the limits

module _ (p : Placement) (s : Sheet) (tour : List ℕ) (W : Within s) (C : WithinCalls s tour) (once : repeats tour ≡ false) where
  abbrev x : Result
  x = split_by p s tour

  abbrev P : PromiseBy p s tour x
  P = promised-by s tour p

  served-range : bad_calls s.head.places x.served ≡ false
  served-range = subst (λ (c : List ℕ). bad_calls s.head.places c ≡ false) P.served-are (served-in-range s.head.places tour P.parted C)

  served-bytes : All Byte x.served
  served-bytes =
      let n = s.head.places in
      let few : n ≤ most_places = leb-true n most_places (both (leb 1 n) (leb n most_places) (not-false (is_places n) (in-range Some s W.ranged).places)).1 in
      let each = any-fails (λ (c : ℕ). not (is_call n c)) x.served (calls-in-range n x.served served-range).each in
      all-imp (λ (c : ℕ). is_call n c ≡ true) Byte (λ c h. omega (arith, few, ltb-true c n (both (leb 1 c) (ltb c n) h).1)) x.served (fails-not (is_call n) x.served each)

  places-bytes : All Byte x.places
  places-bytes =
      let few = ltb-false most_calls (length x.served) (calls-in-range s.head.places x.served served-range).few in
      subst (All Byte) P.places-are
      (all-imp (λ (q : ℕ). q ≤ length (joined P.runs)) Byte (λ q h. omega (arith, h, few, ap length P.cuts)) (map (λ r. r.place) P.runs) (places-most s P.runs P.all-legal))

  -- its text is read as the plan
  pub own_read : read_cutting (plan_text s tour x) ≡ runs x.served x.ends x.places
  own_read = plan-read p s tour served-bytes places-bytes

  abbrev cutting_lent : Lent ℕ
  cutting_lent = record { sheet = s; tour = tour; calls = []; ends = []; breaks = []; rooms = length tour ∷ length tour ∷ length tour ∷ [] }

  itself : whole_sheet Some s ≡ s
  itself = means-itself s W.counted

  cut-accepted : refusal_of Some cutting cutting_lent ≡ None
  cut-accepted =
      accepted-none Some cutting cutting_lent
      (record {
        customers = omega (arith, W.counted);
        results = (omega arith, (omega arith, (omega arith, tt)));
        breaks = λ m. absurd (false≢true m);
        ranged = in-range Some s W.ranged;
        within = subst Within (sym itself) W;
        tour = subst (λ (t : Sheet). WithinCalls t tour) (sym itself) C;
        calls = refl;
        once = once;
        runs = record { few = refl; ends = refl; some-call = refl; breaks = refl };
        unpaid = λ m. absurd (false≢true m);
        drivable = λ m. absurd (false≢true m);
      })

  marked : mark_by_of Some p (lent_runs s tour x.served x.ends x.places) ≡ gives best
  marked =
      ap (λ (t : Sheet). let y = split_by p t tour in mark_by_of Some p (lent_runs s tour y.served y.ends y.places)) (sym itself) ∙ own-marked p Some cutting_lent cut-accepted

  -- whatever runs are read in the plan's text, they are marked Best
  pub own-text-marked : (calls ends places : List ℕ) → read_cutting (plan_text s tour x) ≡ runs calls ends places → mark_by_of Some p (lent_runs s tour calls ends places) ≡ gives best
  own-text-marked calls ends places e = ap (λ (r : CuttingRead). mark_by_of Some p (lent_read r)) (sym e ∙ own_read) ∙ marked
    where
      lent_read : CuttingRead → Lent ℕ
      lent_read (runs c e b) = lent_runs s tour c e b
      lent_read (bad_at line column wanted) = lent_runs s tour [] [] []
