-- The contract of a cutting, for any way to cut that keeps demand 3. Assumes nothing.
use Prim.Native.Nat.{ℕ, ◌≤◌}
use mathlib.Core.Path.{◌≡◌, refl, sym, subst}
use mathlib.Core.List.{List, []}
use Rattle.std.specs.Prelude.{Option, None, Some}
use lib.ListN.{length}
use Rattle.bounds.proofs.Inside.{sized, few-calls}
use Rattle.bounds.proofs.InBytes.{InBytes, bytes-read-back, calls-in-bytes, CutInBytes, split-in-bytes, split-by-in-bytes}
use Rattle.bounds.proofs.CostBoundLaws.{plain-priced, plan-fits, split-by-fits}
use Rattle.definitions.specs.Domain.{most_calls}
use Rattle.definitions.specs.Sheet.{Sheet}
use Rattle.definitions.specs.Drop.{Result, plain_arc, split, split_by}
use Rattle.definitions.specs.Lent.{cutting}
use Rattle.definitions.specs.Refusals.{refusal_of, Within, WithinCalls}
use Rattle.definitions.specs.Bytes.{stored, read_back}
use Rattle.definitions.specs.Answers.{Answer, front, unless_refused, answer}
use Rattle.definitions.specs.Placement.{Placement, by_clock}
use Rattle.definitions.specs.Clauses.{bare, Clauses}
use Rattle.theorems.proofs.Accepted.{accepted-within}
use Rattle.theorems.proofs.Bare.{split-kept}
use Rattle.theorems.proofs.Sentences.{split-by-kept}
use Rattle.whole.specs.Whole.{limit}
use Rattle.whole.specs.Value.{value}
use Rattle.whole.proofs.ValueLaws.{value-fl}
use Rattle.call_cuts.specs.declared.cutting.Cut.{Cut}
use Rattle.call_cuts.specs.Cutting.{cut_in}
use Rattle.planner.specs.Calls.{LentSheet, meant}
use Rattle.planner.specs.Cutting.{CutOutput, cut_output, cut_on, cut_answer, CutContract}
use Rattle.planner.proofs.InBytes.{stored_same}

-- ---- they are kept of what is read back from the lists

abbrev firsts : List ℕ → List ℕ → List ℕ
firsts new old = read_back (length new) (stored new old)

module _ (p : Placement) (s : Sheet) (tour served ends dropped : List ℕ) (x : Result) (small : CutInBytes x) (kept : Clauses p s tour x.served x.ends x.dropped x.cost) where
  front_kept : Clauses p s tour (firsts x.served served) (firsts x.ends ends) (firsts x.dropped dropped) x.cost
  front_kept =
      rw (
        bytes-read-back x.served served small.served,
        bytes-read-back x.ends ends small.ends,
        bytes-read-back x.dropped dropped small.dropped,
      ) kept

-- ---- the ways to cut

-- A way to cut, by a placement of the breaks, and what it looks at of a sheet: of that it keeps demand 3, and on a sheet within the limits
-- a float holds its cost and bytes its lists.
pub record Way : Type 0 where
  pub placement : Placement
  pub cut : Sheet → List ℕ → Result
  pub looks_at : Sheet → Sheet
  pub clauses : (s : Sheet) (tour : List ℕ) → let x = cut s tour in Clauses placement (looks_at s) tour x.served x.ends x.dropped x.cost
  pub cost-small : (s : Sheet) → Within s → (tour : List ℕ) → WithinCalls s tour → (cut s tour).cost ≤ limit
  pub in_bytes : (tour : List ℕ) → InBytes tour → length tour ≤ most_calls → (s : Sheet) → CutInBytes (cut s tour)

-- by loads and closed legs alone
pub plain-small : (s : Sheet) → Within s → (tour : List ℕ) → WithinCalls s tour → (split s tour).cost ≤ limit
unfolding split
plain-small s W tour T = let S = sized s W in (plan-fits (plain_arc s) (plain-priced s S) tour (few-calls s tour T) s S).0

abbrev pub plainly : Way
plainly =
    record {
      placement = by_clock;
      cut = split;
      looks_at = bare;
      clauses = split-kept;
      cost-small = plain-small;
      in_bytes = split-in-bytes;
    }

-- by all that the sheet has
abbrev pub timed : Placement → Way
timed p =
    record {
      placement = p;
      cut = split_by p;
      looks_at = λ s. s;
      clauses = split-by-kept p;
      cost-small = λ s W tour T. split-by-fits p s (sized s W) tour (few-calls s tour T);
      in_bytes = split-by-in-bytes p;
    }

-- ---- what a call that answers so keeps

module _ (way : Way) (q : LentSheet) (tour : List ℕ) (old : CutOutput) where
  abbrev x : Result
  x = way.cut (meant q) tour

  abbrev answered : Answer Result
  answered = cut_answer way.cut q tour old

  abbrev pub Keeps : Cut → CutOutput → Type 0
  Keeps r new = CutContract way.placement way.cut way.looks_at q tour old r new

  -- the lists, with an answer stored in them
  abbrev pub left : Answer Result → CutOutput
  left a =
      cut_output (stored (front (λ y. y.served) a) old.served) (stored (front (λ y. y.ends) a) old.ends)
      (stored (front (λ y. y.dropped) a) old.dropped)

  kept_by : (refusal : Option ℕ) → refusal_of value cutting (cut_on q tour old) ≡ refusal → answered ≡ unless_refused refusal x
      → (refusal ≡ None → (x.cost ≤ limit) × CutInBytes x) → Keeps (cut_in answered) (left answered)
  kept_by (Some number) is by small =
      rw by record {
        result = rw by refl;
        served-left = rw by refl;
        ends-left = rw by refl;
        dropped-left = rw by refl;
        refused = sym is;
        untouched = refl;
        legal = tt;
        sum = tt;
        least = tt;
        ties = tt;
        held = [];
        served-are = tt;
        drops = tt;
        partition = tt;
      }
  kept_by None is by small =
      let bytes = (small refl).1 in
      let K = front_kept way.placement (way.looks_at (meant q)) tour old.served old.ends old.dropped x bytes (way.clauses (meant q) tour) in
      let means = value-fl x.cost (small refl).0 in
      rw by record {
        result = rw by refl;
        served-left = rw by (stored_same x.served old.served bytes.served);
        ends-left = rw by (stored_same x.ends old.ends bytes.ends);
        dropped-left = rw by (stored_same x.dropped old.dropped bytes.dropped);
        refused = sym is;
        untouched = tt;
        legal = K.legal;
        sum = (x.cost, means, K.sum);
        least = (x.cost, means, K.least);
        ties = K.ties;
        held = K.held;
        served-are = K.served-are;
        drops = K.drops;
        partition = K.partition;
      }

  pub kept : {r : Cut} {new : CutOutput} → r ≡ cut_in answered → new ≡ left answered → Keeps r new
  unfolding answer
  kept is left_is =
      subst (λ (z : Cut × CutOutput). Keeps z.0 z.1) (λ i. (sym is i, sym left_is i))
      (kept_by (refusal_of value cutting (cut_on q tour old)) refl refl
      (λ e.
      let a = accepted-within value cutting (cut_on q tour old) e in (
        way.cost-small (meant q) a.within tour a.tour,
        way.in_bytes tour (calls-in-bytes (meant q) a.within tour a.tour) (few-calls (meant q) tour a.tour) (meant q),
      )))
