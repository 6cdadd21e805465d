-- What reading accepts is the words of the sheet and tour that it returns, and those are within the limits.
use Prim.Native.Nat.{ℕ}
use native.Mathlib.Omega.{arith}
use mathlib.Core.Path.{◌≡◌, refl, sym, ap, subst, ◌∙◌}
use mathlib.Core.Bool.{Bool, false}
use mathlib.Core.List.{List}
use Rattle.definitions.specs.Sheet.{Sheet}
use Rattle.definitions.specs.Words.{Word}
use Rattle.definitions.specs.Encoding.{encode}
use Rattle.definitions.specs.Reader.{start, walk, Outcome, accepted, refused, sheet_of, tour_of, read_words, answer, sheet, refused_at}
use Rattle.definitions.specs.Refusals.{Within, WithinCalls, repeats}
use Rattle.round_trip.proofs.Says.{sheet-said, tour-said}
use Rattle.round_trip.proofs.Good.{good-within, good-within-tour}
use Rattle.round_trip.proofs.Accepts.{word_count}
use Rattle.round_trip.proofs.ReadsBack.{encode-counted}
use Rattle.round_trip.proofs.Inverts.{IsSheet, accepted-is}

pub record Is (ws : List Word) (left : Bool) (s : Sheet) (tour : List ℕ) : Type 0 where
  -- which second capacity and demands that are 0 have a word
  pub said : List Bool
  pub words : ws ≡ encode said s tour
  pub nothing_left : left ≡ false
  pub within : Within s
  pub calls : WithinCalls s tour
  pub once : repeats tour ≡ false

is-by : (ws : List Word) (left : Bool) → IsSheet left ws → Is ws left (sheet_of ws) (tour_of ws)
is-by ws left I =
    let f = word_count I.said I.sheet I.tour in
    let same-sheet = ap sheet_of I.is ∙ sheet-said I.said I.sheet I.tour f I.good.first in
    let same-tour = ap tour_of I.is ∙ tour-said I.said I.sheet I.tour f in
    subst (λ (s : Sheet). Is ws left s (tour_of ws)) (sym same-sheet) (subst (Is ws left I.sheet) (sym same-tour) is)
  where
    is : Is ws left I.sheet I.tour
    is =
        record {
          said = I.said;
          words = I.is ∙ sym (encode-counted I.said I.sheet I.tour);
          nothing_left = I.nothing_left;
          within = good-within I.sheet I.good;
          calls = good-within-tour I.sheet.head.places I.tour I.good.places I.calls;
          once = I.calls.once;
        }

-- whatever is accepted is the words of the sheet and tour returned, with nothing left over, and those are within the limits
pub only-sheets : (ws : List Word) (left : Bool) (s : Sheet) (tour : List ℕ) → read_words ws left ≡ sheet s tour → Is ws left s tour
unfolding read_words
only-sheets ws left s tour e = go (walk start 0 ws left) refl e
  where
    go : (v : Outcome) → walk start 0 ws left ≡ v → answer v (sheet_of ws) (tour_of ws) ≡ sheet s tour → Is ws left s tour
    go accepted h e' =
        let same-sheet : sheet_of ws ≡ s = cc in
        let same-tour : tour_of ws ≡ tour = cc in
        rw (same-sheet, same-tour) at (is-by ws left (accepted-is ws left h))
    go (refused n i) h e' = absurd (no-sheet n i e')
      where
        no-sheet : (n i : ℕ) → refused_at n i ≡ sheet s tour → ⊥
        no-sheet n i x = let z : ◌≡◌ {A = ℕ} 0 1 = cc in omega arith
