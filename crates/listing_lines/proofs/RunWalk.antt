-- A run list walked run by run: where the calls of each begin and end. Assumes nothing.
use Rattle.std.proofs.Common.{◌≡◌, ℕ, ◌+◌, ◌-◌, ◌<◌, ◌≤◌, List, [], ◌∷◌, length, get_or, take, drop, refl, subst, arith, drop_of_length-le, drop-drop}
use Rattle.definitions.specs.RunList.{runs_from}
use Rattle.theorems.proofs.RunListLaws.{RiseTo, rise-le}
use Rattle.listing_lines.proofs.Pieces.{next-left}

-- the runs from number k on, whose calls begin at `from`
abbrev pub runs_left : (calls ends : List ℕ) → ℕ → ℕ → List (List ℕ)
runs_left calls ends from k = runs_from from (drop from calls) (drop k ends)

-- before run number k, whose calls begin at `from`
pub record AtRun (calls ends : List ℕ) (from k : ℕ) : Type 0 where
  pub within : k ≤ length ends
  pub rise : RiseTo from (drop k ends) (length calls)

module _ {calls ends : List ℕ} {from k : ℕ} (q : AtRun calls ends from k) where
  pub begins : from ≤ length calls
  begins = rise-le from (drop k ends) (length calls) q.rise

  pub none_left : length ends ≤ k → runs_left calls ends from k ≡ []
  unfolding runs_from
  none_left h = rw (drop_of_length-le ends {i = k} h) refl

  module _ (more : k < length ends) where
    -- the end of run number k
    abbrev to : ℕ
    to = get_or ends k 0

    rise-here : RiseTo from (to ∷ drop (k + 1) ends) (length calls)
    rise-here = subst (λ (es : List ℕ). RiseTo from es (length calls)) (next-left ends k 0 more) q.rise

    pub rises : from ≤ to
    rises = rise-here.0

    pub inside : to ≤ length calls
    inside = rise-le to (drop (k + 1) ends) (length calls) rise-here.1

    -- the calls of run number k come first
    pub run-next : runs_left calls ends from k ≡ take (to - from) (drop from calls) ∷ runs_left calls ends to (k + 1)
    unfolding runs_from
    run-next = rw (next-left ends k 0 more, drop-drop (to - from) from calls, on)
      where
        on : from + (to - from) ≡ to
        on = omega (arith, rises)

    pub next : AtRun calls ends to (k + 1)
    next = record { within = omega arith; rise = rise-here.1 }
