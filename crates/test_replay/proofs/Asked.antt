-- A question by its kind. Assumes nothing.
use Prim.Native.Nat.{ℕ, ◌-◌, ◌<◌}
use native.Mathlib.Omega.{arith}
use mathlib.Core.Path.{◌≡◌, refl, ap}
use mathlib.Core.List.{List, [], ◌∷◌}
use lib.ListN.{length, get_or, take, drop}
use lib.Seq.{take_all}
use Rattle.test_records.specs.declared.seen.Seen.TheVariants.{Unlike}
use Rattle.test_records.specs.Seen.{seen_of}
use Rattle.test_replay.specs.Replayed.{is_wrong, answer_alike, seen_in}

pub no_kind : (question recorded : List ℕ) → length question ≡ 0 → Unlike ≡ seen_in question recorded
unfolding seen_in
no_kind [] recorded h = refl
no_kind (kind ∷ asked) recorded h = absurd (omega arith)

pub by_kind : (question recorded : List ℕ) → 0 < length question
    → seen_of (is_wrong (get_or question 0 0)) (answer_alike (get_or question 0 0) (take (length question - 1) (drop 1 question)) recorded) ≡ seen_in question recorded
unfolding seen_in
by_kind [] recorded h = absurd (omega arith)
by_kind (kind ∷ asked) recorded h = ap (λ (l : List ℕ). seen_of (is_wrong kind) (answer_alike kind l recorded)) (take_all (length (kind ∷ asked) - 1) asked (omega arith))
