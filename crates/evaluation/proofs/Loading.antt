-- The load of calls, call by call: what is left of it from call i on. Assumes nothing.
use Prim.Native.Nat.{ℕ, ◌+◌, ◌≤◌, ◌<◌}
use native.Mathlib.Numerals.{add-one}
use mathlib.Core.Path.{◌≡◌, sym, ap, ◌∙◌}
use mathlib.Core.List.{List}
use lib.ListN.{length, get_or, drop, drop_of_length-le}
use lib.Seq.{drop-cons}
use Rattle.definitions.specs.Load.{Load, no_load, plus, load_by}
use Rattle.definitions.proofs.LoadLaws.{none-plus, plus_none, plus_assoc}
use Rattle.evaluation.specs.Tables.{asked_f, load_f}

module _ (demands calls : List ℕ) (i : ℕ) where
  load-turn : i < length calls → load_f demands (drop i calls) ≡ plus (asked_f demands (get_or calls i 0)) (load_f demands (drop (i + 1) calls))
  unfolding load_f
  load-turn h = rw (add-one i) (ap (load_by (asked_f demands)) (drop-cons calls i 0 h))

  pub load-on : (load more demand all : Load) → i < length calls → more ≡ plus load demand → demand ≡ asked_f demands (get_or calls i 0)
      → plus load (load_f demands (drop i calls)) ≡ all → plus more (load_f demands (drop (i + 1) calls)) ≡ all
  load-on load more demand all h m d e =
      ap (λ (l : Load). plus l (load_f demands (drop (i + 1) calls))) (m ∙ ap (plus load) d)
      ∙ plus_assoc load (asked_f demands (get_or calls i 0)) (load_f demands (drop (i + 1) calls))
      ∙ ap (plus load) (sym (load-turn h)) ∙ e

  pub load-end : (load all : Load) → length calls ≤ i → plus load (load_f demands (drop i calls)) ≡ all → load ≡ all
  unfolding load_f
  load-end load all h e = sym (plus_none load) ∙ sym (ap (λ (l : List ℕ). plus load (load_by (asked_f demands) l)) (drop_of_length-le calls h)) ∙ e

pub load-begins : (demands calls : List ℕ) → plus no_load (load_f demands calls) ≡ load_f demands calls
load-begins demands calls = none-plus (load_f demands calls)
