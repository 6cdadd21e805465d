-- A sheet that is read and held, and what its bytes say. Assumes nothing.
use Prim.Native.Nat.{ℕ, ◌≤◌}
use mathlib.Core.Path.{◌≡◌, refl, sym, ap, ◌∙◌}
use mathlib.Core.Bool.{Bool, false}
use mathlib.Core.List.{List}
use lib.Ieee.{Float}
use lib.ListN.{length, take}
use Rattle.cut_theory.specs.Tab.{most_cut}
use Rattle.definitions.specs.Load.{Load}
use Rattle.definitions.specs.Sheet.{Sheet, CustomerOf}
use Rattle.definitions.specs.Reader.{sheet, refused_at, read}
use Rattle.bounds.proofs.Inside.{few-tour}
use Rattle.evaluation.specs.Records.{LimitsF}
use Rattle.cut_stops.specs.Stops.{Below64}
use Rattle.cut_exact.proofs.Exact.{below_64}
use Rattle.improve_base.specs.Search.{search_f}
use Rattle.place_choice.specs.Insertion.{GivenF}
use Rattle.sheet_loaded.specs.declared.load.Loaded.{Loaded}
use Rattle.sheet_loaded.specs.Loaded.{Arrays, Holds}
use Rattle.sheet_loaded.proofs.Loading.{calls_are}
use Rattle.sheet_loaded.proofs.HeadHeld.{held-capacity, held-fixed, held-limits}
use Rattle.test_runs.specs.Runs.{given_in}
use Rattle.test_lists.specs.Answers.{given_of, list_alike, sheet_alike}

-- what is given, by its parts
abbrev given : List (CustomerOf Float) → List Float → List Float → ℕ → Load → Float → LimitsF → GivenF
given c d t n k f l =
    record { tables = record { customers = c; distances = d; times = t; size = n }; capacity = k; fixed = f; search = search_f c n l }

same-given : {c c' : List (CustomerOf Float)} {d d' t t' : List Float} {n n' : ℕ} {k k' : Load} {f f' : Float} {l l' : LimitsF} → c ≡ c' → d ≡ d' → t ≡ t' → n ≡ n' → k ≡ k' → f ≡ f' → l ≡ l'
    → given c d t n k f l ≡ given c' d' t' n' k' f' l'
same-given a b e g h i j = rw (a, b, e, g, h, i, j) refl

module _ {s : Sheet} {tour : List ℕ} {l : Loaded} {old new : Arrays} (H : Holds s tour l old new) where
  -- its tour is as the cut takes it
  pub cuttable : (length (take l.calls new.tour) ≤ most_cut) × Below64 (take l.calls new.tour)
  cuttable =
      let M = H.in_memory in
      let calls = take l.calls new.tour in
      (few-tour s M.within calls M.calls M.once, below_64 s M.within calls M.calls)

  given_is : given_in l (take l.distance_count new.distances) (take l.time_count new.times) ≡ given_of s
  given_is =
      let M = H.in_memory in
      same-given H.customers-are M.tables.distances-are M.tables.times-are M.tables.size_is (held-capacity M) (held-fixed M) (held-limits M)

  pub alike-on : (bytes : List ℕ) → read bytes ≡ sheet s tour → (calls ends recorded : List ℕ) (r : Bool)
      → r ≡ list_alike (given_in l (take l.distance_count new.distances) (take l.time_count new.times)) (take l.calls new.tour) calls ends recorded
      → r ≡ sheet_alike (read bytes) calls ends recorded
  alike-on bytes e calls ends recorded r h =
      h ∙ ap (λ (G : GivenF). list_alike G (take l.calls new.tour) calls ends recorded) given_is
      ∙ ap (λ (t : List ℕ). list_alike (given_of s) t calls ends recorded) (calls_are H)
      ∙ sym (ap (λ x. sheet_alike x calls ends recorded) e)

pub refused-unlike : (bytes calls ends recorded : List ℕ) (number word : ℕ) → read bytes ≡ refused_at number word → false ≡ sheet_alike (read bytes) calls ends recorded
refused-unlike bytes calls ends recorded number word e = sym (ap (λ x. sheet_alike x calls ends recorded) e)
