-- A sheet that is read and held, as the works take it. Assumes nothing.
use Rattle.std.proofs.Common.{◌≡◌, ℕ, zero, suc, ◌+◌, List, length, take, pos, sym, refl, ap, ◌∙◌, add-one}
use lib.Ieee.{Float, binary64, of_bits, of_int}
use Rattle.whole.specs.Whole.{fl}
use Rattle.whole.proofs.Bits.{fl-zero}
use Rattle.definitions.specs.Load.{Load}
use Rattle.definitions.specs.Sheet.{Sheet, CustomerOf}
use Rattle.definitions.specs.Reader.{sheet, refused_at, read}
use Rattle.bounds.proofs.Inside.{few-tour}
use Rattle.evaluation.specs.Records.{LimitsF}
use Rattle.models.specs.declared.placement.Placement.TheVariants.{Clock}
use Rattle.cut_runs.specs.Runs.{Instance}
use Rattle.cut_exact.proofs.Exact.{below_64}
use Rattle.sheet_loaded.specs.declared.load.Loaded.{Loaded}
use Rattle.sheet_loaded.specs.Loaded.{Arrays, Holds}
use Rattle.sheet_loaded.proofs.Loading.{calls_are}
use Rattle.sheet_loaded.proofs.HeadHeld.{held-capacity, held-fixed, held-limits}
use Rattle.bench_timing.specs.declared.work.Work.{Work}
use Rattle.bench_timing.specs.Work.{Callable, instance_in, gives_f, last_of, on_sheet, instance_of, timed}

same-instance : {c c' : List (CustomerOf Float)} {d d' t t' : List Float} {n n' : ℕ} {k k' : Load} {f f' : Float} {l l' : LimitsF} → c ≡ c' → d ≡ d' → t ≡ t' → n ≡ n' → k ≡ k' → f ≡ f' → l ≡ l'
    → ◌≡◌ {A = Instance} (record { tables = record { customers = c; distances = d; times = t; size = n }; capacity = k; fixed = f; limits = l; placement = Clock })
    (record { tables = record { customers = c'; distances = d'; times = t'; size = n' }; capacity = k'; fixed = f'; limits = l'; placement = Clock })
same-instance a b e g h i j = rw (a, b, e, g, h, i, j) refl

module _ {s : Sheet} {calls : List ℕ} {l : Loaded} {old new : Arrays} (H : Holds s calls l old new) where
  pub instance-is : instance_in l (take l.distance_count new.distances) (take l.time_count new.times) ≡ instance_of s
  instance-is =
      let M = H.in_memory in
      same-instance H.customers-are M.tables.distances-are M.tables.times-are M.tables.size_is (held-capacity M) (held-fixed M) (held-limits M)

  pub callable : Callable (take l.calls new.tour)
  callable =
      let M = H.in_memory in
      let visited = take l.calls new.tour in
      record { few = few-tour s M.within visited M.calls M.once; below = below_64 s M.within visited M.calls }

-- ---- rounds

pub last_more : (k : ℕ) (x : Float) → last_of (k + 1) x ≡ x
last_more k x = rw (add-one k) refl

pub last_none : (n : ℕ) → last_of n (fl 0) ≡ fl 0
last_none zero = refl
last_none (suc n) = refl

-- ---- bytes

module _ (f : Sheet → List ℕ → Float) (bytes : List ℕ) where
  pub on-accepted : (s : Sheet) (tour : List ℕ) → read bytes ≡ sheet s tour → f s tour ≡ on_sheet f (read bytes)
  on-accepted s tour e = sym (ap (on_sheet f) e)

  pub on-refused : (number word : ℕ) → read bytes ≡ refused_at number word → of_bits binary64 0 ≡ on_sheet f (read bytes)
  on-refused number word e = sym (ap (on_sheet f) e ∙ fl-zero)

module _ (work : Work) (n : ℕ) (bytes : List ℕ) where
  pub timed-accepted : (s : Sheet) (tour : List ℕ) → read bytes ≡ sheet s tour → last_of n (gives_f work (instance_of s) tour) ≡ timed work n (read bytes)
  timed-accepted s tour e = sym (ap (timed work n) e)

  pub timed-refused : (number word : ℕ) → read bytes ≡ refused_at number word → of_bits binary64 0 ≡ timed work n (read bytes)
  timed-refused number word e = sym (ap (timed work n) e ∙ last_none n ∙ fl-zero)

-- ---- what a held sheet gives is what its bytes give

module _ {s : Sheet} {calls : List ℕ} {l : Loaded} {old new : Arrays} (H : Holds s calls l old new)
    (bytes : List ℕ) (e : read bytes ≡ sheet s calls) (r : Float) where
  pub rounds-on : (work : Work) (n : ℕ)
      → r ≡ last_of n (gives_f work (instance_in l (take l.distance_count new.distances) (take l.time_count new.times)) (take l.calls new.tour))
      → r ≡ timed work n (read bytes)
  rounds-on work n h =
      h ∙ ap (λ (I : Instance). last_of n (gives_f work I (take l.calls new.tour))) (instance-is H)
      ∙ ap (λ (t : List ℕ). last_of n (gives_f work (instance_of s) t)) (calls_are H)
      ∙ timed-accepted work n bytes s calls e

  pub counted-on : r ≡ of_int binary64 (pos l.calls) → r ≡ on_sheet (λ s calls. fl (length calls)) (read bytes)
  unfolding fl
  counted-on h = h ∙ ap (λ (n : ℕ). of_int binary64 (pos n)) H.calls_count ∙ on-accepted (λ s calls. fl (length calls)) bytes s calls e
