-- On a sheet held in floats `route_feasible` has to be asked exactly when crates/definitions says so. Assumes nothing.
use mathlib.Core.Path.{◌≡◌, refl, ap, ap₂}
use mathlib.Core.Bool.{Bool, true, false, ◌||◌}
use mathlib.Core.List.{List, [], ◌∷◌, map}
use Rattle.std.specs.Prelude.{Option, None, Some, option_map}
use Rattle.basics.specs.Options.{present}
use Rattle.basics.specs.Lists.{any}
use Rattle.definitions.specs.Sheet.{Customer, Sheet}
use Rattle.definitions.specs.Improver.{checks_needed}
use Rattle.models.specs.Image.{fl_customer}
use Rattle.evaluation.specs.Records.{Tables}
use Rattle.evaluation.specs.Image.{fl_limits, Image}
use Rattle.evaluation.specs.Checks.{windowed_any, checks_needed_f}

present-map : {A B : Type 0} (f : A → B) (o : Option A) → present (option_map f o) ≡ present o
present-map f None = refl
present-map f (Some a) = refl

windows-exact : (l : List Customer) → windowed_any (map fl_customer l) ≡ any (λ c. present c.window) l
windows-exact [] = refl
windows-exact (c ∷ l) = ap₂ ◌||◌ (present-map _ c.window) (windows-exact l)

or-none : (a : Bool) → a ≡ a || false
or-none true = refl
or-none false = refl

pub checks-exact : (s : Sheet) (t : Tables) → Image s t → checks_needed_f t.customers t.size (fl_limits s) ≡ checks_needed s
unfolding checks_needed_f checks_needed
checks-exact s t I =
    rw (I.size_is, I.records-are, windows-exact s.customers, present-map _ s.head.max_distance, present-map _ s.head.max_duration, present-map _ s.head.rest)
    (ap (λ (b : Bool). any (λ c. present c.window) s.customers || (present s.head.max_distance || (present s.head.max_duration || b))) (or-none (present s.head.rest)))
