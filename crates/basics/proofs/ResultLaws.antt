-- The law of an error that is passed on. Assumes nothing.
use mathlib.Core.Path.{◌≡◌, ap}
use Rattle.std.specs.Prelude.{Result, Ok, Err, IsErrAnd}

-- what `?` hands out is the error that it met
pub same_error : {A E : Type 0} {r : Result A E} {e : E} → IsErrAnd r (λ (y : E). y ≡ e) → r ≡ Err e
same_error {r = Ok x} h = absurd h
same_error {r = Err y} h = ap Err h
