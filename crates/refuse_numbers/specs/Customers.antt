-- What is asked of a customer's record. Definitions only.
use Rattle.std.specs.Prelude.{Bool, Float}
use Rattle.definitions.specs.Sheet.{CustomerOf, soft}
use Rattle.definitions.specs.Refusals.{bad_customer}
use Rattle.whole.specs.Value.{value}
use Rattle.refuse_numbers.specs.declared.customers.Test.{Test}
use Rattle.refuse_numbers.specs.declared.customers.Test.TheVariants.{OutOfRange, Falling, Soft}
use Rattle.refuse_numbers.specs.Falling.{window_falls_f}

abbrev pub test_of : Test → CustomerOf Float → Bool
test_of OutOfRange c = bad_customer value c
test_of Falling c = window_falls_f c.window
test_of Soft c = soft c
