-- The sheet of whole numbers that a caller means by the sheet that it lends. Definitions only.
use Rattle.std.specs.Prelude.{List, Float}
use Rattle.definitions.specs.Sheet.{Sheet}
use Rattle.definitions.specs.Lent.{whole_sheet}
use Rattle.whole.specs.Value.{value}
use Rattle.models.specs.declared.customer.Customer.{Customer}
use Rattle.models.specs.declared.head.Head.{Head}
use Rattle.refuse_order.specs.Lent.{sheet_of}

abbrev pub sheet_lent : Head → List Customer → List Float → List Float → Sheet
sheet_lent head customers distances times = whole_sheet value (sheet_of head customers distances times)
