-- The records of whole numbers, each number held in a float: what an accepted sheet looks like in lent memory. Definitions only.
use Rattle.std.specs.Prelude.{Float}
use Rattle.definitions.specs.Sheet.{WindowOf, BreakOf, CustomerOf, SheetOf, Window, Break, Customer, Sheet, map_window, map_break, map_customer, map_sheet}
use Rattle.whole.specs.Whole.{fl}

abbrev pub fl_window : Window → WindowOf Float
fl_window = map_window fl

abbrev pub fl_break : Break → BreakOf Float
fl_break = map_break fl

abbrev pub fl_customer : Customer → CustomerOf Float
fl_customer = map_customer fl

abbrev pub fl_sheet : Sheet → SheetOf Float
fl_sheet = map_sheet fl
