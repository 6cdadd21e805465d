-- The theory of the cut.
--
-- Over any costs: `Best` has the theorems on the table of `Cut`, `RunsBest` the same for runs that are legal or not, `PlainBest` for costs with no infinity of their own, `LexLaws` for pairs of costs.
-- `FirstLaws`, `DropLaws` and `HeldLaws` have the drop rule. `TabLaws`, `FillLaws`, `BackLaws` and `Moved` say how code that works on arrays comes to the definitions.
-- At `f64`: `FloatLaws` has the laws of the costs, `RowLaws` the table as code fills it, `CarriedLaws` what is carried along it, `PricedBest` the theorems for runs whose price is a sum of terms.
-- `Cases` has small cases, worked out.
--
-- The main theorems, in `RunsBest`, `PlainBest` and `PricedBest` by the same names (in `PlainBest` there is no `there`: its `least` says it too):
--   least      no legal cutting of the first n calls costs less than the table's best (`Best.best-le`)
--   there      where some legal cutting has a cost, the best has one (`Best.best-present`)
--   attained   the cutting that is read back is legal, and costs just the best (`Best.ends-cut`, `Best.ends-cost`)
--   earliest   of the starts of the last run that cost no more, the earliest is kept (`Best.pred-least`)
-- and of the drop rule:
--   settles, held-all            (`DropLaws`) only last calls of shortest uncuttable beginnings go, until every beginning has a cutting
--   have→cuttable, cuttable→have (`HeldLaws`) the table says rightly which beginnings have a legal cutting
--   kept-cuttable                (`HeldLaws`, `PricedBest`) every beginning of what is kept has one
-- and of what is carried:
--   carried-ends, far-ends       (`CarriedLaws`) what stands with the best is the fold of its steps over the ends that are read back
pub mod Best
pub mod RunsBest
pub mod PlainBest
pub mod LexLaws
pub mod FirstLaws
pub mod DropLaws
pub mod HeldLaws
pub mod TabLaws
pub mod FillLaws
pub mod BackLaws
pub mod Moved
pub mod FloatLaws
pub mod RowLaws
pub mod CarriedLaws
pub mod PricedBest
pub mod Cases
