-- The cut: a tour of calls is cut into consecutive runs at least cost.
--
-- Over any costs: `Cut` has the cuttings and the table, `Runs` the same for runs that are legal or not, `Plain` for costs with no
-- infinity of their own, `Lex` for pairs of costs. `First`, `Drop` and `Held` have the drop rule. `Tab` and `Fill` are for code that
-- works on arrays.
-- At `f64`: `Rows` has the table as code fills it, `Carried` what is carried along it, as the distance beside the cost, `Priced` runs
-- whose price is a sum of terms.
pub mod Cut
pub mod Runs
pub mod Plain
pub mod Lex
pub mod First
pub mod Drop
pub mod Held
pub mod Tab
pub mod Fill
pub mod Floats
pub mod Rows
pub mod Carried
pub mod Priced
