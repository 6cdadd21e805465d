-- What the functions on the table and on the calls held do.
pub mod Table
