-- From the table to the cut, and from the cut to the answer.
pub mod Cutting
pub mod Answering
-- From the calls that stay to their cut.
pub mod Stayed
