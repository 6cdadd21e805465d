-- Labels put one behind the other, and carried on.
pub mod LabelLaws
