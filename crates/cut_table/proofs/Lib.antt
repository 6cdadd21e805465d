-- Lists written at the front of lent ones, and the calls held with their positions.
pub mod Writing
pub mod Fronts
pub mod Holding
