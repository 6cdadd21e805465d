-- What a cutting gives.
pub mod Answer
-- The cut by capacity, windows, limits and break.
pub mod SplitTw
