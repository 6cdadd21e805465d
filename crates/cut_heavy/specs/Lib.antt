-- The positions dropped, where the calls too heavy alone leave first.
pub mod Heavy
