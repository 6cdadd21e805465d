-- What a row with a break by the clock keeps.
pub mod RestAlong
