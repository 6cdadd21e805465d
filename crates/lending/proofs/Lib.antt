-- Lists written at the front of lent ones and filled up.
pub mod Lists
