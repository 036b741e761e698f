pub mod Items
pub mod Lists
