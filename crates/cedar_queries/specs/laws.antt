pub mod PlainQueries
pub mod Searches
