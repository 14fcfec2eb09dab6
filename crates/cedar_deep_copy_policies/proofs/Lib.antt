pub mod SameSets
