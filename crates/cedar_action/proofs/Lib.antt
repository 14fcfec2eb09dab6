pub mod Bunch
pub mod Passing
pub mod UidLists
