mod Joining
mod Single
