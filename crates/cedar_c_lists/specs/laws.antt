pub mod Zipping
