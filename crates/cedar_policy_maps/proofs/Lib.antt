mod Entered
mod Entries
mod Told
