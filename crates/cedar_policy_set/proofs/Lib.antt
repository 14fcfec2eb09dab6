mod Told
mod Written
