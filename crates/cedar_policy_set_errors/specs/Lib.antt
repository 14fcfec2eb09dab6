pub mod SetFaults
