pub mod MadeRun
pub mod Runs
pub mod Sums
pub mod Left
pub mod Faults
pub mod Once
