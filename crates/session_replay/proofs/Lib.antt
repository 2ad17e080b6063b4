pub mod ReplayLemmas
pub mod Printed
