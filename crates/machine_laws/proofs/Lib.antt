mod Stepping
mod Ends
mod Observing
mod Taken
