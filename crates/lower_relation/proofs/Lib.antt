pub mod Reach
pub mod Sounds
pub mod ValueSounds
pub mod OperatorSounds
pub mod Taken
pub mod PrintSounds
pub mod CallSounds
pub mod ExpressionSounds
pub mod InitialiserSounds
pub mod Flows
pub mod Rounds
pub mod StatementSounds
pub mod Leaving
pub mod FunctionSounds
pub mod WholeRuns
mod Examples
pub mod ByValue
