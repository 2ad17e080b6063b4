pub mod Bank
pub mod BankFile
pub mod Held
pub mod MadeBank
