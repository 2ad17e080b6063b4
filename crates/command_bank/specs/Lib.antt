pub mod MadeBank
