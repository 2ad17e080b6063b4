pub mod Every
pub mod Lists
pub mod Maps
pub mod Numbers
pub mod Options
pub mod Tests
