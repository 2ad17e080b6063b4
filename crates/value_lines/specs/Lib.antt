pub mod ValueLines
