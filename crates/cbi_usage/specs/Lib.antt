pub mod UsageText
