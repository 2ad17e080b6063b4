pub mod Items
pub mod ItemParts
pub mod ItemParser
pub mod ItemViews
