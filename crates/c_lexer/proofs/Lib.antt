pub mod At
pub mod OneCutting
pub mod PieceLaws
pub mod Room
