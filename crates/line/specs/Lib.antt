pub mod Grammar
pub mod LineState
pub mod LineParts
