pub mod Position
pub mod Table
