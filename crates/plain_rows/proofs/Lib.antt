pub mod RowsLaws
pub mod StoreLaws
pub mod FedLaws
pub mod RoomLaws
pub mod Decided
