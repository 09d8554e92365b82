pub mod RoomLaws
pub mod PrintedLaws
