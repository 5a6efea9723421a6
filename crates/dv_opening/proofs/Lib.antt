pub mod OpeningLaws
mod SeatLaws
