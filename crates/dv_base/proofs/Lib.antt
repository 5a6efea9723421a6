pub mod FaultLaws
pub mod KnownBytesLaws
