pub mod Pieces
pub mod Frames
pub mod Items
pub mod Turns
pub mod CondCodes
pub mod BodyCodes
pub mod Acting
pub mod HandMade
