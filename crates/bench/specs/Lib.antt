pub mod Scripts
pub mod Commands
pub mod Standing
pub mod Kept
