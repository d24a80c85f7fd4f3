pub mod Joining
pub mod Effects
