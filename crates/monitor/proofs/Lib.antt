pub mod Turning
pub mod Lawful
