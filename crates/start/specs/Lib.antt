pub mod Setup
pub mod Grounds
pub mod Starts
pub mod Laws
