pub mod Places
pub mod Growth
pub mod Steps
pub mod Missing
pub mod Ways
