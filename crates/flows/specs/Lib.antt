pub mod Spread
pub mod Rules
pub mod Within
