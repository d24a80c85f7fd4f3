pub mod Cut
pub mod Rest
pub mod Lines
pub mod Post
pub mod Walks
pub mod Written
pub mod Requests
pub mod Inputs
