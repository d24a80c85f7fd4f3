mod Standing
mod Keeping
