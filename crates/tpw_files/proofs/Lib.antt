mod Positions
mod Reading
