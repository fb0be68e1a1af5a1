mod Along
mod Counting
mod Adding
mod Times
