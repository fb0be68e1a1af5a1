mod Numbers
mod Cutting
mod Saying
mod Results
mod Begun
mod Behind
mod Showing
pub mod Forms
mod Ready
