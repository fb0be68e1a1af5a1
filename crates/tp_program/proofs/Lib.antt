mod Reading
mod AskedLemmas
mod Fitting
mod Unserved
mod Performing
