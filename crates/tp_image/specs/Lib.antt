-- What a reader must believe: clauses of public calls cite it.
pub mod Codes
pub mod Faults
pub mod Image
pub mod Layout
pub mod Limits
pub mod Text
pub mod Upgrade
pub mod View
