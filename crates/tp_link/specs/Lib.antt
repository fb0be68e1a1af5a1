-- What a reader must believe: clauses of public calls cite it.
pub mod Calls
pub mod Device
pub mod FaultyWire
pub mod Links
pub mod Medium
pub mod OwnedWire
pub mod Wire
pub mod Wired
