pub mod LayoutLemmas
pub mod AssemblyLemmas
pub mod CodeLines
pub mod RoundTrip
pub mod Labelled
pub mod Disassembled
