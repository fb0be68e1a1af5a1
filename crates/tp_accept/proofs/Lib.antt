pub mod CostTable
pub mod CappedCosts
pub mod TableFilled
pub mod CostEdges
pub mod LoopSums
pub mod LookedUp
pub mod LoopSteps
pub mod MeasureDrops
pub mod CostEquations
pub mod WalkBound
pub mod Computing
pub mod AnswerLemmas
pub mod RunEnds
pub mod NeverWrong
mod Exact
pub mod Upgrading
