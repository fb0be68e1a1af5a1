mod Passing
mod Taking
mod Costing
