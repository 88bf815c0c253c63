pub mod Kept
pub mod Paths
pub mod Inner
pub mod Trees
pub mod Changes
pub mod Failing
pub mod Failures
pub mod Performing
