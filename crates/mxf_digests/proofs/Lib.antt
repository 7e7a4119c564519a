pub mod FewerSteps
pub mod LaneLemmas
pub mod NestedRotations
pub mod PaddingLemmas
pub mod QueueLemmas
