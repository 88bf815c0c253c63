pub mod DrawingLemmas
pub mod RaisingLemmas
pub mod LeavingLemmas
