pub mod ScriptLemmas
pub mod FrameLemmas
pub mod PlayLemmas
pub mod RunLemmas
pub mod AppendLemmas
pub mod SceneLemmas
pub mod ActLemmas
pub mod FrontLemmas
