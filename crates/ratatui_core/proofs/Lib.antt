pub mod BackendLemmas
pub mod BufferLemmas
pub mod TerminalLemmas
pub mod WidgetLemmas
pub mod StyleLemmas
