-- What any list of calls leaves on a screen: the calls, the events of a list, and the two laws.
pub use Rattle.rtui_terminal.specs.Headline.{Call, Draw, Apply, Insert, Clear, Resize, Autoresize, HideCursor}
pub use Rattle.rtui_terminal.specs.Headline.{ShowCursor, SetCursor, Ask, Paint, Refuse, Event, Along}
pub use Rattle.rtui_terminal.specs.Headline.{last_state, inserted_by, inserted_along, MayTakeSize, AtAnySize}
pub use Rattle.rtui_terminal.specs.Headline.{Does, IsFair, HasKnownSize, IsSteady, IsKeptOrEmptied, Leaves}
pub use Rattle.rtui_terminal.specs.Headline.{IsResize, IsFaithful, IsHeadline, KeepsRows}
