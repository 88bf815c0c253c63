-- The content of a scroll view, lent and painted on.
use Rattle.std.specs.Prelude.{◌≡◌}
use Rattle.std.specs.Borrow.{Lends, MutBor, Fml}
use Rattle.ratatui_core.specs.Buffer.{BufferData}
use Rattle.ratatui_core.specs.contracts.buffer.Buffer as buffer
use Rattle.widget_scroll_view.specs.{declared.scroll_view.ScrollView.ScrollView, contracts.scroll_view.ScrollView.the_row}

-- the view's content ends with the last value of the lent one, and the rest stays
abbrev pub LendsContent : MutBor ScrollView → MutBor BufferData → Fml
LendsContent view lent = Lends the_row buffer.the_row view lent (λ content. record view.now { content = content })

-- only the content may be another one
pub record KeepsVisibilities (old new : ScrollView) : Type 0 where
  pub vertical : new.vertical_scrollbar_visibility ≡ old.vertical_scrollbar_visibility
  pub horizontal : new.horizontal_scrollbar_visibility ≡ old.horizontal_scrollbar_visibility
