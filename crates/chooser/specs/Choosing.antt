-- Planets, of which one is chosen: what is told, and what is shown.
use Rattle.std.specs.Prelude.{◌≡◌, ℕ, ◌==◌, if◌then◌else◌, true, false, List, [], ◌∷◌, map, codes, Option, Some, None}
use Rattle.std.specs.Str.{byte}
use Rattle.std.specs.declared.alloc.Global.{Global}
use Rattle.ratatui_core.specs.{Layout.Rect, Layout.Size, Text.raw_line, Buffer.BufferData}
use Rattle.ratatui_events.specs.declared.event.Event.{Event}
use Rattle.ratatui_events.specs.declared.event.Event.TheVariants.{Key}
use Rattle.ratatui_events.specs.declared.key.KeyCode.{KeyCode}
use Rattle.ratatui_events.specs.declared.key.KeyCode.TheVariants.{Char}
use Rattle.ratatui_reads.specs.Reads.{size_in}
use Rattle.ratatui_acts.specs.declared.message.Message.{Message}
use Rattle.ratatui_acts.specs.declared.message.Message.TheVariants as message
use Rattle.widget_list.specs.{declared.list.List.List as ListData, declared.item.ListItem.ListItem}
use Rattle.widget_list.specs.{declared.state.ListState.ListState}
use Rattle.widget_list.specs.{States.selecting, States.next_of, States.previous_of, Items.raw_item, Items.RendersList}
use Rattle.widget_list.specs.Settled.{settled_inside, next_list_state}
use Rattle.chooser.specs.declared.chooser.Chooser.{Chooser}

-- the planets, from the sun on, and an item for each
abbrev pub planet_names : List (List ℕ)
planet_names = codes "Mercury" ∷ codes "Venus" ∷ codes "Earth" ∷ codes "Mars" ∷ codes "Jupiter" ∷ codes "Saturn"
    ∷ codes "Uranus" ∷ codes "Neptune" ∷ []

unfoldable pub planet_items : List ListItem
planet_items = map raw_item planet_names

-- a list of them without box, with a mark at the one that is chosen
pub record IsPlanetList (l : ListData) : Type 0 where
  pub items_are : l.items.items ≡ planet_items
  pub no_box : l.block ≡ None
  pub unpadded : l.scroll_padding ≡ 0
  pub mark : l.highlight_symbol ≡ Some (raw_line (codes "> "))

-- at the beginning the first one is chosen
abbrev pub new_chooser : Global → Size → Chooser
new_chooser alloc size = record {
  alloc = alloc;
  list = record { offset = 0; selected = Some 0 };
  area = record { x = 0; y = 0; width = size.width; height = size.height };
  is_over = false;
}

-- a new size
abbrev pub chooser_at_size : Option (ℕ × ℕ) → Chooser → Chooser
chooser_at_size None c = c
chooser_at_size (Some (columns, rows)) c = record c { area = record c.area { width = columns; height = rows } }

-- j and k choose the next one and the one before, and q ends
abbrev pub chooser_by_character : ℕ → Chooser → Chooser
chooser_by_character code c =
    if code == byte "j" then record c { list = selecting (Some (next_of c.list.selected)) c.list }
    else (if code == byte "k" then record c { list = selecting (Some (previous_of c.list.selected)) c.list }
    else (if code == byte "q" then record c { is_over = true } else c))

abbrev pub chooser_by_code : KeyCode → Chooser → Chooser
chooser_by_code (Char code) c = chooser_by_character code c
chooser_by_code _ c = c

abbrev pub chooser_by_event : Event → Chooser → Chooser
chooser_by_event (Key key) c = chooser_by_code key.code c
chooser_by_event _ c = c

-- the list is settled in its area
abbrev pub settled_chooser : Chooser → Chooser
settled_chooser c =
    record c { list = settled_inside None (λ r. next_list_state planet_items 0 r.height) c.area c.list }

-- each event is taken, and then the list is settled
abbrev pub chooser_after : {R : Type 0} → Chooser → Message R → Chooser
chooser_after c (message.Event event) = settled_chooser (chooser_by_event event (chooser_at_size (size_in event) c))
chooser_after c (message.Tick passed) = c
chooser_after c (message.Answer answer) = c

-- the list is shown, from the chooser's state on
pub record PaintsPlanets (c : Chooser) (area : Rect) (old new : BufferData) : Type 0 where
  pub list : ListData
  pub is_list : IsPlanetList list
  pub after : ListState
  pub renders : RendersList list c.list after area old new

-- the list is shown in the chooser's state, which stays
pub record ShowsPlanets (c : Chooser) (area : Rect) (old new : BufferData) : Type 0 where
  pub list : ListData
  pub is_list : IsPlanetList list
  pub renders : RendersList list c.list c.list area old new
