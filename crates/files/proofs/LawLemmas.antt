-- What laws of browsers stand on.
use Rattle.std.proofs.Common.{◌≡◌, ◌==◌, ◌&&◌, ◌⊎◌, inl, inr, ℕ, ◌+◌, ◌-◌, ◌<◌, ◌≤◌, min, nat_lt, Bool, true, false, not}
use Rattle.std.proofs.Common.{◌||◌, arith, rules, refl, sym, ap, ◌∙◌, List, [], length, Option, Some, None, if◌then◌else◌}
use Rattle.std.specs.Prelude.{is_some}
use Rattle.std.specs.{Str.bytes_eq, List.All}
use Rattle.std.proofs.lemmas.List.Elements.{All-nil, All-filter}
use Rattle.std.specs.Option.{option_map_or}
use Rattle.std.specs.declared.alloc.Global.{Global}
use Rattle.std.proofs.lemmas.Bool.Decides.{nat_tests}
use Rattle.ratatui_core.specs.Layout.{Size}
use Rattle.ratatui_events.specs.declared.event.Event.{Event}
use Rattle.ratatui_reads.specs.Reads.{size_in}
use Rattle.ratatui_acts.specs.declared.message.Message.{Message}
use Rattle.ratatui_acts.specs.declared.message.Message.TheVariants as message
use Rattle.text_field.specs.Field.{FieldData, field_text}
use Rattle.ratatui_files.specs.declared.answer.Failure.{Failure}
use Rattle.files.specs.declared.browser.Browser.{Browser}
use Rattle.files.specs.declared.browser.Mode.{Mode}
use Rattle.files.specs.declared.browser.Mode.TheVariants.{Looking, Listing, Entering, Leaving, Trashing, Removing}
use Rattle.files.specs.declared.browser.Mode.TheVariants.{Renaming, Making, Over, Pasting, Sorting, Seeking}
use Rattle.files.specs.declared.browser.Mode.TheVariants.{Going, Visiting, Locating, Completing}
use Rattle.files.specs.declared.browser.Mode.TheVariants.{CountingToTrash, CountingToRemove}
use Rattle.files.specs.declared.browser.Mode.TheVariants.{Returning, Undoing, Helping, Chosen}
use Rattle.files.specs.declared.browser.Note.TheVariants.{Narrow}
use Rattle.files.specs.declared.keys.Wish.{Wish}
use Rattle.files.specs.declared.keys.Wish.TheVariants as wish
use Rattle.files.specs.declared.typing.Typing.{Typing}
use Rattle.files.specs.declared.typing.Typing.TheVariants.{Change, Accept, Cancel, Ignore}
use Rattle.files.specs.declared.list.Outcome.{Outcome}
use Rattle.files.specs.declared.list.Outcome.TheVariants as outcome
use Rattle.files.specs.Keys.{event_wish, event_typing, event_order, is_tab_key, is_input, says_yes}
use Rattle.files.specs.Texts.{fits, selected_text}
use Rattle.files.specs.Moves.{scrolled_list, selected_at, last_row_place, list_rows, granted, wished, typing_in}
use Rattle.files.specs.Moves.{asks, asks_in, confirmed, typed_into, browsed, browser_at_told_size, outcome_told, browsed_after, new_browser}
use Rattle.files.specs.Moves.{is_folder_selected, removal_answered, next_found, previous_found, found_selected, found_note}
use Rattle.files.specs.Moves.{typing_name, seeking_typed, sought_into, order_taken, is_entry_row, entered, clicked, help_left}
use Rattle.ratatui_files.specs.declared.answer.Failure.TheVariants.{NotEmpty}
use Rattle.files.specs.Counting.{asked_mode}
use Rattle.files.specs.Moves.{first_mark_selected, counted_in}
use Rattle.files.specs.Moves.{going_to, path_into, gone_by, is_completing, path_completed, leads_to_leaf, failed}
use Rattle.files.specs.Ways.{way_of}
use Rattle.files.specs.Help.{help_rows}
use Rattle.files.specs.Glances.{aged, is_looking, is_wide, side_lacking}
use Rattle.files.specs.Texts.{place_in_row}
use Rattle.files.specs.declared.notes.Noted.{Noted}
use Rattle.files.specs.declared.marks.Mark.{Mark}
use Rattle.files.specs.Marks.{is_mark_named, marks_but, marks_turned, marks_left, first_mark_place, IsMarkListed, AreMarksListed}
use Rattle.files.specs.Moves.{marking, noting, all_taken, removals_go_on, gone_on, folder_shown}
use Rattle.files.proofs.MarkLemmas.{marks-kept, turned-listed}
use Rattle.files.specs.declared.order.Order.{Order}
use Rattle.files.specs.Laws.{IsPlaced, ListsSame}

-- ---- the selection

pub scrolled_list-placed : (b : Browser) → b.selected ≤ last_row_place b → IsPlaced (scrolled_list b)
scrolled_list-placed b within = record { within = within; above = omega arith; below = λ some. omega arith }

pub selected-placed : (place : ℕ) (b : Browser) → IsPlaced (selected_at place b)
selected-placed place b = scrolled_list-placed (record b { selected = min place (last_row_place b) }) (omega arith)

pub scrolled_list-little : (b : Browser) → b.top ≤ b.selected → b.selected < b.top + list_rows b → b.top + list_rows b ≤ length b.list
    → scrolled_list b ≡ b
scrolled_list-little b above below full =
    let same : (scrolled_list b).top ≡ b.top = omega arith in ap (λ t. record b { top = t }) same

-- ---- events

-- a yes that counts
pub record Counts (b c : Browser) : Type 0 where
  pub may : asks_in b.mode true ≡ true
  pub quiet : b.is_quiet ≡ true
  pub whole : fits b.size.width b ≡ true
  pub is : c ≡ record b { is_sure = true }

-- what is typed keeps of a browser
pub record Keeps (b c : Browser) : Type 0 where
  pub folder : c.folder ≡ b.folder
  pub list : c.list ≡ b.list
  pub unnamed : c.unnamed ≡ b.unnamed
  pub placed : IsPlaced b → IsPlaced c
  pub marks : AreMarksListed b → AreMarksListed c
  pub glances : c.glances ≡ b.glances
  pub sure : (c.is_sure ≡ b.is_sure) ⊎ Counts b c

placed-same : (b c : Browser) → c.list ≡ b.list → c.size ≡ b.size → c.selected ≡ b.selected → c.top ≡ b.top → IsPlaced b
    → IsPlaced c
placed-same b c list size selected top p =
    let count = ap length list in let height = ap (λ (s : Size). s.height) size in
    let within = p.within in let above = p.above in let below = p.below in
    record { within = omega arith; above = omega arith; below = λ some. omega (arith, below (omega arith)) }

keeps-same : (b c : Browser) → c.folder ≡ b.folder → c.list ≡ b.list → c.unnamed ≡ b.unnamed → c.size ≡ b.size
    → c.selected ≡ b.selected → c.top ≡ b.top → c.is_sure ≡ b.is_sure → c.marks ≡ b.marks → c.glances ≡ b.glances → Keeps b c
keeps-same b c folder list unnamed size selected top sure marks glances = record {
  folder = folder;
  list = list;
  unnamed = unnamed;
  placed = placed-same b c list size selected top;
  marks = marks-kept b c list marks;
  glances = glances;
  sure = inl sure;
}

keeps-selected : (place : ℕ) (b : Browser) → Keeps b (selected_at place b)
keeps-selected place b = record {
  folder = refl;
  list = refl;
  unnamed = refl;
  placed = λ p. selected-placed place b;
  marks = λ all. all;
  glances = refl;
  sure = inl refl;
}

keeps-if : (test : Bool) (b c d : Browser) → Keeps b c → Keeps b d → Keeps b (if test then c else d)
keeps-if true b c d one two = one
keeps-if false b c d one two = two

keeps-it : (b : Browser) → Keeps b b
keeps-it b = keeps-same b b refl refl refl refl refl refl refl refl refl

keeps-typing : (mode : Mode) (f : FieldData) (b : Browser) → Keeps b (typing_in mode f b)
keeps-typing mode f b = keeps-same b _ refl refl refl refl refl refl refl refl refl

keeps-mode : (mode : Mode) (b : Browser) → Keeps b (record b { mode = mode })
keeps-mode mode b = keeps-same b _ refl refl refl refl refl refl refl refl refl

keeps-found : (found : Option ℕ) (b : Browser) → Keeps b (found_selected found b)
keeps-found None b = keeps-it b
keeps-found (Some place) b = keeps-selected place b

keeps-pasting : (noted : Option Noted) (n : ℕ) (b : Browser)
    → Keeps b (option_map_or (λ it. typing_in Pasting (typing_name it.name) (record b { left = n })) noted (record b { left = n }))
keeps-pasting None n b = keeps-same b _ refl refl refl refl refl refl refl refl refl
keeps-pasting (Some noted) n b = keeps-same b _ refl refl refl refl refl refl refl refl refl

-- the entry that was marked first is asked about
keeps-first : (mode : Mode) (found : Option ℕ) (b : Browser) → Keeps b (record (found_selected found b) { mode = mode })
keeps-first mode None b = keeps-mode mode b
keeps-first mode (Some place) b = record {
  folder = refl;
  list = refl;
  unnamed = refl;
  placed = λ p. placed-same (selected_at place b) _ refl refl refl refl (selected-placed place b);
  marks = λ all. all;
  glances = refl;
  sure = inl refl;
}

keeps-marking : (b : Browser) → Keeps b (marking b)
keeps-marking b = record {
  folder = refl;
  list = refl;
  unnamed = refl;
  placed = λ p. selected-placed (b.selected + 1) (record b { marks = marks_turned b });
  marks = turned-listed b;
  glances = refl;
  sure = inl refl;
}

-- none is marked any longer, or those are that were
all-or-none : (P : Mark → Type 0) (test : Bool) (marks : List Mark) → All P marks → All P (if test then marks else [])
all-or-none P true marks all = all
all-or-none P false marks all = All-nil P

keeps-noting : (all : List Noted) (b : Browser) → Keeps b (noting all b)
keeps-noting all b = record {
  folder = refl;
  list = refl;
  unnamed = refl;
  placed = λ p. placed-same b _ refl refl refl refl p;
  marks = all-or-none (IsMarkListed b.list) (length all == 0) b.marks;
  glances = refl;
  sure = inl refl;
}

keeps-unmarking : (b : Browser) → Keeps b (record b { marks = [] })
keeps-unmarking b = record {
  folder = refl;
  list = refl;
  unnamed = refl;
  placed = λ p. placed-same b _ refl refl refl refl p;
  marks = λ all. All-nil (IsMarkListed b.list);
  glances = refl;
  sure = inl refl;
}

keeps-entered : (b : Browser) → Keeps b (entered b)
keeps-entered b = keeps-if (is_folder_selected b) b _ b (keeps-mode Entering b) (keeps-it b)

keeps-clicked : (row : ℕ) (b : Browser) → Keeps b (clicked row b)
keeps-clicked row b = keeps-if (not (is_entry_row row b)) b _ _ (keeps-it b)
    (keeps-if (place_in_row row b == b.selected) b _ _ (keeps-entered b) (keeps-selected _ b))

granted-keeps : (w : Wish) (b : Browser) → Keeps b (granted w b)
granted-keeps wish.Nothing b = keeps-it b
granted-keeps wish.Down b = keeps-selected _ b
granted-keeps wish.Up b = keeps-selected _ b
granted-keeps wish.PageDown b = keeps-selected _ b
granted-keeps wish.PageUp b = keeps-selected _ b
granted-keeps wish.HalfDown b = keeps-selected _ b
granted-keeps wish.HalfUp b = keeps-selected _ b
granted-keeps wish.ToFirst b = keeps-selected _ b
granted-keeps wish.ToLast b = keeps-selected _ b
granted-keeps wish.WheelDown b = keeps-selected _ b
granted-keeps wish.WheelUp b = keeps-selected _ b
granted-keeps (wish.Click row) b = keeps-clicked row b
granted-keeps wish.Enter b = keeps-entered b
granted-keeps wish.Base b = keeps-if (bytes_eq b.folder b.base) b b _ (keeps-it b) (keeps-mode Returning b)
granted-keeps wish.Undo b = keeps-if (is_some b.last_move) b _ b (keeps-mode Undoing b) (keeps-it b)
granted-keeps wish.Help b = keeps-same b _ refl refl refl refl refl refl refl refl refl
granted-keeps wish.Choose b = keeps-mode Chosen b
granted-keeps wish.Leave b = keeps-if (bytes_eq b.folder b.base) b b _ (keeps-it b) (keeps-mode Leaving b)
granted-keeps wish.Hidden b = keeps-same b _ refl refl refl refl refl refl refl refl refl
granted-keeps wish.Rename b = keeps-if (length b.list == 0) b b _ (keeps-it b) (keeps-typing Renaming _ b)
granted-keeps wish.Make b = keeps-typing Making _ b
granted-keeps wish.Trash b =
    keeps-if (is_some b.trash && nat_lt 0 (length b.list)) b _ b
    (keeps-first (asked_mode Trashing (first_mark_selected b)) (first_mark_place b) b) (keeps-it b)
granted-keeps wish.Sort b = keeps-mode Sorting b
granted-keeps wish.Seek b = keeps-typing Seeking _ b
granted-keeps wish.Go b = keeps-typing Going _ b
granted-keeps wish.SeekOn b = keeps-found (next_found b) b
granted-keeps wish.SeekBack b = keeps-found (previous_found b) b
granted-keeps wish.Mark b = keeps-marking b
granted-keeps wish.Unmark b = keeps-unmarking b
granted-keeps wish.NoteCopy b = keeps-noting (all_taken false b) b
granted-keeps wish.NoteMove b = keeps-noting (all_taken true b) b
granted-keeps wish.Paste b = keeps-pasting b.noted (length b.more) b
granted-keeps wish.Remove b =
    keeps-if (nat_lt 0 (length b.list)) b _ b
    (keeps-first (asked_mode Removing (first_mark_selected b)) (first_mark_place b) b) (keeps-it b)
granted-keeps wish.Quit b = keeps-mode Over b

sure-if : (test : Bool) (b c d : Browser) → c.is_sure ≡ b.is_sure → d.is_sure ≡ b.is_sure → (if test then c else d).is_sure ≡ b.is_sure
sure-if true b c d one two = one
sure-if false b c d one two = two

sure-found : (found : Option ℕ) (b : Browser) → (found_selected found b).is_sure ≡ b.is_sure
sure-found None b = refl
sure-found (Some place) b = refl

sure-pasting : (noted : Option Noted) (n : ℕ) (b : Browser)
    → (option_map_or (λ it. typing_in Pasting (typing_name it.name) (record b { left = n })) noted (record b { left = n })).is_sure
    ≡ b.is_sure
sure-pasting None n b = refl
sure-pasting (Some noted) n b = refl

sure-first : (mode : Mode) (found : Option ℕ) (b : Browser) → (record (found_selected found b) { mode = mode }).is_sure ≡ b.is_sure
sure-first mode None b = refl
sure-first mode (Some place) b = refl

sure-entered : (b : Browser) → (entered b).is_sure ≡ b.is_sure
sure-entered b = sure-if (is_folder_selected b) b _ b refl refl

sure-clicked : (row : ℕ) (b : Browser) → (clicked row b).is_sure ≡ b.is_sure
sure-clicked row b = sure-if (not (is_entry_row row b)) b _ _ refl
    (sure-if (place_in_row row b == b.selected) b _ _ (sure-entered b) refl)

-- no wish makes a question sure
granted-sure : (w : Wish) (b : Browser) → (granted w b).is_sure ≡ b.is_sure
granted-sure wish.Nothing b = refl
granted-sure wish.Down b = refl
granted-sure wish.Up b = refl
granted-sure wish.PageDown b = refl
granted-sure wish.PageUp b = refl
granted-sure wish.HalfDown b = refl
granted-sure wish.HalfUp b = refl
granted-sure wish.ToFirst b = refl
granted-sure wish.ToLast b = refl
granted-sure wish.WheelDown b = refl
granted-sure wish.WheelUp b = refl
granted-sure (wish.Click row) b = sure-clicked row b
granted-sure wish.Enter b = sure-entered b
granted-sure wish.Base b = sure-if (bytes_eq b.folder b.base) b _ _ refl refl
granted-sure wish.Undo b = sure-if (is_some b.last_move) b _ _ refl refl
granted-sure wish.Help b = refl
granted-sure wish.Choose b = refl
granted-sure wish.Leave b = search rules
granted-sure wish.Hidden b = refl
granted-sure wish.Rename b = search rules
granted-sure wish.Make b = refl
granted-sure wish.Trash b = sure-if (is_some b.trash && nat_lt 0 (length b.list)) b _ b
    (sure-first (asked_mode Trashing (first_mark_selected b)) (first_mark_place b) b) refl
granted-sure wish.Sort b = refl
granted-sure wish.Seek b = refl
granted-sure wish.Go b = refl
granted-sure wish.SeekOn b = sure-found (next_found b) b
granted-sure wish.SeekBack b = sure-found (previous_found b) b
granted-sure wish.Mark b = refl
granted-sure wish.Unmark b = refl
granted-sure wish.NoteCopy b = refl
granted-sure wish.NoteMove b = refl
granted-sure wish.Paste b = sure-pasting b.noted (length b.more) b
granted-sure wish.Remove b = sure-if (nat_lt 0 (length b.list)) b _ b
    (sure-first (asked_mode Removing (first_mark_selected b)) (first_mark_place b) b) refl
granted-sure wish.Quit b = refl

wished-keeps : (w : Wish) (b : Browser) → Keeps b (wished w b)
wished-keeps w b = let k = granted-keeps w b in record {
  folder = k.folder;
  list = k.list;
  unnamed = k.unnamed;
  placed = λ p. placed-same (granted w b) _ refl refl refl refl (k.placed p);
  marks = k.marks;
  glances = k.glances;
  sure = inl (granted-sure w b);
}

confirmed-by : (quiet whole : Bool) (b : Browser) → asks_in b.mode true ≡ true → b.is_quiet ≡ quiet
    → fits b.size.width b ≡ whole → Keeps b
    (if not quiet then b else if whole then record b { is_sure = true } else record b { mode = Looking; note = Narrow })
confirmed-by false whole b may q w = keeps-it b
confirmed-by true true b may q w = record {
  folder = refl;
  list = refl;
  unnamed = refl;
  placed = λ p. placed-same b _ refl refl refl refl p;
  marks = λ all. all;
  glances = refl;
  sure = inr (record { may = may; quiet = q; whole = w; is = refl });
}
confirmed-by true false b may q w = keeps-same b _ refl refl refl refl refl refl refl refl refl

confirmed-keeps : (b : Browser) → asks_in b.mode true ≡ true → Keeps b (confirmed b)
confirmed-keeps b may = confirmed-by b.is_quiet (fits b.size.width b) b may refl refl

typed-keeps : (t : Typing) (b : Browser) → asks_in b.mode true ≡ true → Keeps b (typed_into t b)
typed-keeps (Change edit) b may = keeps-typing b.mode _ b
typed-keeps Accept b may = confirmed-keeps b may
typed-keeps Cancel b may = keeps-mode Looking b
typed-keeps Ignore b may = keeps-it b

-- a text is sought
keeps-sought : (found : Option ℕ) (b c : Browser) → c.list ≡ b.list → c.folder ≡ b.folder → c.unnamed ≡ b.unnamed → c.size ≡ b.size
    → c.selected ≡ b.selected → c.top ≡ b.top → c.is_sure ≡ b.is_sure → c.marks ≡ b.marks
    → c.glances ≡ b.glances → Keeps b (record (found_selected found c) { note = found_note found })
keeps-sought None b c list folder unnamed size selected top sure marks glances =
    keeps-same b _ folder list unnamed size selected top sure marks glances
keeps-sought (Some place) b c list folder unnamed size selected top sure marks glances = record {
  folder = folder;
  list = list;
  unnamed = unnamed;
  placed = λ p. placed-same (selected_at place c) _ refl refl refl refl (selected-placed place c);
  marks = marks-kept b c list marks;
  glances = glances;
  sure = inl sure;
}

sought-keeps : (t : Typing) (b : Browser) → Keeps b (sought_into t b)
sought-keeps (Change edit) b = keeps-typing b.mode _ b
sought-keeps Accept b =
    keeps-sought (next_found (seeking_typed b)) b (seeking_typed b) refl refl refl refl refl refl refl refl refl
sought-keeps Cancel b = keeps-mode Looking b
sought-keeps Ignore b = keeps-it b

keeps-going : (path : Option (List ℕ)) (b : Browser) → Keeps b (going_to path b)
keeps-going None b = keeps-same b _ refl refl refl refl refl refl refl refl refl
keeps-going (Some path) b = keeps-mode Visiting b

path-keeps : (t : Typing) (b : Browser) → Keeps b (path_into t b)
path-keeps (Change edit) b = keeps-typing b.mode _ b
path-keeps Accept b = keeps-going (way_of b (field_text b.typed)) b
path-keeps Cancel b = keeps-mode Looking b
path-keeps Ignore b = keeps-it b

gone-keeps : (e : Event) (b : Browser) → Keeps b (gone_by e b)
gone-keeps e b = keeps-if (is_tab_key e) b _ _ (keeps-mode Completing b) (path-keeps (event_typing e) b)

pub completed-keeps : (rest : List ℕ) (b : Browser) → Keeps b (path_completed rest b)
completed-keeps rest b = keeps-if (is_completing b.mode) b _ b (keeps-typing Going _ b) (keeps-it b)

pub failed-keeps : (why : Failure) (b : Browser) → Keeps b (failed why b)
failed-keeps why b = keeps-if (is_completing b.mode) b _ _ (keeps-mode Going b)
    (keeps-if (leads_to_leaf b.mode why) b _ _ (keeps-mode Locating b)
    (keeps-same b _ refl refl refl refl refl refl refl refl refl))

pub counted-keeps : (mode : Mode) (n : ℕ) (b : Browser) → Keeps b (counted_in mode n b)
counted-keeps CountingToTrash n b = keeps-same b _ refl refl refl refl refl refl refl refl refl
counted-keeps CountingToRemove n b = keeps-if (n == 0) b _ _ (keeps-same b _ refl refl refl refl refl refl refl refl refl)
    (failed-keeps NotEmpty b)
counted-keeps Looking n b = keeps-it b
counted-keeps Listing n b = keeps-it b
counted-keeps Entering n b = keeps-it b
counted-keeps Leaving n b = keeps-it b
counted-keeps Returning n b = keeps-it b
counted-keeps Trashing n b = keeps-it b
counted-keeps Removing n b = keeps-it b
counted-keeps Renaming n b = keeps-it b
counted-keeps Making n b = keeps-it b
counted-keeps Pasting n b = keeps-it b
counted-keeps Sorting n b = keeps-it b
counted-keeps Seeking n b = keeps-it b
counted-keeps Going n b = keeps-it b
counted-keeps Visiting n b = keeps-it b
counted-keeps Locating n b = keeps-it b
counted-keeps Completing n b = keeps-it b
counted-keeps Undoing n b = keeps-it b
counted-keeps Helping n b = keeps-it b
counted-keeps Over n b = keeps-it b
counted-keeps Chosen n b = keeps-it b

order-keeps : (o : Option Order) (b : Browser) → Keeps b (order_taken o b)
order-keeps None b = keeps-mode Looking b
order-keeps (Some order) b = keeps-same b _ refl refl refl refl refl refl refl refl refl

may-be : (mode : Mode) (b : Browser) → b.mode ≡ mode → asks_in mode true ≡ true → asks_in b.mode true ≡ true
may-be mode b at may = ap (λ m. asks_in m true) at ∙ may

answered-keeps : (e : Event) (b : Browser) → asks_in b.mode true ≡ true → Keeps b (removal_answered e b)
answered-keeps e b may = keeps-if (says_yes e) b _ _ (confirmed-keeps b may) (keeps-mode Looking b)

help-keeps : (b : Browser) → Keeps b (help_left b)
help-keeps b = keeps-if (nat_lt 0 (list_rows b) && nat_lt (list_rows b) (help_rows - b.helped)) b _ _
    (keeps-same b _ refl refl refl refl refl refl refl refl refl) (keeps-mode Looking b)

pub browsed-keeps : (mode : Mode) (e : Event) (b : Browser) → b.mode ≡ mode → Keeps b (browsed mode e b)
browsed-keeps Looking e b at = wished-keeps (event_wish e) b
browsed-keeps Trashing e b at = answered-keeps e b (may-be Trashing b at refl)
browsed-keeps Removing e b at = answered-keeps e b (may-be Removing b at refl)
browsed-keeps Renaming e b at = typed-keeps (event_typing e) b (may-be Renaming b at refl)
browsed-keeps Making e b at = typed-keeps (event_typing e) b (may-be Making b at refl)
browsed-keeps Pasting e b at = typed-keeps (event_typing e) b (may-be Pasting b at refl)
browsed-keeps Undoing e b at = answered-keeps e b (may-be Undoing b at refl)
browsed-keeps Helping e b at = help-keeps b
browsed-keeps Seeking e b at = sought-keeps (event_typing e) b
browsed-keeps Going e b at = gone-keeps e b
browsed-keeps Visiting e b at = keeps-it b
browsed-keeps Locating e b at = keeps-it b
browsed-keeps Completing e b at = keeps-it b
browsed-keeps CountingToTrash e b at = keeps-it b
browsed-keeps CountingToRemove e b at = keeps-it b
browsed-keeps Sorting e b at = order-keeps (event_order e) b
browsed-keeps Listing e b at = keeps-it b
browsed-keeps Entering e b at = keeps-it b
browsed-keeps Leaving e b at = keeps-it b
browsed-keeps Over e b at = keeps-it b
browsed-keeps Returning e b at = keeps-it b
browsed-keeps Chosen e b at = keeps-it b

-- ---- what is told

sized-folder : (size : Option (ℕ × ℕ)) (b : Browser) → ListsSame b (browser_at_told_size size b)
sized-folder None b = record { folder = refl; list = refl; unnamed = refl }
sized-folder (Some size) b = record { folder = refl; list = refl; unnamed = refl }

sized-marks : (size : Option (ℕ × ℕ)) (b : Browser) → AreMarksListed b → AreMarksListed (browser_at_told_size size b)
sized-marks None b all = all
sized-marks (Some size) b all = all

sized-placed : (size : Option (ℕ × ℕ)) (b : Browser) → IsPlaced b → IsPlaced (browser_at_told_size size b)
sized-placed None b p = p
sized-placed (Some size) b p = scrolled_list-placed (record b {
  is_quiet = b.is_quiet && (b.size.width == size.0) && (b.size.height == size.1);
  size = record { width = size.0; height = size.1 };
}) p.within

told-folder : (input : Bool) (e : Event) (b : Browser) → ListsSame b
    (if input then record (browsed b.mode e b) { is_quiet = false } else browser_at_told_size (size_in e) b)
told-folder true e b = let k = browsed-keeps b.mode e b refl in record { folder = k.folder; list = k.list; unnamed = k.unnamed }
told-folder false e b = sized-folder (size_in e) b

told-placed : (input : Bool) (e : Event) (b : Browser) → IsPlaced b → IsPlaced
    (if input then record (browsed b.mode e b) { is_quiet = false } else browser_at_told_size (size_in e) b)
told-placed true e b p = placed-same (browsed b.mode e b) _ refl refl refl refl ((browsed-keeps b.mode e b refl).placed p)
told-placed false e b p = sized-placed (size_in e) b p

told-marks : (input : Bool) (e : Event) (b : Browser) → AreMarksListed b → AreMarksListed
    (if input then record (browsed b.mode e b) { is_quiet = false } else browser_at_told_size (size_in e) b)
told-marks true e b all = (browsed-keeps b.mode e b refl).marks all
told-marks false e b all = sized-marks (size_in e) b all

pub event-marks : (b : Browser) (e : Event) → AreMarksListed b → AreMarksListed (browsed_after b (message.Event e))
unfolding browsed_after
event-marks b e all = told-marks (is_input e) e b all

pub event-folder : (b : Browser) (e : Event) → ListsSame b (browsed_after b (message.Event e))
unfolding browsed_after
event-folder b e = told-folder (is_input e) e b

pub completed-folder : (b : Browser) (rest : List ℕ) → ListsSame b (browsed_after b (message.Answer (outcome.Completed rest)))
unfolding browsed_after
completed-folder b rest = let k = completed-keeps rest b in record { folder = k.folder; list = k.list; unnamed = k.unnamed }

pub counted-folder : (b : Browser) (n : ℕ) → ListsSame b (browsed_after b (message.Answer (outcome.Counted n)))
unfolding browsed_after
counted-folder b n = let k = counted-keeps b.mode n b in record { folder = k.folder; list = k.list; unnamed = k.unnamed }

pub failed-folder : (b : Browser) (why : Failure) → ListsSame b (browsed_after b (message.Answer (outcome.Failed why)))
unfolding browsed_after
failed-folder b why = let k = failed-keeps why b in record { folder = k.folder; list = k.list; unnamed = k.unnamed }

pub placed-first : (alloc : Global) (title : List ℕ) (size : Size) → IsPlaced (new_browser alloc title size)
placed-first alloc title size = record { within = omega arith; above = omega arith; below = λ some. omega arith }

-- what follows a change that was done keeps the list
pub record GoesOn (b c : Browser) : Type 0 where
  pub folder : c.folder ≡ b.folder
  pub list : c.list ≡ b.list
  pub unnamed : c.unnamed ≡ b.unnamed
  pub placed : IsPlaced b → IsPlaced c
  pub marks : AreMarksListed b → AreMarksListed c
  pub glances : c.glances ≡ b.glances

goes-same : (b : Browser) → GoesOn b b
goes-same b = record { folder = refl; list = refl; unnamed = refl; placed = λ p. p; marks = λ all. all; glances = refl }

goes-found : (found : Option ℕ) (name : List ℕ) (next : Mode) (b : Browser)
    → GoesOn b (record (found_selected found (record b { marks = marks_but name b.marks })) { follows = next })
goes-found None name next b = record {
  folder = refl;
  list = refl;
  unnamed = refl;
  placed = λ p. placed-same b _ refl refl refl refl p;
  marks = All-filter (λ mark. not (is_mark_named name mark)) (IsMarkListed b.list) b.marks;
  glances = refl;
}
goes-found (Some place) name next b =
    let c = record b { marks = marks_but name b.marks } in record {
      folder = refl;
      list = refl;
      unnamed = refl;
      placed = λ p. placed-same (selected_at place c) _ refl refl refl refl (selected-placed place c);
      marks = All-filter (λ mark. not (is_mark_named name mark)) (IsMarkListed b.list) b.marks;
      glances = refl;
    }

goes-removing : (mode : Mode) (b : Browser) → GoesOn b (removals_go_on mode b)
goes-removing mode b =
    goes-found (first_mark_place (record b { marks = marks_but (selected_text b) b.marks })) (selected_text b) _ b

pub goes-on : (mode : Mode) (b : Browser) → GoesOn b (gone_on mode b)
goes-on Trashing b = goes-removing Trashing b
goes-on Removing b = goes-removing Removing b
goes-on Pasting b = record {
  folder = refl;
  list = refl;
  unnamed = refl;
  placed = λ p. placed-same b _ refl refl refl refl p;
  marks = λ all. all;
  glances = refl;
}
goes-on Looking b = goes-same b
goes-on Listing b = goes-same b
goes-on Entering b = goes-same b
goes-on Leaving b = goes-same b
goes-on Returning b = goes-same b
goes-on Renaming b = goes-same b
goes-on Making b = goes-same b
goes-on Sorting b = goes-same b
goes-on Seeking b = goes-same b
goes-on Going b = goes-same b
goes-on Visiting b = goes-same b
goes-on Locating b = goes-same b
goes-on Completing b = goes-same b
goes-on CountingToTrash b = goes-same b
goes-on CountingToRemove b = goes-same b
goes-on Undoing b = goes-same b
goes-on Helping b = goes-same b
goes-on Over b = goes-same b
goes-on Chosen b = goes-same b

pub done-folder : (b : Browser) → ListsSame b (browsed_after b (message.Answer outcome.Done))
unfolding browsed_after
done-folder b = let k = goes-on b.mode b in record { folder = k.folder; list = k.list; unnamed = k.unnamed }

outcome-placed : (o : Outcome) (b : Browser) → IsPlaced b → IsPlaced (outcome_told o b)
outcome-placed (outcome.Listed l) b p =
    placed-same (folder_shown l b) _ refl refl refl refl (selected-placed l.place (record b {
      folder = l.folder;
      list = l.rows;
      unnamed = l.unnamed;
      marks = marks_left l b;
      follows = Looking;
      seeks_typed = false;
      mode = Looking;
      glances = aged b.glances;
    }))
outcome-placed (outcome.Glanced g) b p = placed-same b _ refl refl refl refl p
outcome-placed outcome.Done b p = placed-same (gone_on b.mode b) _ refl refl refl refl ((goes-on b.mode b).placed p)
outcome-placed (outcome.Completed rest) b p =
    placed-same (path_completed rest b) _ refl refl refl refl ((completed-keeps rest b).placed p)
outcome-placed (outcome.Counted n) b p =
    placed-same (counted_in b.mode n b) _ refl refl refl refl ((counted-keeps b.mode n b).placed p)
outcome-placed (outcome.Failed why) b p = placed-same (failed why b) _ refl refl refl refl ((failed-keeps why b).placed p)

pub placed-next : (b : Browser) (m : Message Outcome) → IsPlaced b → IsPlaced (browsed_after b m)
unfolding browsed_after
placed-next b (message.Event e) p = told-placed (is_input e) e b p
placed-next b (message.Tick passed) p = placed-same b _ refl refl refl refl p
placed-next b (message.Answer o) p = outcome-placed o b p

-- ---- yes

abbrev pub counted : Browser → Browser
counted b = record b { is_sure = true; is_quiet = false }

counts-by : (b c : Browser) → (c.is_sure ≡ b.is_sure) ⊎ Counts b c → b.is_sure ≡ false → c.is_sure ≡ true
    → (b.is_quiet ≡ true) × (fits b.size.width b ≡ true) × (record c { is_quiet = false } ≡ counted b)
    × (asks_in b.mode true ≡ true)
counts-by b c (inl same) unsure sure = let both : false ≡ true = sym unsure ∙ sym same ∙ sure in absurd (cc)
counts-by b c (inr k) unsure sure = (k.quiet, k.whole, ap (λ (d : Browser). record d { is_quiet = false }) k.is, k.may)

sized-sure : (size : Option (ℕ × ℕ)) (b : Browser) → (browser_at_told_size size b).is_sure ≡ b.is_sure
sized-sure None b = refl
sized-sure (Some size) b = refl

told-counts : (input : Bool) (e : Event) (b : Browser) → b.is_sure ≡ false
    → (if input then record (browsed b.mode e b) { is_quiet = false } else browser_at_told_size (size_in e) b).is_sure ≡ true
    → (b.is_quiet ≡ true) × (fits b.size.width b ≡ true)
    × ((if input then record (browsed b.mode e b) { is_quiet = false } else browser_at_told_size (size_in e) b) ≡ counted b)
    × (asks_in b.mode true ≡ true)
told-counts true e b unsure sure = counts-by b (browsed b.mode e b) (browsed-keeps b.mode e b refl).sure unsure sure
told-counts false e b unsure sure =
    let bad : false ≡ true = sym unsure ∙ sym (sized-sure (size_in e) b) ∙ sure in absurd (cc)

pub yes-counts : (b : Browser) (e : Event) → b.is_sure ≡ false → (browsed_after b (message.Event e)).is_sure ≡ true
    → (b.is_quiet ≡ true) × (fits b.size.width b ≡ true) × (browsed_after b (message.Event e) ≡ counted b)
    × (asks_in b.mode true ≡ true)
unfolding browsed_after
yes-counts b e unsure sure = told-counts (is_input e) e b unsure sure

size-by : (q w h : Bool) → (q && w && h) ≡ true → (q ≡ true) × (w ≡ true) × (h ≡ true)
size-by true true true is = (refl, refl, refl)
size-by true true false is = absurd (cc)
size-by true false h is = absurd (cc)
size-by false w h is = absurd (cc)

same-size : (s : Size) (size : ℕ × ℕ) → (s.width == size.0) ≡ true → (s.height == size.1) ≡ true
    → record { width = size.0; height = size.1 } ≡ s
same-size s size w h =
    let a : size.0 ≡ s.width = grind (arith, nat_tests) in let b : size.1 ≡ s.height = grind (arith, nat_tests) in
    ap (λ (x : ℕ). record { width = x; height = size.1 }) a ∙ ap (λ (y : ℕ). record { width = s.width; height = y }) b

sized-quiet : (size : Option (ℕ × ℕ)) (b : Browser) → (browser_at_told_size size b).is_quiet ≡ true
    → (b.is_quiet ≡ true) × ((browser_at_told_size size b).size ≡ b.size) × ((browser_at_told_size size b).is_sure ≡ b.is_sure)
sized-quiet None b is = (is, refl, refl)
sized-quiet (Some size) b is =
    let all = size-by b.is_quiet (b.size.width == size.0) (b.size.height == size.1) is in
    (all.0, same-size b.size size all.1 all.2, refl)

told-quiet : (input : Bool) (e : Event) (b : Browser)
    → (if input then record (browsed b.mode e b) { is_quiet = false } else browser_at_told_size (size_in e) b).is_quiet ≡ true
    → (b.is_quiet ≡ true)
    × ((if input then record (browsed b.mode e b) { is_quiet = false } else browser_at_told_size (size_in e) b).size ≡ b.size)
    × ((if input then record (browsed b.mode e b) { is_quiet = false } else browser_at_told_size (size_in e) b).is_sure ≡ b.is_sure)
told-quiet true e b is = absurd (cc)
told-quiet false e b is = sized-quiet (size_in e) b is

pub quiet-stays : (b : Browser) (e : Event) → (browsed_after b (message.Event e)).is_quiet ≡ true
    → (b.is_quiet ≡ true) × ((browsed_after b (message.Event e)).size ≡ b.size)
    × ((browsed_after b (message.Event e)).is_sure ≡ b.is_sure)
unfolding browsed_after
quiet-stays b e is = told-quiet (is_input e) e b is

-- ---- the list of the keys

-- nothing is asked for by a browser that shows them
asks-helping : (b : Browser) → b.mode ≡ Helping → asks b ≡ false
asks-helping b at =
    ap (λ m. asks_in m b.is_sure || is_some (if is_looking m && b.is_quiet && is_wide b.size.width then side_lacking b else None)) at

help-asks : (more : Bool) (b : Browser) → b.mode ≡ Helping
    → asks (record (if more then record b { helped = b.helped + list_rows b } else record b { mode = Looking }) { is_quiet = false })
    ≡ false
help-asks true b at = asks-helping (record b { helped = b.helped + list_rows b; is_quiet = false }) at
help-asks false b at = refl

helping-browsed : (mode : Mode) (e : Event) (b : Browser) → mode ≡ Helping → b.mode ≡ Helping
    → asks (record (browsed mode e b) { is_quiet = false }) ≡ false
helping-browsed Helping e b is at = help-asks (nat_lt 0 (list_rows b) && nat_lt (list_rows b) (help_rows - b.helped)) b at
helping-browsed Looking e b is at = absurd (cc)
helping-browsed Listing e b is at = absurd (cc)
helping-browsed Entering e b is at = absurd (cc)
helping-browsed Leaving e b is at = absurd (cc)
helping-browsed Returning e b is at = absurd (cc)
helping-browsed Trashing e b is at = absurd (cc)
helping-browsed Removing e b is at = absurd (cc)
helping-browsed Renaming e b is at = absurd (cc)
helping-browsed Making e b is at = absurd (cc)
helping-browsed Pasting e b is at = absurd (cc)
helping-browsed Sorting e b is at = absurd (cc)
helping-browsed Seeking e b is at = absurd (cc)
helping-browsed Going e b is at = absurd (cc)
helping-browsed Visiting e b is at = absurd (cc)
helping-browsed Locating e b is at = absurd (cc)
helping-browsed Completing e b is at = absurd (cc)
helping-browsed CountingToTrash e b is at = absurd (cc)
helping-browsed CountingToRemove e b is at = absurd (cc)
helping-browsed Undoing e b is at = absurd (cc)
helping-browsed Over e b is at = absurd (cc)
helping-browsed Chosen e b is at = absurd (cc)

helping-sized : (size : Option (ℕ × ℕ)) (b : Browser) → b.mode ≡ Helping → asks (browser_at_told_size size b) ≡ false
helping-sized None b at = asks-helping b at
helping-sized (Some size) b at = asks-helping (browser_at_told_size (Some size) b) at

helping-told : (input : Bool) (e : Event) (b : Browser) → b.mode ≡ Helping
    → asks (if input then record (browsed b.mode e b) { is_quiet = false } else browser_at_told_size (size_in e) b) ≡ false
helping-told true e b at = helping-browsed b.mode e b at at
helping-told false e b at = helping-sized (size_in e) b at

pub helping-asks : (b : Browser) (e : Event) → b.mode ≡ Helping → asks (browsed_after b (message.Event e)) ≡ false
unfolding browsed_after
helping-asks b e at = helping-told (is_input e) e b at
