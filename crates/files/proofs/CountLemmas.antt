-- Folders are counted before it is asked about them.
use Rattle.std.proofs.Common.{◌≡◌, ◌⊎◌, inl, inr, ℕ, zero, suc, ◌-◌, ◌==◌, ◌&&◌, Bool, true, false, not, nat_lt, List, [], length}
use Rattle.std.proofs.Common.{Option, Some, None}
use Rattle.std.proofs.Common.{if◌then◌else◌, refl, sym, ap, ◌∙◌, arith}
use Rattle.std.specs.Prelude.{is_some, slice_get}
use Rattle.std.specs.Option.{option_map_or}
use Rattle.std.specs.Str.{bytes_eq}
use Rattle.std.proofs.lemmas.Bool.Decides.{nat_tests}
use Rattle.std.specs.declared.time.Duration.{Duration}
use Rattle.ratatui_events.specs.declared.event.Event.{Event}
use Rattle.ratatui_reads.specs.Reads.{size_in}
use Rattle.ratatui_acts.specs.declared.message.Message.{Message}
use Rattle.ratatui_acts.specs.declared.message.Message.TheVariants as message
use Rattle.text_field.specs.Field.{FieldData, field_text}
use Rattle.ratatui_files.specs.declared.command.Command.{Command}
use Rattle.ratatui_files.specs.declared.answer.Answer.{Answer}
use Rattle.ratatui_files.specs.declared.answer.Answer.TheVariants as answer
use Rattle.ratatui_files.specs.declared.answer.Failure.{Failure}
use Rattle.ratatui_files.specs.declared.answer.Failure.TheVariants as failure
use Rattle.files.specs.declared.browser.Browser.{Browser}
use Rattle.files.specs.declared.browser.Mode.{Mode}
use Rattle.files.specs.declared.browser.Mode.TheVariants.{Looking, Listing, Entering, Leaving, Trashing, Removing}
use Rattle.files.specs.declared.browser.Mode.TheVariants.{Renaming, Making, Over, Pasting, Sorting, Seeking}
use Rattle.files.specs.declared.browser.Mode.TheVariants.{Going, Visiting, Locating, Completing}
use Rattle.files.specs.declared.browser.Mode.TheVariants.{CountingToTrash, CountingToRemove}
use Rattle.files.specs.declared.browser.Mode.TheVariants.{Returning, Undoing, Helping, Chosen}
use Rattle.files.specs.declared.browser.Note.TheVariants.{Narrow}
use Rattle.files.specs.declared.keys.Wish.{Wish}
use Rattle.files.specs.declared.keys.Wish.TheVariants as wish
use Rattle.files.specs.declared.typing.Typing.{Typing}
use Rattle.files.specs.declared.typing.Typing.TheVariants.{Change, Accept, Cancel, Ignore}
use Rattle.files.specs.declared.list.Row.{Row}
use Rattle.files.specs.declared.list.Listing.{Listing as ListingData}
use Rattle.files.specs.declared.list.Outcome.{Outcome}
use Rattle.files.specs.declared.list.Outcome.TheVariants as outcome
use Rattle.files.specs.declared.notes.Noted.{Noted}
use Rattle.files.specs.declared.order.Order.{Order}
use Rattle.files.specs.Keys.{event_wish, event_typing, event_order, is_tab_key, is_input, says_yes}
use Rattle.files.specs.Help.{help_rows}
use Rattle.files.specs.Texts.{fits, place_in_row, selected_text}
use Rattle.files.specs.Questions.{named_path}
use Rattle.ratatui_files.specs.declared.command.Command.TheVariants.{List as ListFolder}
use Rattle.files.specs.Ways.{way_of}
use Rattle.files.specs.Marks.{is_selected_marked, first_mark_place}
use Rattle.files.specs.Counting.{selects_folder, counting_for, asked_mode, asking_about, row_count_told, entries_told, count_told}
use Rattle.files.specs.Moves.{granted, wished, confirmed, typed_into, removal_answered, sought_into, gone_by, path_into, going_to}
use Rattle.files.specs.Moves.{order_taken, help_left, list_rows, browsed, browser_at_told_size, outcome_told, browsed_after}
use Rattle.files.specs.Moves.{found_selected, next_found, previous_found, first_mark_selected, typing_in, typing_name}
use Rattle.files.specs.Moves.{is_completing}
use Rattle.files.specs.Moves.{leads_to_leaf, failed, counted_in, mode_following, folder_shown, finished, path_completed}
use Rattle.files.specs.Moves.{is_folder_selected, entered, is_entry_row, clicked, selected_at, seeking_typed, typed_sought}
use Rattle.files.specs.Moves.{found_note}
use Rattle.files.specs.Doing.{Counted, TellsCount, DoesIn, DoesAsked}
use Rattle.files.proofs.LawLemmas.{counted-keeps}
use Rattle.files.specs.Laws.{is_removal, is_counting, AsksOfFolder, SelectsSame, AskedBefore, JustCounted, WasListed}

-- ---- what is asked about a folder was asked before

abbrev Asks : Browser → Browser → Type 0
Asks b c = AsksOfFolder c → AskedBefore b c

asks-same : (b c : Browser) → c.mode ≡ b.mode → c.folder ≡ b.folder → c.list ≡ b.list → c.selected ≡ b.selected
    → c.count ≡ b.count → Asks b c
asks-same b c mode folder list selected count = λ asks.
    record { mode = mode; entry = record { folder = folder; list = list; selected = selected }; count = count }

asks-none : (b c : Browser) (m : Mode) → c.mode ≡ m → is_removal m ≡ false → Asks b c
asks-none b c m at other = λ asks. let bad : true ≡ false = sym asks.removal ∙ ap is_removal at ∙ other in absurd (cc)

asks-if : (test : Bool) (b c d : Browser) → Asks b c → Asks b d → Asks b (if test then c else d)
asks-if true b c d one two = one
asks-if false b c d one two = two

-- a note and two flags change no question
noted-asks : (b c d : Browser) → d.mode ≡ c.mode → d.folder ≡ c.folder → d.list ≡ c.list → d.selected ≡ c.selected
    → d.count ≡ c.count
    → selects_folder d ≡ selects_folder c → Asks b c → Asks b d
noted-asks b c d mode folder list selected count same k = λ asks.
    let was = k (record { removal = ap is_removal (sym mode) ∙ asks.removal; folder = sym same ∙ asks.folder }) in
    record {
      mode = mode ∙ was.mode;
      entry = record {
        folder = folder ∙ was.entry.folder;
        list = list ∙ was.entry.list;
        selected = selected ∙ was.entry.selected;
      };
      count = count ∙ was.count;
    }

-- ---- wishes

found-mode : (found : Option ℕ) (b : Browser) → (found_selected found b).mode ≡ b.mode
found-mode None b = refl
found-mode (Some place) b = refl

-- a folder isn't asked about, but counted
counting-none : (folder : Bool) (b c : Browser) (question : Mode) → is_removal (counting_for question) ≡ false
    → selects_folder c ≡ folder → Asks b (record c { mode = if folder then counting_for question else question })
counting-none true b c question other is = asks-none b _ (counting_for question) refl other
counting-none false b c question other is = λ asks. let bad : true ≡ false = sym asks.folder ∙ is in absurd (cc)

about-none : (b c : Browser) (question : Mode) → is_removal (counting_for question) ≡ false → Asks b (asking_about question c)
about-none b c question other = counting-none (selects_folder c) b c question other refl

entered-none : (b : Browser) → b.mode ≡ Looking → Asks b (entered b)
entered-none b at = asks-if (is_folder_selected b) b _ b (asks-none b _ Entering refl refl) (asks-none b b Looking at refl)

clicked-none : (row : ℕ) (b : Browser) → b.mode ≡ Looking → Asks b (clicked row b)
clicked-none row b at = asks-if (not (is_entry_row row b)) b _ _ (asks-none b b Looking at refl)
    (asks-if (place_in_row row b == b.selected) b _ _ (entered-none b at) (asks-none b _ Looking at refl))

pasting-none : (noted : Option Noted) (n : ℕ) (b : Browser) → b.mode ≡ Looking
    → Asks b (option_map_or (λ it. typing_in Pasting (typing_name it.name) (record b { left = n })) noted (record b { left = n }))
pasting-none None n b at = asks-none b _ Looking at refl
pasting-none (Some noted) n b at = asks-none b _ Pasting refl refl

granted-none : (w : Wish) (b : Browser) → b.mode ≡ Looking → Asks b (granted w b)
granted-none wish.Nothing b at = asks-none b _ Looking at refl
granted-none wish.Down b at = asks-none b _ Looking at refl
granted-none wish.Up b at = asks-none b _ Looking at refl
granted-none wish.PageDown b at = asks-none b _ Looking at refl
granted-none wish.PageUp b at = asks-none b _ Looking at refl
granted-none wish.HalfDown b at = asks-none b _ Looking at refl
granted-none wish.HalfUp b at = asks-none b _ Looking at refl
granted-none wish.ToFirst b at = asks-none b _ Looking at refl
granted-none wish.ToLast b at = asks-none b _ Looking at refl
granted-none wish.WheelDown b at = asks-none b _ Looking at refl
granted-none wish.WheelUp b at = asks-none b _ Looking at refl
granted-none (wish.Click row) b at = clicked-none row b at
granted-none wish.Enter b at = entered-none b at
granted-none wish.Leave b at =
    asks-if (bytes_eq b.folder b.base) b b _ (asks-none b _ Looking at refl) (asks-none b _ Leaving refl refl)
granted-none wish.Base b at =
    asks-if (bytes_eq b.folder b.base) b b _ (asks-none b _ Looking at refl) (asks-none b _ Returning refl refl)
granted-none wish.Undo b at =
    asks-if (is_some b.last_move) b _ b (asks-none b _ Undoing refl refl) (asks-none b _ Looking at refl)
granted-none wish.Help b at = asks-none b _ Helping refl refl
granted-none wish.Choose b at = asks-none b _ Chosen refl refl
granted-none wish.Hidden b at = asks-none b _ Listing refl refl
granted-none wish.Rename b at =
    asks-if (length b.list == 0) b b _ (asks-none b _ Looking at refl) (asks-none b _ Renaming refl refl)
granted-none wish.Make b at = asks-none b _ Making refl refl
granted-none wish.Trash b at = asks-if (is_some b.trash && nat_lt 0 (length b.list)) b _ b
    (about-none b (first_mark_selected b) Trashing refl) (asks-none b _ Looking at refl)
granted-none wish.Remove b at =
    asks-if (nat_lt 0 (length b.list)) b _ b (about-none b (first_mark_selected b) Removing refl)
    (asks-none b _ Looking at refl)
granted-none wish.Sort b at = asks-none b _ Sorting refl refl
granted-none wish.Seek b at = asks-none b _ Seeking refl refl
granted-none wish.Go b at = asks-none b _ Going refl refl
granted-none wish.SeekOn b at = asks-none b _ Looking (found-mode (next_found b) b ∙ at) refl
granted-none wish.SeekBack b at = asks-none b _ Looking (found-mode (previous_found b) b ∙ at) refl
granted-none wish.Mark b at = asks-none b _ Looking at refl
granted-none wish.Unmark b at = asks-none b _ Looking at refl
granted-none wish.NoteCopy b at = asks-none b _ Looking at refl
granted-none wish.NoteMove b at = asks-none b _ Looking at refl
granted-none wish.Paste b at = pasting-none b.noted (length b.more) b at
granted-none wish.Quit b at = asks-none b _ Over refl refl

wished-none : (w : Wish) (b : Browser) → b.mode ≡ Looking → Asks b (wished w b)
wished-none w b at = noted-asks b (granted w b) _ refl refl refl refl refl refl (granted-none w b at)

-- ---- questions

confirmed-asks : (b : Browser) → Asks b (confirmed b)
confirmed-asks b = asks-if (not b.is_quiet) b b _ (asks-same b b refl refl refl refl refl)
    (asks-if (fits b.size.width b) b _ _ (asks-same b _ refl refl refl refl refl) (asks-none b _ Looking refl refl))

answered-asks : (e : Event) (b : Browser) → Asks b (removal_answered e b)
answered-asks e b = asks-if (says_yes e) b _ _ (confirmed-asks b) (asks-none b _ Looking refl refl)

typed-asks : (t : Typing) (b : Browser) → Asks b (typed_into t b)
typed-asks (Change edit) b = asks-same b _ refl refl refl refl refl
typed-asks Accept b = confirmed-asks b
typed-asks Cancel b = asks-none b _ Looking refl refl
typed-asks Ignore b = asks-same b b refl refl refl refl refl

sought-asks : (t : Typing) (b : Browser) → Asks b (sought_into t b)
sought-asks (Change edit) b = asks-same b _ refl refl refl refl refl
sought-asks Accept b = asks-none b _ Looking (found-mode (next_found (seeking_typed b)) (seeking_typed b)) refl
sought-asks Cancel b = asks-none b _ Looking refl refl
sought-asks Ignore b = asks-same b b refl refl refl refl refl

going-asks : (path : Option (List ℕ)) (b : Browser) → Asks b (going_to path b)
going-asks None b = asks-none b _ Looking refl refl
going-asks (Some path) b = asks-none b _ Visiting refl refl

path-asks : (t : Typing) (b : Browser) → Asks b (path_into t b)
path-asks (Change edit) b = asks-same b _ refl refl refl refl refl
path-asks Accept b = going-asks (way_of b (field_text b.typed)) b
path-asks Cancel b = asks-none b _ Looking refl refl
path-asks Ignore b = asks-same b b refl refl refl refl refl

gone-asks : (e : Event) (b : Browser) → Asks b (gone_by e b)
gone-asks e b = asks-if (is_tab_key e) b _ _ (asks-none b _ Completing refl refl) (path-asks (event_typing e) b)

order-asks : (o : Option Order) (b : Browser) → Asks b (order_taken o b)
order-asks None b = asks-none b _ Looking refl refl
order-asks (Some order) b = asks-none b _ Listing refl refl

help-asks : (b : Browser) → Asks b (help_left b)
help-asks b = asks-if (nat_lt 0 (list_rows b) && nat_lt (list_rows b) (help_rows - b.helped)) b _ _
    (asks-same b _ refl refl refl refl refl) (asks-none b _ Looking refl refl)

browsed-asks : (mode : Mode) (e : Event) (b : Browser) → b.mode ≡ mode → Asks b (browsed mode e b)
browsed-asks Looking e b at = wished-none (event_wish e) b at
browsed-asks Listing e b at = asks-same b b refl refl refl refl refl
browsed-asks Entering e b at = asks-same b b refl refl refl refl refl
browsed-asks Leaving e b at = asks-same b b refl refl refl refl refl
browsed-asks Returning e b at = asks-same b b refl refl refl refl refl
browsed-asks Trashing e b at = answered-asks e b
browsed-asks Removing e b at = answered-asks e b
browsed-asks Renaming e b at = typed-asks (event_typing e) b
browsed-asks Making e b at = typed-asks (event_typing e) b
browsed-asks Pasting e b at = typed-asks (event_typing e) b
browsed-asks Sorting e b at = order-asks (event_order e) b
browsed-asks Seeking e b at = sought-asks (event_typing e) b
browsed-asks Going e b at = gone-asks e b
browsed-asks Visiting e b at = asks-same b b refl refl refl refl refl
browsed-asks Locating e b at = asks-same b b refl refl refl refl refl
browsed-asks Completing e b at = asks-same b b refl refl refl refl refl
browsed-asks CountingToTrash e b at = asks-same b b refl refl refl refl refl
browsed-asks CountingToRemove e b at = asks-same b b refl refl refl refl refl
browsed-asks Undoing e b at = answered-asks e b
browsed-asks Helping e b at = help-asks b
browsed-asks Over e b at = asks-same b b refl refl refl refl refl
browsed-asks Chosen e b at = asks-same b b refl refl refl refl refl

sized-asks : (size : Option (ℕ × ℕ)) (b : Browser) → Asks b (browser_at_told_size size b)
sized-asks None b = asks-same b b refl refl refl refl refl
sized-asks (Some size) b = asks-same b _ refl refl refl refl refl

told-asks : (input : Bool) (e : Event) (b : Browser) → Asks b
    (if input then record (browsed b.mode e b) { is_quiet = false } else browser_at_told_size (size_in e) b)
told-asks true e b = noted-asks b (browsed b.mode e b) _ refl refl refl refl refl refl (browsed-asks b.mode e b refl)
told-asks false e b = sized-asks (size_in e) b

-- ---- answers

failed-asks : (why : Failure) (b : Browser) → Asks b (failed why b)
failed-asks why b = asks-if (is_completing b.mode) b _ _ (asks-none b _ Going refl refl)
    (asks-if (leads_to_leaf b.mode why) b _ _ (asks-none b _ Locating refl refl) (asks-none b _ Looking refl refl))

following-by : (marked : Bool) (b c : Browser) (question : Mode) → is_removal (counting_for question) ≡ false
    → Asks b (record c { mode = if marked then asked_mode question c else Looking })
following-by true b c question other = about-none b c question other
following-by false b c question other = asks-none b _ Looking refl refl

pasting-by : (noted : Bool) (b c : Browser) → Asks b (record c { mode = if noted then Pasting else Looking })
pasting-by true b c = asks-none b _ Pasting refl refl
pasting-by false b c = asks-none b _ Looking refl refl

following-asks : (next : Mode) (b c : Browser) → Asks b (record c { mode = mode_following next c })
following-asks Looking b c = asks-none b _ Looking refl refl
following-asks Listing b c = asks-none b _ Looking refl refl
following-asks Entering b c = asks-none b _ Looking refl refl
following-asks Leaving b c = asks-none b _ Looking refl refl
following-asks Returning b c = asks-none b _ Looking refl refl
following-asks Trashing b c = following-by (is_selected_marked c) b c Trashing refl
following-asks Removing b c = following-by (is_selected_marked c) b c Removing refl
following-asks Renaming b c = asks-none b _ Looking refl refl
following-asks Making b c = asks-none b _ Looking refl refl
following-asks Pasting b c = pasting-by (is_some c.noted) b c
following-asks Sorting b c = asks-none b _ Looking refl refl
following-asks Seeking b c = asks-none b _ Looking refl refl
following-asks Going b c = asks-none b _ Looking refl refl
following-asks Visiting b c = asks-none b _ Looking refl refl
following-asks Locating b c = asks-none b _ Looking refl refl
following-asks Completing b c = asks-none b _ Looking refl refl
following-asks CountingToTrash b c = asks-none b _ Looking refl refl
following-asks CountingToRemove b c = asks-none b _ Looking refl refl
following-asks Undoing b c = asks-none b _ Looking refl refl
following-asks Helping b c = asks-none b _ Looking refl refl
following-asks Over b c = asks-none b _ Looking refl refl
following-asks Chosen b c = asks-none b _ Looking refl refl

counts : (n : ℕ) (b c : Browser) → is_counting b.mode ≡ true → c.folder ≡ b.folder → c.list ≡ b.list
    → c.selected ≡ b.selected → n ≡ c.count
    → JustCounted b (message.Answer (outcome.Counted n)) c
counts n b c counting folder list selected count = record {
  counting = counting;
  entry = record { folder = folder; list = list; selected = selected };
  count = ap (λ k. message.Answer (outcome.Counted k)) count;
}

abbrev outcome_flags : Browser → Browser
outcome_flags b = record b { is_sure = false; is_quiet = false }

is-zero : (n : ℕ) → (n == 0) ≡ true → n ≡ 0
is-zero n is = grind (arith, nat_tests)

removing-by : (none : Bool) (n : ℕ) (b c : Browser) → (n == 0) ≡ none → b.mode ≡ CountingToRemove
    → c ≡ (if none then record b { mode = Removing; count = 0 } else failed failure.NotEmpty b) → AsksOfFolder (outcome_flags c)
    → AskedBefore b (outcome_flags c) ⊎ JustCounted b (message.Answer (outcome.Counted n)) (outcome_flags c)
removing-by true n b c nothing at is asks =
    rw is (inr (counts n b _ (ap is_counting at) refl refl refl (is-zero n nothing)))
removing-by false n b c nothing at is asks =
    inl (noted-asks b c (outcome_flags c) refl refl refl refl refl refl (rw is (failed-asks failure.NotEmpty b)) asks)

counted-asks : (mode : Mode) (n : ℕ) (b : Browser) → b.mode ≡ mode → AsksOfFolder (outcome_flags (counted_in mode n b))
    → AskedBefore b (outcome_flags (counted_in mode n b))
    ⊎ JustCounted b (message.Answer (outcome.Counted n)) (outcome_flags (counted_in mode n b))
counted-asks Looking n b at asks = inl (asks-same b _ refl refl refl refl refl asks)
counted-asks Listing n b at asks = inl (asks-same b _ refl refl refl refl refl asks)
counted-asks Entering n b at asks = inl (asks-same b _ refl refl refl refl refl asks)
counted-asks Leaving n b at asks = inl (asks-same b _ refl refl refl refl refl asks)
counted-asks Returning n b at asks = inl (asks-same b _ refl refl refl refl refl asks)
counted-asks Trashing n b at asks = inl (asks-same b _ refl refl refl refl refl asks)
counted-asks Removing n b at asks = inl (asks-same b _ refl refl refl refl refl asks)
counted-asks Renaming n b at asks = inl (asks-same b _ refl refl refl refl refl asks)
counted-asks Making n b at asks = inl (asks-same b _ refl refl refl refl refl asks)
counted-asks Pasting n b at asks = inl (asks-same b _ refl refl refl refl refl asks)
counted-asks Sorting n b at asks = inl (asks-same b _ refl refl refl refl refl asks)
counted-asks Seeking n b at asks = inl (asks-same b _ refl refl refl refl refl asks)
counted-asks Going n b at asks = inl (asks-same b _ refl refl refl refl refl asks)
counted-asks Visiting n b at asks = inl (asks-same b _ refl refl refl refl refl asks)
counted-asks Locating n b at asks = inl (asks-same b _ refl refl refl refl refl asks)
counted-asks Completing n b at asks = inl (asks-same b _ refl refl refl refl refl asks)
counted-asks CountingToTrash n b at asks = inr (counts n b _ (ap is_counting at) refl refl refl refl)
counted-asks CountingToRemove n b at asks = removing-by (n == 0) n b (counted_in CountingToRemove n b) refl at refl asks
counted-asks Undoing n b at asks = inl (asks-same b _ refl refl refl refl refl asks)
counted-asks Helping n b at asks = inl (asks-same b _ refl refl refl refl refl asks)
counted-asks Over n b at asks = inl (asks-same b _ refl refl refl refl refl asks)
counted-asks Chosen n b at asks = inl (asks-same b _ refl refl refl refl refl asks)

pub asked-counted : (b : Browser) (m : Message Outcome) → AsksOfFolder (browsed_after b m)
    → AskedBefore b (browsed_after b m) ⊎ JustCounted b m (browsed_after b m)
unfolding browsed_after
asked-counted b (message.Event e) asks = inl (told-asks (is_input e) e b asks)
asked-counted b (message.Tick passed) asks = inl (asks-same b _ refl refl refl refl refl asks)
asked-counted b (message.Answer (outcome.Listed l)) asks =
    inl (noted-asks b (record (folder_shown l b) { mode = mode_following b.follows (folder_shown l b) }) _
    refl refl refl refl refl refl
    (following-asks b.follows b (folder_shown l b)) asks)
asked-counted b (message.Answer (outcome.Glanced g)) asks = inl (asks-same b _ refl refl refl refl refl asks)
asked-counted b (message.Answer outcome.Done) asks = inl (asks-none b _ Listing refl refl asks)
asked-counted b (message.Answer (outcome.Completed rest)) asks =
    inl (noted-asks b (path_completed rest b) _ refl refl refl refl refl refl
    (asks-if (is_completing b.mode) b _ b (asks-none b _ Going refl refl) (asks-same b b refl refl refl refl refl)) asks)
asked-counted b (message.Answer (outcome.Counted n)) asks = counted-asks b.mode n b refl asks
asked-counted b (message.Answer (outcome.Failed why)) asks =
    inl (noted-asks b (failed why b) _ refl refl refl refl refl refl (failed-asks why b) asks)

-- ---- what is answered

failed-counted : (n : ℕ) (why : Failure) → outcome.Counted n ≡ outcome.Failed why → ⊥
failed-counted n why is = absurd (cc)

listed-by : {P : Type 0} (does : P → Command → Answer → P → Type 0) (b : Browser) (files files' : P) (n : ℕ) (folder : List ℕ)
    → named_path b (selected_text b) ≡ Some folder → (a : Answer) → does files (ListFolder folder) a files'
    → TellsCount a (outcome.Counted n)
    → WasListed does b files n files'
listed-by does b files files' n folder is (answer.Listed entries unnamed) done tells =
    record { folder = folder; is = is; entries = entries; unnamed = unnamed; done = done; count = cc }
listed-by does b files files' n folder is (answer.Read bytes) done tells = absurd (failed-counted n failure.Other tells)
listed-by does b files files' n folder is answer.Done done tells = absurd (failed-counted n failure.Other tells)
listed-by does b files files' n folder is (answer.Time time) done tells = absurd (failed-counted n failure.Other tells)
listed-by does b files files' n folder is (answer.Failed why) done tells = absurd (failed-counted n why tells)

count-listed : {P : Type 0} (does : P → Command → Answer → P → Type 0) (b : Browser) (files files' : P) (n : ℕ)
    → Counted does b files (outcome.Counted n) files' → WasListed does b files n files'
count-listed does b files files' n (inl none) = absurd (failed-counted n none.why none.tells)
count-listed does b files files' n (inr looks) =
    listed-by does b files files' n looks.folder looks.is looks.answer looks.done looks.tells

in-counting : {P : Type 0} (does : P → Command → Answer → P → Type 0) (mode : Mode) (b : Browser) (files files' : P) (n : ℕ)
    → is_counting mode ≡ true → DoesIn does mode b files (outcome.Counted n) files' → WasListed does b files n files'
in-counting does Looking b files files' n on is = absurd (cc)
in-counting does Listing b files files' n on is = absurd (cc)
in-counting does Entering b files files' n on is = absurd (cc)
in-counting does Leaving b files files' n on is = absurd (cc)
in-counting does Returning b files files' n on is = absurd (cc)
in-counting does Trashing b files files' n on is = absurd (cc)
in-counting does Removing b files files' n on is = absurd (cc)
in-counting does Renaming b files files' n on is = absurd (cc)
in-counting does Making b files files' n on is = absurd (cc)
in-counting does Pasting b files files' n on is = absurd (cc)
in-counting does Sorting b files files' n on is = absurd (cc)
in-counting does Seeking b files files' n on is = absurd (cc)
in-counting does Going b files files' n on is = absurd (cc)
in-counting does Visiting b files files' n on is = absurd (cc)
in-counting does Locating b files files' n on is = absurd (cc)
in-counting does Completing b files files' n on is = absurd (cc)
in-counting does CountingToTrash b files files' n on is = count-listed does b files files' n is
in-counting does CountingToRemove b files files' n on is = count-listed does b files files' n is
in-counting does Undoing b files files' n on is = absurd (cc)
in-counting does Helping b files files' n on is = absurd (cc)
in-counting does Over b files files' n on is = absurd (cc)
in-counting does Chosen b files files' n on is = absurd (cc)

pub counted-listed : {P : Type 0} (does : P → Command → Answer → P → Type 0) (b : Browser) (files files' : P) (n : ℕ)
    → is_counting b.mode ≡ true → DoesAsked does b files (outcome.Counted n) files' → WasListed does b files n files'
counted-listed does b files files' n on is = in-counting does b.mode b files files' n on is

row-count : (leaf : Bool) (n : ℕ) → not leaf ≡ true → (if leaf then [] else entries_told n) ≡ entries_told n
row-count true n is = absurd (cc)
row-count false n is = refl

count-by : (o : Option Row) (n : ℕ) → option_map_or (λ row. not row.is_leaf) o false ≡ true
    → option_map_or (λ row. row_count_told row n) o [] ≡ entries_told n
count-by None n is = absurd (cc)
count-by (Some row) n is = row-count row.is_leaf n is

pub count-told : (b : Browser) → AsksOfFolder b → count_told b ≡ entries_told b.count
count-told b asks = count-by (slice_get b.list b.selected) b.count asks.folder

-- ---- after a listing

counts-marked : (marked : Bool) (mode : Mode) → is_counting (if marked then mode else Looking) ≡ true → marked ≡ true
counts-marked true mode is = refl
counts-marked false mode is = absurd (cc)

pastes-no-count : (noted : Bool) → is_counting (if noted then Pasting else Looking) ≡ true → ⊥
pastes-no-count true is = absurd (cc)
pastes-no-count false is = absurd (cc)

marked-by : (next : Mode) (c : Browser) → is_counting (mode_following next c) ≡ true → is_selected_marked c ≡ true
marked-by Looking c is = absurd (cc)
marked-by Listing c is = absurd (cc)
marked-by Entering c is = absurd (cc)
marked-by Leaving c is = absurd (cc)
marked-by Returning c is = absurd (cc)
marked-by Trashing c is = counts-marked (is_selected_marked c) (asked_mode Trashing c) is
marked-by Removing c is = counts-marked (is_selected_marked c) (asked_mode Removing c) is
marked-by Renaming c is = absurd (cc)
marked-by Making c is = absurd (cc)
marked-by Pasting c is = absurd (pastes-no-count (is_some c.noted) is)
marked-by Sorting c is = absurd (cc)
marked-by Seeking c is = absurd (cc)
marked-by Going c is = absurd (cc)
marked-by Visiting c is = absurd (cc)
marked-by Locating c is = absurd (cc)
marked-by Completing c is = absurd (cc)
marked-by CountingToTrash c is = absurd (cc)
marked-by CountingToRemove c is = absurd (cc)
marked-by Undoing c is = absurd (cc)
marked-by Helping c is = absurd (cc)
marked-by Over c is = absurd (cc)
marked-by Chosen c is = absurd (cc)

pub counts-what-is-marked : (b : Browser) (l : ListingData)
    → is_counting (browsed_after b (message.Answer (outcome.Listed l))).mode ≡ true
    → is_selected_marked (browsed_after b (message.Answer (outcome.Listed l))) ≡ true
unfolding browsed_after
counts-what-is-marked b l is = marked-by b.follows (folder_shown l b) is

pub counted-glances : (b : Browser) (n : ℕ) → (browsed_after b (message.Answer (outcome.Counted n))).glances ≡ b.glances
unfolding browsed_after
counted-glances b n = (counted-keeps b.mode n b).glances
