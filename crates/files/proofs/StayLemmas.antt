-- The selection stays on its entry.
use Rattle.std.proofs.Common.{◌≡◌, inl, inr, ◌<◌, ◌-◌, ℕ, Bool, true, false, if◌then◌else◌, List, [], length, Option, Some, None, min, refl, ap, ◌∙◌, arith}
use Rattle.std.specs.Prelude.{slice_get, string_bytes}
use Rattle.std.specs.Option.{option_map_or}
use Rattle.std.proofs.lemmas.Option.{slice_get_within}
use Rattle.ratatui_events.specs.declared.event.Event.{Event}
use Rattle.ratatui_acts.specs.declared.message.Message.TheVariants as message
use Rattle.ratatui_reads.specs.Reads.{size_in}
use Rattle.files.specs.declared.browser.Browser.{Browser}
use Rattle.files.specs.declared.browser.Mode.{Mode}
use Rattle.files.specs.declared.browser.Mode.TheVariants.{Listing, Sorting}
use Rattle.files.specs.declared.list.Row.{Row}
use Rattle.files.specs.declared.list.Listing.{Listing as ListingData}
use Rattle.files.specs.declared.list.Outcome.TheVariants as outcome
use Rattle.files.specs.declared.order.Order.{Order}
use Rattle.files.specs.declared.hands.Wanted.{Wanted}
use Rattle.files.specs.Texts.{selected_text}
use Rattle.files.specs.Keys.{is_input, event_order}
use Rattle.files.specs.Moves.{browsed, browser_at_told_size, browsed_after, order_taken}
use Rattle.files.specs.Sorting.{HasName, IsPlaceOf}
use Rattle.files.specs.Doing.{Lists}

pub asked-shown : (b : Browser) (w : Wanted) → b.seeks_typed ≡ false → Lists Listing b w → w.name ≡ selected_text b
asked-shown b w none shown = rw none at shown.name

-- a row with a name, in a list, has this text
pub text-by : (name : List ℕ) (o : Option Row) → HasName name o → option_map_or (λ row. string_bytes row.name) o [] ≡ name
text-by name None has = absurd has
text-by name (Some row) has = has

pub within-by : (name : List ℕ) (rows : List Row) (k : ℕ) (o : Option Row) → slice_get rows k ≡ o → HasName name o → k < length rows
within-by name rows k None is has = absurd has
within-by name rows k (Some row) is has = slice_get_within rows k row is

there : (name : List ℕ) (other : ℕ) (rows : List Row) (place k : ℕ) → IsPlaceOf name other rows place → HasName name (slice_get rows k)
    → HasName name (slice_get rows place)
there name other rows place k (inl has) some = has
there name other rows place k (inr none) some = absurd (none.1 k some)

pub stays-there : (b : Browser) (l : ListingData) (name : List ℕ) (other k : ℕ) → IsPlaceOf name other l.rows l.place
    → HasName name (slice_get l.rows k) → selected_text (browsed_after b (message.Answer (outcome.Listed l))) ≡ name
unfolding browsed_after
stays-there b l name other k place some =
    let has = there name other l.rows l.place k place some in
    let within = within-by name l.rows l.place (slice_get l.rows l.place) refl has in
    let same : min l.place (length l.rows - 1) ≡ l.place = omega arith in
    ap (λ p. option_map_or (λ row. string_bytes row.name) (slice_get l.rows p) []) same ∙ text-by name (slice_get l.rows l.place) has

order-by : (input : Bool) (mode : Mode) (named : Option Order) (b : Browser) (e : Event) (o : Order) → input ≡ true → mode ≡ Sorting
    → event_order e ≡ Some o
    → (if input then record (browsed mode e b) { is_quiet = false } else browser_at_told_size (size_in e) b)
    ≡ record b { order = o; mode = Listing; is_quiet = false }
order-by input mode named b e o typed at is =
    rw typed (rw at (ap (λ order. record (order_taken order b) { is_quiet = false }) is))

pub order-kept : (b : Browser) (e : Event) (o : Order) → b.mode ≡ Sorting → is_input e ≡ true → event_order e ≡ Some o
    → browsed_after b (message.Event e) ≡ record b { order = o; mode = Listing; is_quiet = false }
unfolding browsed_after
order-kept b e o at typed is = order-by (is_input e) b.mode (event_order e) b e o typed at is
