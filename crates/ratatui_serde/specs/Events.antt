-- What a setting sends to a serializer, and what is read of a text.
use Rattle.std.specs.Prelude.{◌≡◌, ◌++◌, ⊤, ℕ, List, Option, Some, None}
use Rattle.serde.specs.Event.{Event, text}
use Rattle.serde.specs.Steps.{Gives}
use Rattle.serde.specs.declared.deserializer.Deserializer.{Deserializer}

-- if the events so far are known, these come after them
abbrev pub SendsAll : List Event → Option (List Event) → Option (List Event) → Type 0
SendsAll es None new = ⊤
SendsAll es (Some was) new = new ≡ Some (was ++ es)

-- one text was read, and this holds of it
abbrev pub ReadsText : {F E M : Type 0} → (F → List ℕ → Event → F → Type 0) → (List ℕ → Type 0)
    → Deserializer F E M → Deserializer F E M → Type 0
ReadsText gives P old new = (word : List ℕ) × Gives gives old (text word) new × P word
