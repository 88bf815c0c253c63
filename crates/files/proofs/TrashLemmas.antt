-- Texts that are made by appending, and plans.
use Rattle.std.proofs.Common.{◌≡◌, List, ℕ, ◌++◌, ap, sym, ◌∙◌, append_assoc, Result, Ok, Err, OnOk, if◌then◌else◌, refl, codes}
use Rattle.std.proofs.Common.{Bool, true, false, Option, Some, None}
use Rattle.std.specs.Result.{is_ok}
use Rattle.jiff_core.specs.declared.civil.datetime.DateTime.{DateTime}
use Rattle.ratatui_files.specs.Paths.{path_in}
use Rattle.ratatui_files.specs.declared.command.Command.{Command}
use Rattle.ratatui_files.specs.declared.command.Command.TheVariants.{Write, Rename, Remove}
use Rattle.files.specs.declared.browser.Browser.{Browser}
use Rattle.files.specs.declared.browser.Mode.{Mode}
use Rattle.files.specs.declared.browser.Mode.TheVariants.{Looking, Listing, Entering, Leaving, Trashing, Removing}
use Rattle.files.specs.declared.browser.Mode.TheVariants.{Renaming, Making, Over, Pasting, Sorting, Seeking}
use Rattle.files.specs.declared.browser.Mode.TheVariants.{Going, Visiting, Locating, Completing}
use Rattle.files.specs.declared.browser.Mode.TheVariants.{CountingToTrash, CountingToRemove}
use Rattle.files.specs.declared.browser.Mode.TheVariants.{Returning, Undoing, Helping, Chosen}
use Rattle.files.specs.declared.trash.Discard.{Discard}
use Rattle.text_field.specs.Field.{FieldData}
use Rattle.files.specs.Texts.{prompt, make_prompt}
use Rattle.files.specs.Trash.{numbered, info_name, info_text, discard_plan}

-- two texts were appended
pub appended : {A E : Type 0} (r : Result A E) (new mid old one two : List ℕ) → mid ≡ old ++ one → OnOk r (new ≡ mid ++ two)
    → OnOk r (new ≡ old ++ (one ++ two))
appended (Ok v) new mid old one two first last = last ∙ ap (λ t. t ++ two) first ∙ append_assoc old one two
appended (Err e) new mid old one two first last = tt

-- the same, where the second is appended by the library
pub appended-str : {A E : Type 0} (r : Result A E) (new mid old one two : List ℕ) → mid ≡ old ++ one
    → new ≡ (if is_ok r then mid ++ two else mid) → OnOk r (new ≡ old ++ (one ++ two))
appended-str (Ok v) new mid old one two first last = last ∙ ap (λ t. t ++ two) first ∙ append_assoc old one two
appended-str (Err e) new mid old one two first last = tt

-- a text was appended that is another one
pub appended-one : {A E : Type 0} (r : Result A E) (new old one two : List ℕ) → one ≡ two
    → new ≡ (if is_ok r then old ++ one else old) → OnOk r (new ≡ old ++ two)
appended-one (Ok v) new old one two same last = last ∙ ap (λ t. old ++ t) same
appended-one (Err e) new old one two same last = tt

-- what stands before a name that is typed for something new
pub prompt-other : (mode : Mode) (typed : FieldData) (b : Browser) → (mode ≡ Renaming → ⊥) → (mode ≡ Pasting → ⊥)
    → (mode ≡ Seeking → ⊥) → (mode ≡ Going → ⊥) → prompt mode typed b ≡ make_prompt typed
prompt-other Looking typed b one two three four = refl
prompt-other Listing typed b one two three four = refl
prompt-other Entering typed b one two three four = refl
prompt-other Leaving typed b one two three four = refl
prompt-other Trashing typed b one two three four = refl
prompt-other Removing typed b one two three four = refl
prompt-other Renaming typed b one two three four = absurd (one refl)
prompt-other Making typed b one two three four = refl
prompt-other Pasting typed b one two three four = absurd (two refl)
prompt-other Sorting typed b one two three four = refl
prompt-other Seeking typed b one two three four = absurd (three refl)
prompt-other Going typed b one two three four = absurd (four refl)
prompt-other Visiting typed b one two three four = refl
prompt-other Locating typed b one two three four = refl
prompt-other Completing typed b one two three four = refl
prompt-other CountingToTrash typed b one two three four = refl
prompt-other CountingToRemove typed b one two three four = refl
prompt-other Over typed b one two three four = refl
prompt-other Returning typed b one two three four = refl
prompt-other Undoing typed b one two three four = refl
prompt-other Helping typed b one two three four = refl
prompt-other Chosen typed b one two three four = refl

-- the path of a name, if it is one
pub entry-by : (named : Bool) (path got : List ℕ) (o : Option (List ℕ)) → o ≡ (if named then Some path else None) → o ≡ Some got
    → got ≡ path
entry-by true path got o one two = let same : Some got ≡ Some path = sym two ∙ one in cc
entry-by false path got o one two = let same : Some got ≡ None = sym two ∙ one in absurd (cc)

-- a plan, from its parts
pub planned-as : (d : Discard) (n : ℕ) (date : DateTime) (info text to from undo : List ℕ) → info ≡ path_in d.info (info_name n d.name)
    → text ≡ info_text d.from date → to ≡ path_in d.files (numbered n d.name) → from ≡ d.from → undo ≡ info
    → record { write = Write info text; put = Rename from to; undo = Remove undo } ≡ discard_plan d n date
planned-as d n date info text to from undo a b c e f =
    let writes : Write info text ≡ Write (path_in d.info (info_name n d.name)) (info_text d.from date) =
    ap (λ x. Write x text) a ∙ ap (λ x. Write (path_in d.info (info_name n d.name)) x) b in
    let puts : Rename from to ≡ Rename d.from (path_in d.files (numbered n d.name)) =
    ap (λ x. Rename x to) e ∙ ap (λ x. Rename d.from x) c in
    let undoes : Remove undo ≡ Remove (path_in d.info (info_name n d.name)) = ap Remove (f ∙ a) in
    ap (λ (x : Command). record { write = x; put = Rename from to; undo = Remove undo }) writes
    ∙ ap (λ (x : Command). record { write = (discard_plan d n date).write; put = x; undo = Remove undo }) puts
    ∙ ap (λ (x : Command). record { write = (discard_plan d n date).write; put = (discard_plan d n date).put; undo = x }) undoes
