-- What questions name.
use Rattle.std.proofs.Common.{◌≡◌, ◌⊎◌, inl, inr, Bool, true, false, ℕ, List, [], ◌++◌, codes, Option, Some, None, if◌then◌else◌, refl, sym, ap, ◌∙◌, arith}
use Rattle.std.specs.Prelude.{slice_get, option_map, string_bytes, get_or, is_some}
use Rattle.std.specs.Option.{option_and_then, option_map_or, option_or, unwrap_or}
use Rattle.files.specs.Moves.{move_by, move_made}
use Rattle.text_field.specs.Field.{field_text}
use Rattle.ratatui_files.specs.Paths.{is_name, path_in}
use Rattle.ratatui_files.specs.declared.command.Command.{Command}
use Rattle.ratatui_files.specs.declared.command.Command.TheVariants.{Rename, Copy, Remove, RemoveFolder, MakeFile, MakeFolder}
use Rattle.files.specs.declared.list.Row.{Row}
use Rattle.files.specs.declared.browser.Browser.{Browser}
use Rattle.files.specs.declared.browser.Mode.{Mode}
use Rattle.files.specs.declared.browser.Mode.TheVariants.{Looking, Listing, Entering, Leaving, Trashing, Removing}
use Rattle.files.specs.declared.browser.Mode.TheVariants.{Renaming, Making, Over, Pasting, Sorting, Seeking}
use Rattle.files.specs.declared.browser.Mode.TheVariants.{Going, Visiting, Locating, Completing}
use Rattle.files.specs.declared.browser.Mode.TheVariants.{CountingToTrash, CountingToRemove}
use Rattle.files.specs.declared.browser.Mode.TheVariants.{Returning, Undoing, Helping, Chosen}
use Rattle.files.specs.Names.{shown_name}
use Rattle.files.specs.Texts.{shown_row, selected_text, selected_shown, status_in, folder_typed}
use Rattle.files.specs.Questions.{removal_by, removal_in, paste_by, paste_of, make_by, change_in}
use Rattle.files.specs.Counting.{row_count_told, count_told}
use Rattle.files.specs.declared.trash.Discard.{Discard}
use Rattle.files.specs.Texts.{trash_shown, status_told}
use Rattle.files.specs.Trash.{discard_of, discard_to, discard_in}
use Rattle.files.specs.declared.notes.Noted.{Noted}
use Rattle.files.specs.Texts.{noted_shown, verb_if, paste_verb}
use Rattle.files.specs.declared.undo.Moved.{Moved}
use Rattle.files.specs.Questions.{way_back}
use Rattle.files.specs.Texts.{now_shown, was_shown, place_shown}
use Rattle.files.specs.Laws.{AsksToRemove, AsksToRename, AsksToMake, AsksToTrash, AsksToPaste, AsksToUndo}

-- the path of a removal is that of the name
removed-by : (leaf named : Bool) (path other : List ℕ)
    → (option_map (removal_by leaf) (if named then Some path else None) ≡ Some (Remove other))
    → other ≡ path
removed-by true true path other is = cc
removed-by false true path other is = absurd (cc)
removed-by leaf false path other is = absurd (cc)

emptied-by : (leaf named : Bool) (path other : List ℕ)
    → (option_map (removal_by leaf) (if named then Some path else None) ≡ Some (RemoveFolder other))
    → other ≡ path
emptied-by true true path other is = absurd (cc)
emptied-by false true path other is = cc
emptied-by leaf false path other is = absurd (cc)

file-of : (b : Browser) (o : Option Row) (path : List ℕ) → option_and_then (removal_in b) o ≡ Some (Remove path)
    → (row : Row) × (o ≡ Some row) × (path ≡ path_in b.folder (string_bytes row.name))
file-of b None path is = absurd (cc)
file-of b (Some row) path is =
    (row, refl, removed-by row.is_leaf (is_name (string_bytes row.name)) (path_in b.folder (string_bytes row.name)) path is)

folder-of : (b : Browser) (o : Option Row) (path : List ℕ) → option_and_then (removal_in b) o ≡ Some (RemoveFolder path)
    → (row : Row) × (o ≡ Some row) × (path ≡ path_in b.folder (string_bytes row.name))
folder-of b None path is = absurd (cc)
folder-of b (Some row) path is =
    (row, refl, emptied-by row.is_leaf (is_name (string_bytes row.name)) (path_in b.folder (string_bytes row.name)) path is)

-- a rename leads from a name to a name
renamed-by : (one two : Bool) (a b from to : List ℕ)
    → option_and_then (λ x. option_map (Rename x) (if two then Some b else None)) (if one then Some a else None)
    ≡ Some (Rename from to) → (from ≡ a) × (to ≡ b) × (one ≡ true)
renamed-by true true a b from to is = (cc, cc, refl)
renamed-by true false a b from to is = absurd (cc)
renamed-by false two a b from to is = absurd (cc)

-- what has a name is an entry
row-of : (b : Browser) (o : Option Row) → is_name (option_map_or (λ row. string_bytes row.name) o []) ≡ true
    → (row : Row) × (o ≡ Some row)
row-of b None is = absurd (cc)
row-of b (Some row) is = (row, refl)

shown-of : (b : Browser) (row : Row) → slice_get b.list b.selected ≡ Some row → selected_shown b ≡ shown_row row
shown-of b row is = ap (λ o. option_map_or shown_row o []) is

count-of : (b : Browser) (row : Row) → slice_get b.list b.selected ≡ Some row → count_told b ≡ row_count_told row b.count
count-of b row is = ap (λ o. option_map_or (λ r. row_count_told r b.count) o []) is

text-of : (b : Browser) (row : Row) → slice_get b.list b.selected ≡ Some row → selected_text b ≡ string_bytes row.name
text-of b row is = ap (λ o. option_map_or (λ r. string_bytes r.name) o []) is

-- neither a rename nor a new folder is a removal
rename-not : (one two : Bool) (a b path : List ℕ)
    → option_and_then (λ x. option_map (Rename x) (if two then Some b else None)) (if one then Some a else None)
    ≡ Some (Remove path) → ⊥
rename-not true true a b path is = absurd (cc)
rename-not true false a b path is = absurd (cc)
rename-not false two a b path is = absurd (cc)

rename-no-folder : (one two : Bool) (a b path : List ℕ)
    → option_and_then (λ x. option_map (Rename x) (if two then Some b else None)) (if one then Some a else None)
    ≡ Some (RemoveFolder path) → ⊥
rename-no-folder true true a b path is = absurd (cc)
rename-no-folder true false a b path is = absurd (cc)
rename-no-folder false two a b path is = absurd (cc)

make-not : (one : Bool) (a path : List ℕ) → option_map MakeFolder (if one then Some a else None) ≡ Some (Remove path) → ⊥
make-not true a path is = absurd (cc)
make-not false a path is = absurd (cc)

make-no-folder : (one : Bool) (a path : List ℕ) → option_map MakeFolder (if one then Some a else None) ≡ Some (RemoveFolder path) → ⊥
make-no-folder true a path is = absurd (cc)
make-no-folder false a path is = absurd (cc)

make-no-rename : (one : Bool) (a from to : List ℕ) → option_map MakeFolder (if one then Some a else None) ≡ Some (Rename from to) → ⊥
make-no-rename true a from to is = absurd (cc)
make-no-rename false a from to is = absurd (cc)

file-not : (one : Bool) (a path : List ℕ) → option_map MakeFile (if one then Some a else None) ≡ Some (Remove path) → ⊥
file-not true a path is = absurd (cc)
file-not false a path is = absurd (cc)

file-no-folder : (one : Bool) (a path : List ℕ)
    → option_map MakeFile (if one then Some a else None) ≡ Some (RemoveFolder path) → ⊥
file-no-folder true a path is = absurd (cc)
file-no-folder false a path is = absurd (cc)

file-no-rename : (one : Bool) (a from to : List ℕ)
    → option_map MakeFile (if one then Some a else None) ≡ Some (Rename from to) → ⊥
file-no-rename true a from to is = absurd (cc)
file-no-rename false a from to is = absurd (cc)

file-no-copy : (one : Bool) (a from to : List ℕ) → option_map MakeFile (if one then Some a else None) ≡ Some (Copy from to) → ⊥
file-no-copy true a from to is = absurd (cc)
file-no-copy false a from to is = absurd (cc)

-- what is made is neither removed nor renamed nor copied
made-not : (b : Browser) (text : List ℕ) (o : Option (List ℕ)) (path : List ℕ) → make_by b text o ≡ Some (Remove path) → ⊥
made-not b text (Some name) path is = make-not (is_name name) _ path is
made-not b text None path is = file-not (is_name text) _ path is

made-no-folder : (b : Browser) (text : List ℕ) (o : Option (List ℕ)) (path : List ℕ)
    → make_by b text o ≡ Some (RemoveFolder path) → ⊥
made-no-folder b text (Some name) path is = make-no-folder (is_name name) _ path is
made-no-folder b text None path is = file-no-folder (is_name text) _ path is

made-no-rename : (b : Browser) (text : List ℕ) (o : Option (List ℕ)) (from to : List ℕ)
    → make_by b text o ≡ Some (Rename from to) → ⊥
made-no-rename b text (Some name) from to is = make-no-rename (is_name name) _ from to is
made-no-rename b text None from to is = file-no-rename (is_name text) _ from to is

-- what is made has the name that is typed; a folder's stands before a slash
file-made : (one : Bool) (a path : List ℕ) → option_map MakeFile (if one then Some a else None) ≡ Some (MakeFile path) → path ≡ a
file-made true a path is = cc
file-made false a path is = absurd (cc)

folder-made : (one : Bool) (a path : List ℕ)
    → option_map MakeFolder (if one then Some a else None) ≡ Some (MakeFolder path) → path ≡ a
folder-made true a path is = cc
folder-made false a path is = absurd (cc)

file-or-folder : (one : Bool) (a path : List ℕ) → option_map MakeFile (if one then Some a else None) ≡ Some (MakeFolder path) → ⊥
file-or-folder true a path is = absurd (cc)
file-or-folder false a path is = absurd (cc)

folder-or-file : (one : Bool) (a path : List ℕ) → option_map MakeFolder (if one then Some a else None) ≡ Some (MakeFile path) → ⊥
folder-or-file true a path is = absurd (cc)
folder-or-file false a path is = absurd (cc)

file-typed : (b : Browser) (text : List ℕ) (o : Option (List ℕ)) (path : List ℕ) → make_by b text o ≡ Some (MakeFile path)
    → (is_some o ≡ false) × (path ≡ path_in b.folder (unwrap_or o text))
file-typed b text (Some name) path is = absurd (folder-or-file (is_name name) _ path is)
file-typed b text None path is = (refl, file-made (is_name text) _ path is)

folder-named : (b : Browser) (text : List ℕ) (o : Option (List ℕ)) (path : List ℕ) → make_by b text o ≡ Some (MakeFolder path)
    → (is_some o ≡ true) × (path ≡ path_in b.folder (unwrap_or o text))
folder-named b text (Some name) path is = (refl, folder-made (is_name name) _ path is)
folder-named b text None path is = absurd (file-or-folder (is_name text) _ path is)

abbrev asks-by : Bool → Browser → List ℕ
asks-by folder b =
    (if folder then codes "make the folder \"" else codes "make the file \"") ++ shown_name (field_text b.typed) ++ codes "\""

pub asks-make-file : (b : Browser) (path : List ℕ) → b.mode ≡ Making → change_in Making b ≡ Some (MakeFile path)
    → AsksToMake (codes "make the file \"") b path
asks-make-file b path at is =
    let it = file-typed b (field_text b.typed) (folder_typed (field_text b.typed)) path is in
    record { path_is = it.1; asks = ap (λ m. status_in m b) at ∙ ap (λ folder. asks-by folder b) it.0 }

pub asks-make-folder : (b : Browser) (path : List ℕ) → b.mode ≡ Making → change_in Making b ≡ Some (MakeFolder path)
    → AsksToMake (codes "make the folder \"") b path
asks-make-folder b path at is =
    let it = folder-named b (field_text b.typed) (folder_typed (field_text b.typed)) path is in
    record { path_is = it.1; asks = ap (λ m. status_in m b) at ∙ ap (λ folder. asks-by folder b) it.0 }

none-some : (c : Command) → None ≡ Some c → ⊥
none-some c is = absurd (cc)

-- what is pasted is noted
noted-of : (b : Browser) (o : Option Noted) (c : Command) → option_and_then (paste_of b) o ≡ Some c
    → (noted : Noted) × (o ≡ Some noted) × (paste_of b noted ≡ Some c)
noted-of b None c is = absurd (cc)
noted-of b (Some noted) c is = (noted, refl, is)

paste-not : (moved named : Bool) (a b path : List ℕ) → option_map (paste_by moved a) (if named then Some b else None) ≡ Some (Remove path) → ⊥
paste-not true true a b path is = absurd (cc)
paste-not false true a b path is = absurd (cc)
paste-not moved false a b path is = absurd (cc)

paste-not-folder : (moved named : Bool) (a b path : List ℕ)
    → option_map (paste_by moved a) (if named then Some b else None) ≡ Some (RemoveFolder path) → ⊥
paste-not-folder true true a b path is = absurd (cc)
paste-not-folder false true a b path is = absurd (cc)
paste-not-folder moved false a b path is = absurd (cc)

paste-no-file : (b : Browser) (o : Option Noted) (path : List ℕ) → option_and_then (paste_of b) o ≡ Some (Remove path) → ⊥
paste-no-file b None path is = absurd (cc)
paste-no-file b (Some noted) path is = paste-not noted.is_moved (is_name (field_text b.typed)) noted.path _ path is

paste-no-folder : (b : Browser) (o : Option Noted) (path : List ℕ) → option_and_then (paste_of b) o ≡ Some (RemoveFolder path) → ⊥
paste-no-folder b None path is = absurd (cc)
paste-no-folder b (Some noted) path is = paste-not-folder noted.is_moved (is_name (field_text b.typed)) noted.path _ path is

-- a copy leads from what was noted to a name, and so does a move
copied-by : (moved named : Bool) (a b from to : List ℕ) → option_map (paste_by moved a) (if named then Some b else None) ≡ Some (Copy from to)
    → (moved ≡ false) × (from ≡ a) × (to ≡ b)
copied-by true true a b from to is = absurd (cc)
copied-by false true a b from to is = (refl, cc, cc)
copied-by moved false a b from to is = absurd (cc)

moved-by : (moved named : Bool) (a b from to : List ℕ) → option_map (paste_by moved a) (if named then Some b else None) ≡ Some (Rename from to)
    → (moved ≡ true) × (from ≡ a) × (to ≡ b)
moved-by true true a b from to is = (refl, cc, cc)
moved-by false true a b from to is = absurd (cc)
moved-by moved false a b from to is = absurd (cc)

-- the question about what is noted
pasted-asks : (b : Browser) (noted : Noted) (moved : Bool) (from : List ℕ) → b.noted ≡ Some noted → noted.is_moved ≡ moved → from ≡ noted.path
    → status_in Pasting b ≡ (verb_if moved ++ codes " \"" ++ (codes "/" ++ shown_name from) ++ codes "\" to \"")
    ++ shown_name (field_text b.typed) ++ codes "\""
pasted-asks b noted moved from is how where_is =
    let name = shown_name (field_text b.typed) in
    ap (λ o. (paste_verb o ++ codes " \"" ++ noted_shown o ++ codes "\" to \"") ++ name ++ codes "\"") is
    ∙ ap (λ m. (verb_if m ++ codes " \"" ++ (codes "/" ++ shown_name noted.path) ++ codes "\" to \"") ++ name ++ codes "\"") how
    ∙ ap (λ p. (verb_if moved ++ codes " \"" ++ (codes "/" ++ shown_name p) ++ codes "\" to \"") ++ name ++ codes "\"") (sym where_is)

removal-no-copy-by : (leaf named : Bool) (path from to : List ℕ)
    → option_map (removal_by leaf) (if named then Some path else None) ≡ Some (Copy from to) → ⊥
removal-no-copy-by true true path from to is = absurd (cc)
removal-no-copy-by false true path from to is = absurd (cc)
removal-no-copy-by leaf false path from to is = absurd (cc)

removal-no-copy : (b : Browser) (o : Option Row) (from to : List ℕ) → option_and_then (removal_in b) o ≡ Some (Copy from to) → ⊥
removal-no-copy b None from to is = absurd (cc)
removal-no-copy b (Some row) from to is = removal-no-copy-by row.is_leaf (is_name (string_bytes row.name)) _ from to is

rename-no-copy : (one two : Bool) (a b from to : List ℕ)
    → option_and_then (λ x. option_map (Rename x) (if two then Some b else None)) (if one then Some a else None)
    ≡ Some (Copy from to) → ⊥
rename-no-copy true true a b from to is = absurd (cc)
rename-no-copy true false a b from to is = absurd (cc)
rename-no-copy false two a b from to is = absurd (cc)

make-no-copy : (one : Bool) (a from to : List ℕ) → option_map MakeFolder (if one then Some a else None) ≡ Some (Copy from to) → ⊥
make-no-copy true a from to is = absurd (cc)
make-no-copy false a from to is = absurd (cc)

made-no-copy : (b : Browser) (text : List ℕ) (o : Option (List ℕ)) (from to : List ℕ) → make_by b text o ≡ Some (Copy from to) → ⊥
made-no-copy b text (Some name) from to is = make-no-copy (is_name name) _ from to is
made-no-copy b text None from to is = file-no-copy (is_name text) _ from to is

-- what is moved back is renamed
back-no-file : (o : Option Moved) (path : List ℕ) → option_map way_back o ≡ Some (Remove path) → ⊥
back-no-file None path is = absurd (cc)
back-no-file (Some moved) path is = absurd (cc)

back-no-folder : (o : Option Moved) (path : List ℕ) → option_map way_back o ≡ Some (RemoveFolder path) → ⊥
back-no-folder None path is = absurd (cc)
back-no-folder (Some moved) path is = absurd (cc)

back-no-copy : (o : Option Moved) (from to : List ℕ) → option_map way_back o ≡ Some (Copy from to) → ⊥
back-no-copy None from to is = absurd (cc)
back-no-copy (Some moved) from to is = absurd (cc)

back-of : (o : Option Moved) (from to : List ℕ) → option_map way_back o ≡ Some (Rename from to)
    → (moved : Moved) × (o ≡ Some moved) × (moved.to ≡ from) × (moved.from ≡ to)
back-of None from to is = absurd (cc)
back-of (Some moved) from to is = (moved, refl, cc, cc)

-- the question about it
back-asks : (b : Browser) (moved : Moved) (from to : List ℕ) → b.last_move ≡ Some moved → moved.to ≡ from → moved.from ≡ to
    → status_in Undoing b
    ≡ codes "move \"" ++ (codes "/" ++ shown_name from) ++ codes "\" back to \"" ++ (codes "/" ++ shown_name to) ++ codes "\"? y/n"
back-asks b moved from to is one two =
    ap (λ o. codes "move \"" ++ now_shown o ++ codes "\" back to \"" ++ was_shown o ++ codes "\"? y/n") is
    ∙ ap (λ p. codes "move \"" ++ place_shown p ++ codes "\" back to \"" ++ place_shown moved.from ++ codes "\"? y/n") one
    ∙ ap (λ p. codes "move \"" ++ place_shown from ++ codes "\" back to \"" ++ place_shown p ++ codes "\"? y/n") two

asks-of : (b : Browser) (row : Row) → slice_get b.list b.selected ≡ Some row
    → status_in Removing b
    ≡ codes "remove \"" ++ shown_row row ++ codes "\"" ++ row_count_told row b.count ++ codes " for good? y/n"
asks-of b row is =
    ap (λ shown. codes "remove \"" ++ shown ++ codes "\"" ++ count_told b ++ codes " for good? y/n") (shown-of b row is)
    ∙ ap (λ told. codes "remove \"" ++ shown_row row ++ codes "\"" ++ told ++ codes " for good? y/n") (count-of b row is)

pub asks-file : (mode : Mode) (b : Browser) (path : List ℕ) → b.mode ≡ mode → change_in mode b ≡ Some (Remove path)
    → AsksToRemove b path
asks-file Removing b path at is =
    let it = file-of b (slice_get b.list b.selected) path is in
    record { row = it.0; path_is = it.2; asks = ap (λ m. status_in m b) at ∙ asks-of b it.0 it.1 }
asks-file Renaming b path at is = absurd (rename-not (is_name (selected_text b)) (is_name (field_text b.typed)) _ _ path is)
asks-file Making b path at is = absurd (made-not b (field_text b.typed) (folder_typed (field_text b.typed)) path is)
asks-file Pasting b path at is = absurd (paste-no-file b b.noted path is)
asks-file Undoing b path at is = absurd (back-no-file b.last_move path is)
asks-file Returning b path at is = absurd (none-some _ is)
asks-file Helping b path at is = absurd (none-some _ is)
asks-file Chosen b path at is = absurd (none-some _ is)
asks-file Sorting b path at is = absurd (none-some _ is)
asks-file Seeking b path at is = absurd (none-some _ is)
asks-file Going b path at is = absurd (none-some _ is)
asks-file Visiting b path at is = absurd (none-some _ is)
asks-file Locating b path at is = absurd (none-some _ is)
asks-file Completing b path at is = absurd (none-some _ is)
asks-file CountingToTrash b path at is = absurd (none-some _ is)
asks-file CountingToRemove b path at is = absurd (none-some _ is)
asks-file Trashing b path at is = absurd (none-some _ is)
asks-file Looking b path at is = absurd (none-some _ is)
asks-file Listing b path at is = absurd (none-some _ is)
asks-file Entering b path at is = absurd (none-some _ is)
asks-file Leaving b path at is = absurd (none-some _ is)
asks-file Over b path at is = absurd (none-some _ is)

pub asks-folder : (mode : Mode) (b : Browser) (path : List ℕ) → b.mode ≡ mode → change_in mode b ≡ Some (RemoveFolder path)
    → AsksToRemove b path
asks-folder Removing b path at is =
    let it = folder-of b (slice_get b.list b.selected) path is in
    record { row = it.0; path_is = it.2; asks = ap (λ m. status_in m b) at ∙ asks-of b it.0 it.1 }
asks-folder Renaming b path at is =
    absurd (rename-no-folder (is_name (selected_text b)) (is_name (field_text b.typed)) _ _ path is)
asks-folder Making b path at is = absurd (made-no-folder b (field_text b.typed) (folder_typed (field_text b.typed)) path is)
asks-folder Pasting b path at is = absurd (paste-no-folder b b.noted path is)
asks-folder Undoing b path at is = absurd (back-no-folder b.last_move path is)
asks-folder Returning b path at is = absurd (none-some _ is)
asks-folder Helping b path at is = absurd (none-some _ is)
asks-folder Chosen b path at is = absurd (none-some _ is)
asks-folder Sorting b path at is = absurd (none-some _ is)
asks-folder Seeking b path at is = absurd (none-some _ is)
asks-folder Going b path at is = absurd (none-some _ is)
asks-folder Visiting b path at is = absurd (none-some _ is)
asks-folder Locating b path at is = absurd (none-some _ is)
asks-folder Completing b path at is = absurd (none-some _ is)
asks-folder CountingToTrash b path at is = absurd (none-some _ is)
asks-folder CountingToRemove b path at is = absurd (none-some _ is)
asks-folder Trashing b path at is = absurd (none-some _ is)
asks-folder Looking b path at is = absurd (none-some _ is)
asks-folder Listing b path at is = absurd (none-some _ is)
asks-folder Entering b path at is = absurd (none-some _ is)
asks-folder Leaving b path at is = absurd (none-some _ is)
asks-folder Over b path at is = absurd (none-some _ is)

removal-by : (leaf named : Bool) (path from to : List ℕ)
    → option_map (removal_by leaf) (if named then Some path else None) ≡ Some (Rename from to) → ⊥
removal-by true true path from to is = absurd (cc)
removal-by false true path from to is = absurd (cc)
removal-by leaf false path from to is = absurd (cc)

removal-no-rename : (b : Browser) (o : Option Row) (from to : List ℕ) → option_and_then (removal_in b) o ≡ Some (Rename from to) → ⊥
removal-no-rename b None from to is = absurd (cc)
removal-no-rename b (Some row) from to is = removal-by row.is_leaf (is_name (string_bytes row.name)) _ from to is

pub asks-rename : (mode : Mode) (b : Browser) (from to : List ℕ) → b.mode ≡ mode → change_in mode b ≡ Some (Rename from to)
    → AsksToRename b from to ⊎ AsksToPaste (codes "move") b from to ⊎ AsksToUndo b from to
asks-rename Renaming b from to at is =
    let it = renamed-by (is_name (selected_text b)) (is_name (field_text b.typed)) _ _ from to is in
    let entry = row-of b (slice_get b.list b.selected) it.2 in
    inl (record {
      row = entry.0;
      name = field_text b.typed;
      from_is = it.0 ∙ ap (path_in b.folder) (text-of b entry.0 entry.1);
      to_is = it.1;
      asks = ap (λ m. status_in m b) at
          ∙ ap (λ shown. (codes "rename \"" ++ shown ++ codes "\" to \"") ++ shown_name (field_text b.typed) ++ codes "\"")
          (shown-of b entry.0 entry.1);
    })
asks-rename Pasting b from to at is =
    let it = noted-of b b.noted (Rename from to) is in
    let made = moved-by it.0.is_moved (is_name (field_text b.typed)) it.0.path (path_in b.folder (field_text b.typed)) from to it.2 in
    inr (inl (record {
      name = field_text b.typed;
      to_is = made.2;
      asks = ap (λ m. status_in m b) at ∙ pasted-asks b it.0 true from it.1 made.0 made.1;
    }))
asks-rename Undoing b from to at is =
    let it = back-of b.last_move from to is in
    inr (inr (record { asks = ap (λ m. status_in m b) at ∙ back-asks b it.0 from to it.1 it.2 it.3 }))
asks-rename Returning b from to at is = absurd (none-some _ is)
asks-rename Helping b from to at is = absurd (none-some _ is)
asks-rename Chosen b from to at is = absurd (none-some _ is)
asks-rename Removing b from to at is = absurd (removal-no-rename b (slice_get b.list b.selected) from to is)
asks-rename Making b from to at is = absurd (made-no-rename b (field_text b.typed) (folder_typed (field_text b.typed)) from to is)
asks-rename Sorting b from to at is = absurd (none-some _ is)
asks-rename Seeking b from to at is = absurd (none-some _ is)
asks-rename Going b from to at is = absurd (none-some _ is)
asks-rename Visiting b from to at is = absurd (none-some _ is)
asks-rename Locating b from to at is = absurd (none-some _ is)
asks-rename Completing b from to at is = absurd (none-some _ is)
asks-rename CountingToTrash b from to at is = absurd (none-some _ is)
asks-rename CountingToRemove b from to at is = absurd (none-some _ is)
asks-rename Trashing b from to at is = absurd (none-some _ is)
asks-rename Looking b from to at is = absurd (none-some _ is)
asks-rename Listing b from to at is = absurd (none-some _ is)
asks-rename Entering b from to at is = absurd (none-some _ is)
asks-rename Leaving b from to at is = absurd (none-some _ is)
asks-rename Over b from to at is = absurd (none-some _ is)

pub asks-copy : (mode : Mode) (b : Browser) (from to : List ℕ) → b.mode ≡ mode → change_in mode b ≡ Some (Copy from to)
    → AsksToPaste (codes "copy") b from to
asks-copy Pasting b from to at is =
    let it = noted-of b b.noted (Copy from to) is in
    let made = copied-by it.0.is_moved (is_name (field_text b.typed)) it.0.path (path_in b.folder (field_text b.typed)) from to it.2 in
    record {
      name = field_text b.typed;
      to_is = made.2;
      asks = ap (λ m. status_in m b) at ∙ pasted-asks b it.0 false from it.1 made.0 made.1;
    }
asks-copy Removing b from to at is = absurd (removal-no-copy b (slice_get b.list b.selected) from to is)
asks-copy Renaming b from to at is =
    absurd (rename-no-copy (is_name (selected_text b)) (is_name (field_text b.typed)) _ _ from to is)
asks-copy Making b from to at is = absurd (made-no-copy b (field_text b.typed) (folder_typed (field_text b.typed)) from to is)
asks-copy Undoing b from to at is = absurd (back-no-copy b.last_move from to is)
asks-copy Returning b from to at is = absurd (none-some _ is)
asks-copy Helping b from to at is = absurd (none-some _ is)
asks-copy Chosen b from to at is = absurd (none-some _ is)
asks-copy Trashing b from to at is = absurd (none-some _ is)
asks-copy Looking b from to at is = absurd (none-some _ is)
asks-copy Listing b from to at is = absurd (none-some _ is)
asks-copy Entering b from to at is = absurd (none-some _ is)
asks-copy Leaving b from to at is = absurd (none-some _ is)
asks-copy Sorting b from to at is = absurd (none-some _ is)
asks-copy Seeking b from to at is = absurd (none-some _ is)
asks-copy Going b from to at is = absurd (none-some _ is)
asks-copy Visiting b from to at is = absurd (none-some _ is)
asks-copy Locating b from to at is = absurd (none-some _ is)
asks-copy Completing b from to at is = absurd (none-some _ is)
asks-copy CountingToTrash b from to at is = absurd (none-some _ is)
asks-copy CountingToRemove b from to at is = absurd (none-some _ is)
asks-copy Over b from to at is = absurd (none-some _ is)

-- ---- the trash

trash-of : (o : Option (List ℕ)) (b : Browser) (d : Discard) → option_and_then (discard_to b) o ≡ Some d
    → (trash : List ℕ) × (o ≡ Some trash) × (discard_to b trash ≡ Some d)
trash-of None b d is = absurd (cc)
trash-of (Some trash) b d is = (trash, refl, is)

discard-by : (named : Bool) (x d : Discard) → (if named then Some x else None) ≡ Some d → (named ≡ true) × (d ≡ x)
discard-by true x d is = (refl, cc)
discard-by false x d is = absurd (cc)

abbrev asks-move : List ℕ → List ℕ → List ℕ → List ℕ
asks-move shown told to = codes "move \"" ++ shown ++ codes "\"" ++ told ++ codes " to \"" ++ to ++ codes "\"? y/n"

pub asks-trash : (b : Browser) (d : Discard) → b.mode ≡ Trashing → discard_in b ≡ Some d → AsksToTrash b d
asks-trash b d at is =
    let it = trash-of b.trash b d is in
    let made = discard-by (is_name (selected_text b)) (discard_of b (selected_text b) it.0) d it.2 in
    let entry = row-of b (slice_get b.list b.selected) made.0 in
    let place : d.trash ≡ it.0 = ap (λ (x : Discard). x.trash) made.1 in
    record {
      row = entry.0;
      from_is = ap (λ (x : Discard). x.from) made.1 ∙ ap (path_in b.folder) (text-of b entry.0 entry.1);
      asks = ap (λ m. status_in m b) at
          ∙ ap (λ shown. asks-move shown (count_told b) (trash_shown b.trash)) (shown-of b entry.0 entry.1)
          ∙ ap (λ told. asks-move (shown_row entry.0) told (trash_shown b.trash)) (count-of b entry.0 entry.1)
          ∙ ap (λ t. asks-move (shown_row entry.0) (row_count_told entry.0 b.count) (trash_shown t)) it.1
          ∙ ap (λ t. asks-move (shown_row entry.0) (row_count_told entry.0 b.count) (codes "/" ++ shown_name t)) (sym place);
    }

-- the two questions begin with other letters
pub verbs-differ : (b c : Browser) → b.mode ≡ Trashing → c.mode ≡ Removing → status_told b ≡ status_told c → ⊥
verbs-differ b c moves removes same =
    let texts = sym (ap (λ m. status_in m b) moves) ∙ same ∙ ap (λ m. status_in m c) removes in
    let letters : 109 ≡ 114 = ap (λ text. get_or text 0 0) texts in
    absurd (omega (arith, letters))

-- ---- what was moved

pub noted-move : (b : Browser) (from to : List ℕ) → change_in b.mode b ≡ Some (Rename from to)
    → option_or (move_made b) b.last_move ≡ Some (record { from = from; to = to })
noted-move b from to is = ap (λ o. option_or (option_and_then move_by o) b.last_move) is

pub moved-back : (b : Browser) (moved : Moved) → b.last_move ≡ Some moved → change_in Undoing b ≡ Some (Rename moved.to moved.from)
moved-back b moved is = ap (option_map way_back) is
