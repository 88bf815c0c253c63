-- The folder above another one.
use Rattle.std.specs.Prelude.{◌≡◌, ℕ, List, IsTrue}
use Rattle.ratatui_files.specs.Paths.{is_name, path_in}
use Rattle.files.specs.declared.hands.Wanted.{Wanted}

-- a folder is in the one that is wanted, by the name that is to be selected
pub record IsAbove (folder : List ℕ) (w : Wanted) : Type 0 where
  pub is : folder ≡ path_in w.folder w.name
  pub named : IsTrue (is_name w.name)
  pub other : w.other ≡ 0
