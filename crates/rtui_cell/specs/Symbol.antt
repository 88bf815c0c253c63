-- What a symbol reads as. A text is the list of its bytes.
use Rattle.std.specs.Prelude.{ℕ, ◌≤◌, List, [], ◌∷◌, ◌++◌, length, Option, Some, None}
use Rattle.rtui_merge.specs.{Merge.merged, declared.MergeStrategy.MergeStrategy}

-- one blank
abbrev pub blank : List ℕ
blank = 32 ∷ []

-- an unset symbol reads as one blank
abbrev pub symbol_text : Option (List ℕ) → List ℕ
symbol_text None = blank
symbol_text (Some text) = text

-- a text after a stored symbol, or in place of an unset one
abbrev pub appended : Option (List ℕ) → List ℕ → List ℕ
appended None text = text
appended (Some stored) text = stored ++ text

-- a text drawn over a stored symbol by a strategy, or in place of an unset one
abbrev pub joined : MergeStrategy → Option (List ℕ) → List ℕ → List ℕ
joined strategy None text = text
joined strategy (Some stored) text = merged strategy stored text

-- a text that a symbol holds without memory
abbrev pub IsShort : List ℕ → Type 0
IsShort text = length text ≤ 22
