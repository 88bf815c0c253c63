-- What a text area takes of a text.
use Rattle.std.specs.Prelude.{ℕ, ◌==◌, ◌&&◌, ◌||◌, Bool, false, not, if◌then◌else◌, List, [], ◌∷◌, ◌++◌}
use Rattle.std.specs.Prelude.{filter}
use Rattle.std.specs.Prelude.{chars, encode_utf8_all}
use Rattle.std.specs.Char.{is_control}

-- what becomes of a character, after a carriage return or not: a carriage return is a line feed, together
-- with the
-- line feed right after it
abbrev pub unified_char : Bool → ℕ → List ℕ
unified_char after c = if c == 13 then 10 ∷ [] else if after && (c == 10) then [] else c ∷ []

-- the same of characters one after the other
abbrev pub unified : Bool → List ℕ → List ℕ
unified after [] = []
unified after (c ∷ cs) = unified_char after c ++ unified (c == 13) cs

-- a text with a line feed for each line break
abbrev pub loaded_text : List ℕ → List ℕ
loaded_text text = encode_utf8_all (unified false (chars text))

-- a character that may be typed: no control character but a line feed or a tab
abbrev pub may_be_typed : ℕ → Bool
may_be_typed c = not (is_control c) || ((c == 10) || (c == 9))

-- what is typed of a text: its characters that may be, with a line feed for each line break
abbrev pub written_text : List ℕ → List ℕ
written_text text = encode_utf8_all (filter may_be_typed (chars (loaded_text text)))
