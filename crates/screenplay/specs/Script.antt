-- The script grammar: what a line commands, what stands after it, and which line is the first bad one.
use Rattle.std.specs.Prelude.{◌≡◌, ℕ, ◌+◌, Bool, true, false, ◌&&◌, ◌||◌, ◌==◌, not, nat_lt, nat_le}
use Rattle.std.specs.Prelude.{zero, suc, if◌then◌else◌, List, [], ◌∷◌, ◌++◌, length, reverse, codes, chars}
use Rattle.std.specs.Prelude.{Option, Some, None, option_map, option_and_then, slice_get, encode_utf8}
use Rattle.std.specs.{Char.is_control, List.filter_map, List.list_any, Option.option_map_or, Str.bytes_eq}
use Rattle.rtui_geometry.specs.{declared.rect.Rect.Rect, declared.size.Size.Size}
use Rattle.rtui_cell.specs.Width.{text_width}
use Rattle.rtui_text.specs.Text.{LineData, raw_line, text_of}
use Rattle.rtui_viewport.specs.declared.viewport.Viewport.{Viewport}
use Rattle.rtui_viewport.specs.declared.viewport.Viewport.TheVariants.{Fullscreen, Inline, Fixed}
use Rattle.script_words.specs.Words.{first_word, after_word, parsed_number, parsed_size, size_by}
use Rattle.screenplay.specs.{declared.act.Act.Act, declared.script.Command.Command}
use Rattle.screenplay.specs.{declared.script.Script.Script}
use Rattle.screenplay.specs.declared.act.Act.TheVariants as acts
use Rattle.screenplay.specs.declared.script.Command.TheVariants.{SetStage, TakeSize, Put, AddText, Draw}
use Rattle.screenplay.specs.declared.script.Command.TheVariants.{Insert, Clear, Show}
use Rattle.screenplay.specs.declared.script.ScriptError.{ScriptError}
use Rattle.screenplay.specs.{declared.script.ScriptError.TheVariants.Line}
use Rattle.screenplay.specs.{declared.script.ScriptError.TheVariants.Memory, declared.scene.Stage.Stage}
use Rattle.screenplay.specs.declared.act.Plan.TheVariants as plans

-- the first character of a text, if it is all of it, takes one column and isn't a control character
unfoldable pub char_of : List ℕ → Option ℕ
char_of text =
    option_and_then (λ c. if (length text == length (encode_utf8 c)) && (text_width text == 1) && not
    (is_control c) then Some c else None) (slice_get (chars text) 0)

-- the first n words of a text, and what comes after them
abbrev pub fields : ℕ → List ℕ → List (List ℕ)
fields zero text = text ∷ []
fields (suc n) text = first_word text ∷ fields n (after_word text)

-- four numbers as a rectangle
abbrev pub rect_by : Option ℕ → Option ℕ → Option ℕ → Option ℕ → Option Rect
rect_by (Some x) (Some y) (Some width) (Some height) =
    Some (record { x = x; y = y; width = width; height = height })
rect_by a b c d = None

-- a place and a character as a put
abbrev pub put_by : Option ℕ → Option ℕ → Option ℕ → Option Command
put_by (Some x) (Some y) (Some c) = Some (Put x y c)
put_by a b c = None

-- a stage of a size
abbrev pub stage_with : Size → Viewport → Stage
stage_with size viewport = record { width = size.width; height = size.height; viewport = viewport }

-- a whole screen of a size
abbrev pub screen_command : Size → Command
screen_command size = SetStage (stage_with size Fullscreen)

-- at least one row
abbrev pub inline_by : Option Size → Option ℕ → Option Command
inline_by (Some size) (Some rows) =
    if nat_lt 0 rows then Some (SetStage (stage_with size (Inline rows))) else None
inline_by a b = None

-- a rectangle on the screen
abbrev pub fixed_by : Option Size → Option Rect → Option Command
fixed_by (Some size) (Some r) =
    if nat_le (r.x + r.width) size.width && nat_le (r.y + r.height) size.height then Some
    (SetStage (stage_with size (Fixed r))) else None
fixed_by a b = None

abbrev pub inline_in : List (List ℕ) → Option Command
inline_in (w ∷ h ∷ rows ∷ []) = inline_by (size_by (parsed_number w) (parsed_number h)) (parsed_number rows)
inline_in other = None

abbrev pub rect_in : List (List ℕ) → Option Rect
rect_in (x ∷ y ∷ w ∷ h ∷ []) = rect_by (parsed_number x) (parsed_number y) (parsed_number w) (parsed_number h)
rect_in other = None

abbrev pub put_in : List (List ℕ) → Option Command
put_in (x ∷ y ∷ c ∷ []) = put_by (parsed_number x) (parsed_number y) (char_of c)
put_in other = None

-- `W H N`
unfoldable pub inline_of : List ℕ → Option Command
inline_of arguments = inline_in (fields 2 arguments)

-- `x y w h`
unfoldable pub rect_of : List ℕ → Option Rect
rect_of arguments = rect_in (fields 3 arguments)

abbrev pub fixed_in : List (List ℕ) → Option Command
fixed_in (w ∷ h ∷ area ∷ []) = fixed_by (size_by (parsed_number w) (parsed_number h)) (rect_of area)
fixed_in other = None

-- `W H x y w h`
unfoldable pub fixed_of : List ℕ → Option Command
fixed_of arguments = fixed_in (fields 2 arguments)

-- `X Y C`, where C is the rest of the line
unfoldable pub put_of : List ℕ → Option Command
put_of arguments = put_in (fields 2 arguments)

-- the command of a line with arguments
unfoldable pub command_with : List ℕ → List ℕ → Option Command
command_with word arguments =
    if bytes_eq word (codes "screen") then option_map screen_command (parsed_size arguments)
    else (if bytes_eq word (codes "inline") then inline_of arguments
    else (if bytes_eq word (codes "fixed") then fixed_of arguments
    else (if bytes_eq word (codes "size") then option_map TakeSize (parsed_size arguments)
    else (if bytes_eq word (codes "put") then put_of arguments
    else (if bytes_eq word (codes "text") then Some (AddText arguments)
    else None)))))

-- the command of a line
unfoldable pub command_of : List ℕ → Option Command
command_of line =
    if bytes_eq line (codes "draw") then Some Draw
    else (if bytes_eq line (codes "insert") then Some Insert
    else (if bytes_eq line (codes "clear") then Some Clear
    else (if bytes_eq line (codes "show") then Some Show
    else command_with (first_word line) (after_word line))))

-- ---- the list of commands

-- the commands of some lines, in order
abbrev pub commands_of : List (List ℕ) → List Command
commands_of lines = filter_map command_of lines

-- the commands after the last one of a kind
abbrev pub since : (Command → Bool) → List Command → List Command
since is [] = []
since is (c ∷ cs) = if list_any is cs then since is cs else (if is c then cs else c ∷ cs)

abbrev pub is_draw : Command → Bool
is_draw Draw = true
is_draw other = false

-- whether a command takes the text that waits
abbrev pub takes_text : Command → Bool
takes_text Draw = true
takes_text Insert = true
takes_text other = false

abbrev pub new_size_in : Command → Option Size
new_size_in (TakeSize size) = Some size
new_size_in other = None

abbrev pub line_in : Command → Option LineData
line_in (AddText line) = Some (raw_line line)
line_in other = None

abbrev pub letter_in : Command → Option (ℕ × ℕ × ℕ)
letter_in (Put x y c) = Some (x, y, c)
letter_in other = None

-- the last size since the last draw, if one was given
abbrev pub size_waiting : List Command → Option Size
size_waiting cs = slice_get (reverse (filter_map new_size_in (since is_draw cs))) 0

-- the lines of text since the last draw or insertion
abbrev pub lines_waiting : List Command → List LineData
lines_waiting cs = filter_map line_in (since takes_text cs)

-- the puts since the last draw
abbrev pub puts_waiting : List Command → List (ℕ × ℕ × ℕ)
puts_waiting cs = filter_map letter_in (since is_draw cs)

abbrev pub stage_in : Command → Option Stage
stage_in (SetStage stage) = Some stage
stage_in other = None

-- the stage: the first command sets it
abbrev pub stage_of : List Command → Option Stage
stage_of [] = None
stage_of (c ∷ cs) = stage_in c

abbrev pub is_fixed : Viewport → Bool
is_fixed (Fixed r) = true
is_fixed other = false

-- whether a stage's viewport stands still
abbrev pub stands_still : Option Stage → Bool
stands_still (Some stage) = is_fixed stage.viewport
stands_still None = false

-- whether a command may stand after these: the first one sets the stage, and no other does; a size is given
-- only to a viewport that isn't fixed, and at most 65535 lines are inserted
abbrev pub may_follow : List Command → Command → Bool
may_follow before (SetStage stage) = length before == 0
may_follow before (TakeSize size) = nat_lt 0 (length before) && not (stands_still (stage_of before))
may_follow before Insert = nat_lt 0 (length before) && nat_le (length (lines_waiting before)) 65535
may_follow before other = nat_lt 0 (length before)

-- the act that a command makes of what waits
abbrev pub act_after : List Command → Command → List Act
act_after before Draw =
    acts.Play (plans.Draw (size_waiting before) (text_of (lines_waiting before)) (puts_waiting before)) ∷ []
act_after before Insert = acts.Play (plans.Insert (text_of (lines_waiting before))) ∷ []
act_after before Clear = acts.Play plans.Clear ∷ []
act_after before Show = acts.Show ∷ []
act_after before other = []

-- the acts of commands that stand after others
abbrev pub acts_after : List Command → List Command → List Act
acts_after before [] = []
acts_after before (c ∷ cs) = act_after before c ++ acts_after (before ++ c ∷ []) cs

-- ---- lines

-- a line is good after others: it is empty, or a command that may stand there
abbrev pub is_good_line : List (List ℕ) → List ℕ → Bool
is_good_line before line =
    (length line == 0) || option_map_or (may_follow (commands_of before)) (command_of line) false

-- each of these lines is good after those before it
abbrev pub AreGoodAfter : List (List ℕ) → List (List ℕ) → Type 0
AreGoodAfter before [] = Unit {0}
AreGoodAfter before (line ∷ lines) = (is_good_line before line ≡ true)
    × AreGoodAfter (before ++ line ∷ []) lines

-- the lines are good, and the script has their stage and their acts
pub record IsScriptOf (lines : List (List ℕ)) (s : Script) : Type 0 where
  pub good : AreGoodAfter [] lines
  pub stage : s.stage ≡ stage_of (commands_of lines)
  pub acts : s.acts ≡ acts_after [] (commands_of lines)

-- line n, counted from 1, is bad, and those before it are good
pub record IsFirstBadLine (lines : List (List ℕ)) (n : ℕ) : Type 0 where
  pub before : List (List ℕ)
  pub bad : List ℕ
  pub rest : List (List ℕ)
  pub parts : lines ≡ before ++ bad ∷ rest
  pub count : n ≡ length before + 1
  pub good : AreGoodAfter [] before
  pub refused : is_good_line before bad ≡ false

-- a script is refused at its first bad line, or for want of memory
abbrev pub IsRefusedScript : List (List ℕ) → ScriptError → Type 0
IsRefusedScript lines (Line n) = IsFirstBadLine lines n
IsRefusedScript lines Memory = Unit {0}
