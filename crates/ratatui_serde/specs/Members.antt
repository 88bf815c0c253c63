-- What a constraint and a style send to a serializer.
use Rattle.std.specs.Prelude.{ℕ, List, [], ◌∷◌, ◌++◌, ◌==◌, codes, fold, map, sum, Option}
use Rattle.std.specs.Prelude.{Some, None, if◌then◌else◌}
use Rattle.serde.specs.Event.{Event, text, unsigned, seq_begins, seq_ends, map_begins, map_ends, field_key}
use Rattle.serde.specs.Event.{variant_key}
use Rattle.serde.specs.declared.name.Case.TheVariants.{AsIs}
use Rattle.rtui_layout.specs.declared.constraint.Constraint.{Constraint}
use Rattle.rtui_layout.specs.declared.constraint.Constraint.TheVariants.{Min, Max, Length, Percentage}
use Rattle.rtui_layout.specs.declared.constraint.Constraint.TheVariants.{Ratio, Fill}
use Rattle.rtui_style.specs.{declared.color.Color.Color, declared.Modifier.Modifier, declared.Style.Style}
use Rattle.rtui_style.specs.{Color.color_text, Modifier.bits_of, Modifier.modifier_table}
use Rattle.ratatui_serde.specs.Flags.{flags_text}

-- a name with its number
abbrev pub number_events : List ℕ → ℕ → List Event
number_events name n = map_begins (Some 1) ∷ variant_key name AsIs ∷ unsigned n ∷ map_ends ∷ []

-- the name of a ratio with both of its numbers
abbrev pub ratio_events : ℕ → ℕ → List Event
ratio_events part whole =
    map_begins (Some 1) ∷ variant_key (codes "Ratio") AsIs ∷ seq_begins (Some 2) ∷ unsigned part
    ∷ unsigned whole ∷ seq_ends ∷ map_ends ∷ []

abbrev pub constraint_events : Constraint → List Event
constraint_events (Min n) = number_events (codes "Min") n
constraint_events (Max n) = number_events (codes "Max") n
constraint_events (Length n) = number_events (codes "Length") n
constraint_events (Percentage n) = number_events (codes "Percentage") n
constraint_events (Ratio part whole) = ratio_events part whole
constraint_events (Fill n) = number_events (codes "Fill") n

-- a member with a colour, if there is one
abbrev pub color_member : List ℕ → Option Color → List Event
color_member key None = []
color_member key (Some color) = field_key key AsIs ∷ text (color_text color) ∷ []

-- a member with modifiers, if there are any
abbrev pub modifier_member : List ℕ → Modifier → List Event
modifier_member key m =
    if bits_of m == 0 then [] else field_key key AsIs ∷ text (flags_text 16 modifier_table (bits_of m)) ∷ []

-- the members of a style that say something
abbrev pub style_members : Style → List (List Event)
style_members s =
    color_member (codes "fg") s.fg ∷ color_member (codes "bg") s.bg
    ∷ color_member (codes "underline_color") s.underline_color
    ∷ modifier_member (codes "add_modifier") s.add_modifier
    ∷ modifier_member (codes "sub_modifier") s.sub_modifier ∷ []

-- one for a member that says something
abbrev pub said : List Event → ℕ
said [] = 0
said (_ ∷ _) = 1

-- how many they are
abbrev pub member_count : Style → ℕ
member_count s = sum (map said (style_members s))

-- a map of them
abbrev pub style_events : Style → List Event
style_events s =
    map_begins (Some (member_count s)) ∷ (fold (λ es more. es ++ more) [] (style_members s) ++ map_ends ∷ [])
