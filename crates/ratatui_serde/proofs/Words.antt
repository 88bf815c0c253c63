-- Words that are written into a text of a fixed size, and words that are read.
use Rattle.std.proofs.Common.{◌≡◌, ℕ, ◌+◌, ◌<◌, ◌==◌, Bool, true, false, List, [], ◌∷◌, ◌++◌}
use Rattle.std.proofs.Common.{Option, Some, None, Result, Ok, Err, IfOk, inl, codes, fold, take, get_or}
use Rattle.std.proofs.Common.{length, refl, ap, sym, ◌∙◌}
use Rattle.std.proofs.lemmas.List.{take_more, append_assoc}
use Rattle.std.proofs.lemmas.Fmt.{contents_after_writes}
use Rattle.std.specs.{Fmt.digits, Fmt.WritesText}
use Rattle.bitflags.specs.Sets.{Row}
use Rattle.rtui_style.specs.{declared.color.Color.Color, Color.color_or_error}
use Rattle.bitflags.specs.Text.{bits_result, flag_piece, read_text}
use Rattle.bitflags.specs.declared.parser.ParseError.{ParseError}
use Rattle.widget_boxes.specs.{declared.borders.Borders.Borders, Borders.border_table, Borders.sides_of}
use Rattle.rtui_style.specs.{declared.Modifier.Modifier, Modifier.bits_of, Modifier.modifier_table}
use Rattle.ratatui_serde.specs.Flags.{with_part, has_flag, names_in, with_names, with_stray}
use Rattle.ratatui_serde.specs.Flags.{ReadsFlags, ReadsSides}

-- a colour that is no error is there
pub read-color : (color : Color) (o : Option Color) → Ok color ≡ color_or_error o → o ≡ Some color
read-color color (Some c) e = cc
read-color color None e = absurd (cc)

fold-append : {A B : Type 0} (f : B → A → B) (a : B) (xs ys : List A)
    → fold f a (xs ++ ys) ≡ fold f (fold f a xs) ys
fold-append f a [] ys = refl
fold-append f a (x ∷ xs) ys = fold-append f (f a x) xs ys

names-front : (x : Row) (rest more : List Row) (bits : ℕ) (b : Bool) → has_flag bits x ≡ b
    → names_in rest bits ≡ names_in rest bits
    → names_in (x ∷ rest) bits ≡ names_in (x ∷ []) bits ++ names_in rest bits
names-front x rest more bits true e h = rw e refl
names-front x rest more bits false e h = rw e refl

-- names come row by row
names-append : (xs ys : List Row) (bits : ℕ) → names_in (xs ++ ys) bits ≡ names_in xs bits ++ names_in ys bits
names-append [] ys bits = refl
names-append (x ∷ xs) ys bits =
    names-front x (xs ++ ys) [] bits (has_flag bits x) refl refl
    ∙ ap (λ l. names_in (x ∷ []) bits ++ l) (names-append xs ys bits)
    ∙ sym (append_assoc (names_in (x ∷ []) bits) (names_in xs bits) (names_in ys bits))
    ∙ sym (ap (λ l. l ++ names_in ys bits) (names-front x xs [] bits (has_flag bits x) refl refl))

-- a text with the names of one row more
pub names-more : (text : List ℕ) (table : List Row) (i : ℕ) (row : Row) (bits : ℕ) → i < length table
    → get_or table i row ≡ row
    → with_names text (take (i + 1) table) bits
    ≡ with_names (with_names text (take i table) bits) (row ∷ []) bits
names-more text table i row bits lt at =
    ap (λ l. with_names text l bits) (take_more table i row lt ∙ ap (λ x. take i table ++ x ∷ []) at)
    ∙ ap (fold with_part text) (names-append (take i table) (row ∷ []) bits)
    ∙ fold-append with_part text (names_in (take i table) bits) (names_in (row ∷ []) bits)

part-longer : (text a b : List ℕ) → with_part text a ++ b ≡ with_part text (a ++ b)
part-longer [] a b = refl
part-longer (c ∷ text) a b =
    append_assoc (c ∷ text) (codes " | " ++ a) b
    ∙ ap (λ l. (c ∷ text) ++ l) (append_assoc (codes " | ") a b)

-- a hexadecimal number after its mark
pub stray-is : (text : List ℕ) (bits : ℕ) → (bits == 0) ≡ false
    → with_part text (codes "0x") ++ digits 16 false bits ≡ with_stray text bits
stray-is text bits some = part-longer text (codes "0x") (digits 16 false bits) ∙ rw some refl

-- what a text that appends holds after a value was printed
pub text-after : {W : Type 0} (took : W → List ℕ → W → Type 0) (contents : W → List ℕ)
    → ((w : W) (bs : List ℕ) (v : W) → took w bs v → contents v ≡ contents w ++ bs)
    → (w v : W) (o : Option (List ℕ)) (bs : List ℕ) → o ≡ Some bs
    → WritesText took w o v → contents v ≡ contents w ++ bs
text-after took contents appends w v (Some x) bs e h =
    contents_after_writes took contents appends w x v h ∙ ap (λ l. contents w ++ l) (cc)
text-after took contents appends w v None bs e h = absurd (cc)

-- sides that were read
pub reads-sides : (text : List ℕ) (r : Result Borders ParseError)
    → bits_result sides_of r ≡ read_text (flag_piece border_table 8) text
    → IfOk r (λ b. ReadsSides border_table (sides_of b) text)
reads-sides text (Ok b) e = inl (sym e)
reads-sides text (Err x) e = tt

-- modifiers that were read
pub reads-modifier : (text : List ℕ) (m : Modifier) (r : Result Modifier ParseError)
    → bits_result bits_of r ≡ read_text (flag_piece modifier_table 16) text → r ≡ Ok m
    → ReadsFlags 16 modifier_table (bits_of m) text
reads-modifier text m r e is = sym e ∙ ap (bits_result bits_of) is
