-- The 125 border symbols, each with its arms.
use Prim.Native.String.{String}
use Rattle.std.specs.Prelude.{◌≡◌, ℕ, List, [], ◌∷◌, Option, ok_or, Result, codes, encode_utf8_all}
use Rattle.std.specs.{List.find, Option.option_map, Str.bytes_eq}
use Rattle.rtui_merge.specs.{declared.border_symbol.LineStyle.LineStyle}
use Rattle.rtui_merge.specs.{declared.border_symbol.BorderSymbol.BorderSymbol}
use Rattle.rtui_merge.specs.declared.border_symbol.LineStyle.TheVariants.{Nothing, Plain, Double, Thick}
use Rattle.rtui_merge.specs.declared.border_symbol.LineStyle.TheVariants.{Rounded, DoubleDash}
use Rattle.rtui_merge.specs.declared.border_symbol.LineStyle.TheVariants.{DoubleDashThick, TripleDash}
use Rattle.rtui_merge.specs.declared.border_symbol.LineStyle.TheVariants.{TripleDashThick, QuadrupleDash}
use Rattle.rtui_merge.specs.declared.border_symbol.LineStyle.TheVariants.{QuadrupleDashThick}
use Rattle.rtui_merge.specs.{declared.error.BorderSymbolError.BorderSymbolError}
use Rattle.rtui_merge.specs.{declared.error.BorderSymbolError.TheVariants.CannotParse, Arms.same_arms}

-- a symbol's text and its arms
pub record Symbol : Type 0 where
  pub text : List ℕ
  pub arms : BorderSymbol

-- a symbol with its arms to the right, up, to the left and down
abbrev pub row : String → LineStyle → LineStyle → LineStyle → LineStyle → Symbol
row symbol right up left down = record {
  text = encode_utf8_all (codes symbol);
  arms = record { right = right; up = up; left = left; down = down };
}

-- the table of the symbols, in the order of their codes
unfoldable pub symbols : List Symbol
symbols =
    row "─" Plain Nothing Plain Nothing ∷
    row "━" Thick Nothing Thick Nothing ∷
    row "│" Nothing Plain Nothing Plain ∷
    row "┃" Nothing Thick Nothing Thick ∷
    row "┄" TripleDash Nothing TripleDash Nothing ∷
    row "┅" TripleDashThick Nothing TripleDashThick Nothing ∷
    row "┆" Nothing TripleDash Nothing TripleDash ∷
    row "┇" Nothing TripleDashThick Nothing TripleDashThick ∷
    row "┈" QuadrupleDash Nothing QuadrupleDash Nothing ∷
    row "┉" QuadrupleDashThick Nothing QuadrupleDashThick Nothing ∷
    row "┊" Nothing QuadrupleDash Nothing QuadrupleDash ∷
    row "┋" Nothing QuadrupleDashThick Nothing QuadrupleDashThick ∷
    row "┌" Plain Nothing Nothing Plain ∷
    row "┍" Thick Nothing Nothing Plain ∷
    row "┎" Plain Nothing Nothing Thick ∷
    row "┏" Thick Nothing Nothing Thick ∷
    row "┐" Nothing Nothing Plain Plain ∷
    row "┑" Nothing Nothing Thick Plain ∷
    row "┒" Nothing Nothing Plain Thick ∷
    row "┓" Nothing Nothing Thick Thick ∷
    row "└" Plain Plain Nothing Nothing ∷
    row "┕" Thick Plain Nothing Nothing ∷
    row "┖" Plain Thick Nothing Nothing ∷
    row "┗" Thick Thick Nothing Nothing ∷
    row "┘" Nothing Plain Plain Nothing ∷
    row "┙" Nothing Plain Thick Nothing ∷
    row "┚" Nothing Thick Plain Nothing ∷
    row "┛" Nothing Thick Thick Nothing ∷
    row "├" Plain Plain Nothing Plain ∷
    row "┝" Thick Plain Nothing Plain ∷
    row "┞" Plain Thick Nothing Plain ∷
    row "┟" Plain Plain Nothing Thick ∷
    row "┠" Plain Thick Nothing Thick ∷
    row "┡" Thick Thick Nothing Plain ∷
    row "┢" Thick Plain Nothing Thick ∷
    row "┣" Thick Thick Nothing Thick ∷
    row "┤" Nothing Plain Plain Plain ∷
    row "┥" Nothing Plain Thick Plain ∷
    row "┦" Nothing Thick Plain Plain ∷
    row "┧" Nothing Plain Plain Thick ∷
    row "┨" Nothing Thick Plain Thick ∷
    row "┩" Nothing Thick Thick Plain ∷
    row "┪" Nothing Plain Thick Thick ∷
    row "┫" Nothing Thick Thick Thick ∷
    row "┬" Plain Nothing Plain Plain ∷
    row "┭" Plain Nothing Thick Plain ∷
    row "┮" Thick Nothing Plain Plain ∷
    row "┯" Thick Nothing Thick Plain ∷
    row "┰" Plain Nothing Plain Thick ∷
    row "┱" Plain Nothing Thick Thick ∷
    row "┲" Thick Nothing Plain Thick ∷
    row "┳" Thick Nothing Thick Thick ∷
    row "┴" Plain Plain Plain Nothing ∷
    row "┵" Plain Plain Thick Nothing ∷
    row "┶" Thick Plain Plain Nothing ∷
    row "┷" Thick Plain Thick Nothing ∷
    row "┸" Plain Thick Plain Nothing ∷
    row "┹" Plain Thick Thick Nothing ∷
    row "┺" Thick Thick Plain Nothing ∷
    row "┻" Thick Thick Thick Nothing ∷
    row "┼" Plain Plain Plain Plain ∷
    row "┽" Plain Plain Thick Plain ∷
    row "┾" Thick Plain Plain Plain ∷
    row "┿" Thick Plain Thick Plain ∷
    row "╀" Plain Thick Plain Plain ∷
    row "╁" Plain Plain Plain Thick ∷
    row "╂" Plain Thick Plain Thick ∷
    row "╃" Plain Thick Thick Plain ∷
    row "╄" Thick Thick Plain Plain ∷
    row "╅" Plain Plain Thick Thick ∷
    row "╆" Thick Plain Plain Thick ∷
    row "╇" Thick Thick Thick Plain ∷
    row "╈" Thick Plain Thick Thick ∷
    row "╉" Plain Thick Thick Thick ∷
    row "╊" Thick Thick Plain Thick ∷
    row "╋" Thick Thick Thick Thick ∷
    row "╌" DoubleDash Nothing DoubleDash Nothing ∷
    row "╍" DoubleDashThick Nothing DoubleDashThick Nothing ∷
    row "╎" Nothing DoubleDash Nothing DoubleDash ∷
    row "╏" Nothing DoubleDashThick Nothing DoubleDashThick ∷
    row "═" Double Nothing Double Nothing ∷
    row "║" Nothing Double Nothing Double ∷
    row "╒" Double Nothing Nothing Plain ∷
    row "╓" Plain Nothing Nothing Double ∷
    row "╔" Double Nothing Nothing Double ∷
    row "╕" Nothing Nothing Double Plain ∷
    row "╖" Nothing Nothing Plain Double ∷
    row "╗" Nothing Nothing Double Double ∷
    row "╘" Double Plain Nothing Nothing ∷
    row "╙" Plain Double Nothing Nothing ∷
    row "╚" Double Double Nothing Nothing ∷
    row "╛" Nothing Plain Double Nothing ∷
    row "╜" Nothing Double Plain Nothing ∷
    row "╝" Nothing Double Double Nothing ∷
    row "╞" Double Plain Nothing Plain ∷
    row "╟" Plain Double Nothing Double ∷
    row "╠" Double Double Nothing Double ∷
    row "╡" Nothing Plain Double Plain ∷
    row "╢" Nothing Double Plain Double ∷
    row "╣" Nothing Double Double Double ∷
    row "╤" Double Nothing Double Plain ∷
    row "╥" Plain Nothing Plain Double ∷
    row "╦" Double Nothing Double Double ∷
    row "╧" Double Plain Double Nothing ∷
    row "╨" Plain Double Plain Nothing ∷
    row "╩" Double Double Double Nothing ∷
    row "╪" Double Plain Double Plain ∷
    row "╫" Plain Double Plain Double ∷
    row "╬" Double Double Double Double ∷
    row "╭" Rounded Nothing Nothing Rounded ∷
    row "╮" Nothing Nothing Rounded Rounded ∷
    row "╯" Nothing Rounded Rounded Nothing ∷
    row "╰" Rounded Rounded Nothing Nothing ∷
    row "╴" Nothing Nothing Plain Nothing ∷
    row "╵" Nothing Plain Nothing Nothing ∷
    row "╶" Plain Nothing Nothing Nothing ∷
    row "╷" Nothing Nothing Nothing Plain ∷
    row "╸" Nothing Nothing Thick Nothing ∷
    row "╹" Nothing Thick Nothing Nothing ∷
    row "╺" Thick Nothing Nothing Nothing ∷
    row "╻" Nothing Nothing Nothing Thick ∷
    row "╼" Thick Nothing Plain Nothing ∷
    row "╽" Nothing Plain Nothing Thick ∷
    row "╾" Plain Nothing Thick Nothing ∷
    row "╿" Nothing Thick Nothing Plain ∷ []

-- the arms of a text that is a border symbol
unfoldable pub arms_of : List ℕ → Option BorderSymbol
arms_of text = option_map (λ symbol. symbol.arms) (find (λ symbol. bytes_eq symbol.text text) symbols)

-- a border symbol is read as its arms, and any other text is refused
abbrev pub ReadsArms : List ℕ → Result BorderSymbol BorderSymbolError → Type 0
ReadsArms text r = r ≡ ok_or (arms_of text) CannotParse

-- the text of the symbol with these arms, if there is one
unfoldable pub symbol_of : BorderSymbol → Option (List ℕ)
symbol_of arms = option_map (λ symbol. symbol.text) (find (λ symbol. same_arms symbol.arms arms) symbols)
