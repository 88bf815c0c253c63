-- How a terminal reads bytes: text, and the sequences by their standard names.
use Rattle.std.specs.Prelude.{ℕ, ◌+◌, ◌-◌, ◌*◌, ◌==◌, ◌&&◌, ◌||◌, not, nat_le, Bool, true, false}
use Rattle.std.specs.Prelude.{if◌then◌else◌, List, [], ◌∷◌, ◌++◌, length}
use Rattle.std.specs.Str.{byte}
use Rattle.ansi_model.specs.{Sgr.inks, Sgr.are_known, Sgr.most_parameters, Sgr.Awaits.Nothing}
use Rattle.ansi_model.specs.Emulator.{Emulator, Phase, if_so, unsure, rested, cursor_moved, returned}
use Rattle.ansi_model.specs.Emulator.{cursor_shown, with_modes, holding, with_sgr, erased, with_region}
use Rattle.ansi_model.specs.Emulator.{without_region, line_fed, lines_deleted, lines_inserted}
use Rattle.ansi_model.specs.Emulator.Phase.{Ground, Escape, Opened, Sequence, Spaced, Keyed, Letters}
use Rattle.ansi_model.specs.Emulator.Phase.{OtherLetters, Coding, Told, Switching}
use Rattle.ratatui_core.specs.Backend.{All, AfterCursor, BeforeCursor, CurrentLine, UntilNewLine}

-- ED
abbrev pub performs_ED : List ℕ → Emulator → Emulator
performs_ED (n ∷ []) t = if n == 0 then erased AfterCursor t else (if n == 1 then erased BeforeCursor t else
    (if n == 2 then erased All t else unsure t))
performs_ED _ t = unsure t

-- EL
abbrev pub performs_EL : List ℕ → Emulator → Emulator
performs_EL (n ∷ []) t = if n == 0 then erased UntilNewLine t else
    (if n == 2 then erased CurrentLine t else unsure t)
performs_EL _ t = unsure t

-- CUP: the row and the column, counted from 1
abbrev pub performs_CUP : List ℕ → Emulator → Emulator
performs_CUP (m ∷ n ∷ []) t = cursor_moved (n - 1) (m - 1) t
performs_CUP _ t = unsure t

-- DECSTBM: the first and the last row of the region, counted from 1, or none
abbrev pub performs_DECSTBM : List ℕ → Emulator → Emulator
performs_DECSTBM (m ∷ []) t = if m == 0 then without_region t else unsure t
performs_DECSTBM (m ∷ n ∷ []) t = with_region (m - 1) n t
performs_DECSTBM _ t = unsure t

-- DL
abbrev pub performs_DL : List ℕ → Emulator → Emulator
performs_DL (n ∷ []) t = if n == 0 then unsure t else lines_deleted n t
performs_DL _ t = unsure t

-- IL
abbrev pub performs_IL : List ℕ → Emulator → Emulator
performs_IL (n ∷ []) t = if n == 0 then unsure t else lines_inserted n t
performs_IL _ t = unsure t

-- SGR
abbrev pub performs_SGR : List ℕ → Emulator → Emulator
performs_SGR parameters t =
    if_so (nat_le (length parameters) most_parameters && are_known parameters Nothing)
    (with_sgr (inks parameters (record { sgr = t.sgr; awaits = Nothing })).sgr t)

-- SM and RM (set mode, reset mode)
abbrev pub performs_mode : Bool → List ℕ → Emulator → Emulator
performs_mode on (n ∷ []) t = if n == 4 then with_modes (record t.modes { inserts = on }) t else unsure t
performs_mode on _ t = unsure t

-- DSR (device status report): 6 asks for the cursor's place
abbrev pub performs_DSR : List ℕ → Emulator → Emulator
performs_DSR (n ∷ []) t = if n == 6 then t else unsure t
performs_DSR _ t = unsure t

-- DECSCUSR (set cursor style): 0 to 6 are shapes, which change nothing that stands on the screen
abbrev pub performs_DECSCUSR : List ℕ → Emulator → Emulator
performs_DECSCUSR (n ∷ []) t = if nat_le n 6 then t else unsure t
performs_DECSCUSR _ t = unsure t

-- XTWINOPS: 22 keeps the title of the terminal's window on a stack, 23 brings it back from there
abbrev pub performs_XTWINOPS : List ℕ → Emulator → Emulator
performs_XTWINOPS (m ∷ n ∷ []) t = if ((m == 22) || (m == 23)) && (n == 2) then t else unsure t
performs_XTWINOPS _ t = unsure t

-- a whole sequence, by its last byte: H CUP, m SGR, J ED, K EL, r DECSTBM, M DL, L IL, h SM, l RM, n DSR, t
-- XTWINOPS
abbrev pub performs : List ℕ → ℕ → Emulator → Emulator
performs parameters final t =
    if final == byte "H" then performs_CUP parameters t
    else (if final == byte "m" then performs_SGR parameters t
    else (if final == byte "J" then performs_ED parameters t else (if final == byte "K" then performs_EL parameters t
    else (if final == byte "r" then performs_DECSTBM parameters t else
    (if final == byte "M" then performs_DL parameters t
    else (if final == byte "L" then performs_IL parameters t
    else (if final == byte "h" then performs_mode true parameters t else
    (if final == byte "l" then performs_mode false parameters t
    else (if final == byte "n" then performs_DSR parameters t else
    (if final == byte "t" then performs_XTWINOPS parameters t else unsure t))))))))))

-- modes that change nothing on the screen: what is told of the mouse (1000, 1002, 1003, 1006), of the focus
-- (1004) and of the window's size (2048), and how a paste is (2004)
abbrev pub is_quiet : ℕ → Bool
is_quiet m =
    (m == 1000) || (m == 1002) || (m == 1003) || (m == 1006) || (m == 1004) || (m == 2004) || (m == 2048)

-- DECSET and DECRST: 25 DECTCEM, 6 DECOM, which takes the cursor to the corner, 69 DECLRMM, 7 DECAWM, 2026 a
-- synchronized update, 1049 the alternate screen
abbrev pub sets_mode : Bool → ℕ → Emulator → Emulator
sets_mode on m t =
    if m == 25 then cursor_shown on t
    else (if m == 6 then record t { modes = record t.modes { origin = on }; x = 0; y = 0 }
    else (if m == 69 then with_modes (record t.modes { sides = on }) t
    else (if m == 7 then with_modes (record t.modes { unwrapped = not on }) t
    else (if m == 2026 then holding on t
    else (if m == 1049 then record t { phase = Switching on } else (if is_quiet m then t else unsure t))))))

-- a sequence with the mark `?`: h sets, l resets
abbrev pub performs_marked : List ℕ → ℕ → Emulator → Emulator
performs_marked (m ∷ []) final t =
    if final == byte "h" then sets_mode true m t else (if final == byte "l" then sets_mode false m t else unsure t)
performs_marked _ final t = unsure t

abbrev pub is_digit : ℕ → Bool
is_digit b = nat_le (byte "0") b && nat_le b (byte "9")

-- a byte of a text: no control character of ASCII
abbrev pub is_text : ℕ → Bool
is_text b = nat_le 32 b && not (b == 127)

-- one more byte of a sequence: a digit, a semicolon, a blank, or the byte that names it
abbrev pub reads_sequence : Bool → List ℕ → ℕ → ℕ → Emulator → Emulator
reads_sequence mark done n b t =
    if is_digit b then record t { phase = Sequence mark done (n * 10 + (b - byte "0")) }
    else (if b == byte ";" then record t { phase = Sequence mark (done ++ n ∷ []) 0 }
    else (if mark then performs_marked (done ++ n ∷ []) b (record t { phase = Ground })
    else (if b == byte " " then record t { phase = Spaced (done ++ n ∷ []) } else performs (done ++ n ∷ []) b
    (record t { phase = Ground }))))

-- the byte that names a sequence with a blank: q DECSCUSR
abbrev pub reads_spaced : List ℕ → ℕ → Emulator → Emulator
reads_spaced parameters b t =
    if b == byte "q" then performs_DECSCUSR parameters (record t { phase = Ground }) else unsure
    (record t { phase = Ground })

-- kitty's keyboard protocol, after its mark: digits, and u, which ends it
abbrev pub reads_keyed : ℕ → Emulator → Emulator
reads_keyed b t =
    if is_digit b then t else (if b == byte "u" then record t { phase = Ground } else unsure
    (record t { phase = Ground }))

-- the marks of kitty's keyboard protocol: > puts flags on a stack, < takes some off it
abbrev pub is_key_mark : ℕ → Bool
is_key_mark b = (b == byte "<") || (b == byte ">")

-- after ESC: [ opens a sequence, ] a string for the operating system, as a window's title, \ ends one, ( sets
-- the letters of G0, ) those of G1, * those of G2, % the coding, } gives bytes above ASCII the letters of G2,
-- which a terminal of UTF-8 doesn't look at
abbrev pub reads_escape : ℕ → Emulator → Emulator
reads_escape b t =
    if b == byte "[" then record t { phase = Opened }
    else (if b == byte "]" then record t { phase = Told }
    else (if b == byte "\\" then record t { phase = Ground }
    else (if b == byte "(" then record t { phase = Letters }
    else (if (b == byte ")") || (b == byte "*") then record t { phase = OtherLetters }
    else (if b == byte "}" then record t { phase = Ground } else
    (if b == byte "%" then record t { phase = Coding } else unsure t))))))

-- the letters of G0: B is ASCII, 0 lines
abbrev pub reads_letters : ℕ → Emulator → Emulator
reads_letters b t =
    if b == byte "B" then record t { phase = Ground; modes = record t.modes { lettered = false } }
    else (if b == byte "0" then record t {
      phase = Ground;
      modes = record t.modes { lettered = true };
    } else unsure t)

-- the letters of G1 and G2, which nothing is printed by: B is ASCII
abbrev pub reads_other_letters : ℕ → Emulator → Emulator
reads_other_letters b t = if b == byte "B" then record t { phase = Ground } else unsure t

-- the coding: G is UTF-8, @ isn't
abbrev pub reads_coding : ℕ → Emulator → Emulator
reads_coding b t =
    if b == byte "G" then record t { phase = Ground; modes = record t.modes { coded = false } }
    else (if b == byte "@" then record t { phase = Ground; modes = record t.modes { coded = true } } else unsure t)

-- a string for the operating system changes nothing on the screen; ESC ends it, and terminals differ on
-- control characters in it
abbrev pub reads_told : ℕ → Emulator → Emulator
reads_told b t = if b == 27 then record t { phase = Escape } else (if is_text b then t else unsure t)

-- one byte, read: a sequence is ESC [, perhaps ?, > or <, numbers between semicolons, and the byte that names
-- it; SI and SO shift
abbrev pub reads_in : Phase → ℕ → Emulator → Emulator
reads_in Ground b t =
    if b == 27 then record (rested t) { phase = Escape }
    else (if is_text b then record t { text = t.text ++ b ∷ [] }
    else (if b == 13 then returned (rested t) else (if b == 10 then line_fed (rested t)
    else (if b == 15 then with_modes (record (rested t).modes { shifted = false }) (rested t)
    else (if b == 14 then with_modes (record (rested t).modes { shifted = true })
    (rested t) else unsure (rested t))))))
reads_in Escape b t = reads_escape b t
reads_in Letters b t = reads_letters b t
reads_in OtherLetters b t = reads_other_letters b t
reads_in Coding b t = reads_coding b t
reads_in Told b t = reads_told b t
reads_in (Switching alternate) b t = t
reads_in (Spaced parameters) b t = reads_spaced parameters b t
reads_in Keyed b t = reads_keyed b t
reads_in Opened b t =
    if b == byte "?" then record t { phase = Sequence true [] 0 }
    else (if is_key_mark b then record t { phase = Keyed } else reads_sequence false [] 0 b t)
reads_in (Sequence mark done n) b t = reads_sequence mark done n b t

-- bytes, read in order
unfoldable pub feed : List ℕ → Emulator → Emulator
feed [] t = t
feed (b ∷ bs) t = feed bs (reads_in t.phase b t)
