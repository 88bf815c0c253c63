-- What is told of an entry beside its name: who may do what, its size, and when it was changed.
use Rattle.std.specs.Prelude.{ℕ, not, ◌/◌, ◌%◌, ◌==◌, if◌then◌else◌, List, [], ◌++◌, codes, Option, is_some}
use Rattle.std.specs.{Option.option_map_or, Fmt.decimal}
use Rattle.jiff_core.specs.declared.civil.datetime.DateTime.{DateTime}
use Rattle.files.specs.declared.list.Row.{Row}
use Rattle.files.specs.Dates.{date_minute_text}

-- a letter if the lowest bit says so, or else a dash
abbrev pub right_shown : ℕ → List ℕ → List ℕ
right_shown bits letter = if bits % 2 == 1 then letter else codes "-"

-- whether something may be read, written and run: three bits
abbrev pub three_rights : ℕ → List ℕ
three_rights bits =
    right_shown (bits / 4) (codes "r") ++ right_shown (bits / 2) (codes "w") ++ right_shown bits (codes "x")

-- who may do what, as `rwxr-xr-x`: the owner, the group, and all others
abbrev pub mode_text : ℕ → List ℕ
mode_text mode = three_rights (mode / 64) ++ three_rights (mode / 8) ++ three_rights mode

-- what an entry is: a folder, a link, a file, or something else
abbrev pub kind_letter : Row → List ℕ
kind_letter row =
    if not row.is_leaf then codes "d"
    else if row.is_link then codes "l"
    else if is_some row.size then codes "-"
    else codes "?"

-- who may do what with it, the size of a file, and when it was changed: each after two blanks, if it is known
abbrev pub mode_detail : Row → List ℕ
mode_detail row = option_map_or (λ mode. codes "  " ++ kind_letter row ++ mode_text mode) row.mode []

abbrev pub size_detail : Option ℕ → List ℕ
size_detail size = option_map_or (λ n. codes "  " ++ decimal n) size []

abbrev pub date_shown : Option DateTime → List ℕ
date_shown date = option_map_or date_minute_text date []

abbrev pub date_detail : Option DateTime → List ℕ
date_detail date = option_map_or (λ d. codes "  " ++ date_minute_text d) date []

abbrev pub details_told : Row → List ℕ
details_told row = mode_detail row ++ size_detail row.size ++ date_detail row.date
