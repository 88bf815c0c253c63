use Rattle.std.proofs.Common.{◌≡◌, ◌++◌, length, drop, chars, encode_utf8_all, string_bytes}
use Rattle.text_area.specs.Typing.{unified, loaded_text}
use Rattle.text_area.proofs.typed.with_feeds.Given as goal

-- what is copied, and what is still to come
abbrev pub invariant-loop-c : goal.invariant-loop-c
invariant-loop-c l =
    string_bytes l.copy ++ encode_utf8_all (unified l.after (drop (length l.yielded) (chars l.text)))
    ≡ loaded_text l.text
