use Rattle.std.proofs.Common.{string_bytes, ap, sym, ◌∙◌}
use Rattle.files.specs.Texts.{prompt}
use Rattle.files.proofs.TrashLemmas.{appended-one, prompt-other}
use Rattle.files.proofs.browser.Browser.push_prompt.Goals as goal

pub returns-in_default : goal.returns-in_default
returns-in_default c = appended-one c.push_str-in_default.result (string_bytes c.push_str-in_default.new.self)
    (string_bytes c.args.text.now) c.make_prompt.result.now (prompt c.args.mode c.args.typed.now c.args.self.now)
    (c.make_prompt.ensures ∙ sym (prompt-other c.args.mode c.args.typed.now c.args.self.now c.in_default.not-Renaming
    c.in_default.not-Pasting c.in_default.not-Seeking c.in_default.not-Going)) c.push_str-in_default.ensures.bytes
