use Rattle.std.proofs.Common.{ℕ, inr, ap, ap₂, sym, ◌∙◌}
use Rattle.ratatui_core.specs.Backend.{size_of}
use Rattle.pager.proofs.SizeLemmas.{fills-along, fills-first}
use Rattle.pager.proofs.laws.the_page_fills_the_screen.Goals as goal

pub returns-clause-runs : goal.returns-clause-runs
returns-clause-runs g c = fills-along g.S.Source.coming c.told_sizes_are_the_screens.ensures

pub returns-clause-paged : goal.returns-clause-paged
returns-clause-paged g c = λ size has_ticks first last ears ears' before after paged sized.
    let through = paged.through in
    let begins = through.begins in
    let began = through.runs.runs.began in
    let same = ap size_of began.asked.screen_stays ∙ began.moved.has in
    fills-first first.state through.begun through.runs.runs.glass.terminal same
    (inr (sized ∙ sym (ap₂ (λ (w h : ℕ). record { width = w; height = h }) paged.opens.screen.width
    paged.opens.screen.height) ∙ sym (ap size_of (begins.starts.untouched (λ inline. inline) ∙ begins.shown))))
