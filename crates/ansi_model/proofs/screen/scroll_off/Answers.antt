use Rattle.std.proofs.lemmas.Result.{on_ok_weaker}
use Rattle.ansi_model.proofs.RegionLemmas.{feeds-one-more, scrolls-off}
use Rattle.ansi_model.proofs.screen.scroll_off.Goals as goal

pub returns : goal.returns
returns c =
    on_ok_weaker c.insert_lines.result (λ does. scrolls-off _ _ _ _ _ c.args.height _ c.saturating_add.ensures
    c.in_ok-move_to_last_row.ensures
    (feeds-one-more _ _ _ c.args.height c.in_ok-line_feeds.ensures c.in_ok-line_feed.ensures)
    c.in_ok-move_to.ensures.moves does) c.insert_lines.ensures
