use Rattle.ratatui_serde.proofs.Sending.{sends-members}
use Rattle.ratatui_serde.proofs.styles.StyleSetting.write.Goals as goal

pub returns : goal.returns
returns g c =
    sends-members _ _ _ _ _ _ _ _ _ _ _ _ _ _ _ c.member_count.ensures c.in_ok-begin_map.ensures
    c.in_ok-write_color.ensures c.in_ok-write_color-2.ensures c.in_ok-write_color-3.ensures
    c.in_ok-write_modifier.ensures c.in_ok-write_modifier-2.ensures c.in_ok-end_map.ensures
