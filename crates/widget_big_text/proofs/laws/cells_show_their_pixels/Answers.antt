use Rattle.widget_big_text.proofs.PixelLemmas.{full-shows, half-height-shows, half-width-shows, quadrant-shows}
use Rattle.widget_big_text.proofs.laws.cells_show_their_pixels.Goals as goal

pub returns-clause-full : goal.returns-clause-full
returns-clause-full c = full-shows

pub returns-clause-half_height : goal.returns-clause-half_height
returns-clause-half_height c = half-height-shows

pub returns-clause-half_width : goal.returns-clause-half_width
returns-clause-half_width c = half-width-shows

pub returns-clause-quadrant : goal.returns-clause-quadrant
returns-clause-quadrant c = quadrant-shows
