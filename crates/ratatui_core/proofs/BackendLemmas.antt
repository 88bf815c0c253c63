-- What the author of a backend cites: a draw of no items, and one more item after a draw.
pub use Rattle.rtui_backend.proofs.DrawLemmas.{Draws-none, Draws-push}
-- What a motion makes of a place.
pub use Rattle.rtui_backend.proofs.MotionLemmas.{moved-through, moved-along}
