-- Rectangles, positions, layouts as data.
pub use Rattle.rtui_geometry.specs.declared.rect.Rect.{Rect}
pub use Rattle.rtui_geometry.specs.declared.position.Position.{Position}
pub use Rattle.rtui_geometry.specs.declared.offset.Offset.{Offset}
pub use Rattle.rtui_geometry.specs.declared.size.Size.{Size}
pub use Rattle.rtui_geometry.specs.declared.margin.Margin.{Margin}
pub use Rattle.rtui_geometry.specs.Offset.{opposite, moved_rect, moved_position}
pub use Rattle.rtui_geometry.specs.Rect.{right_edge, bottom_edge, HasPosition, has_position, corner}
pub use Rattle.rtui_geometry.specs.Rect.{EdgesFit, IsInside}
pub use Rattle.rtui_geometry.specs.Rect.{cut_rect, united, intersected, Intersects, SharePosition, HasRoom}
pub use Rattle.rtui_geometry.specs.Rect.{shrunk, grown, KeepsMargin, between}
pub use Rattle.rtui_geometry.specs.Rows.{numbers, row_at, column_at, rows_of, columns_of, positions_of}
pub use Rattle.rtui_geometry.specs.Rows.{positions_from, IsPlace, ListsPositions, ListsRows, ListsColumns}
pub use Rattle.rtui_geometry.specs.Display.{position_text, size_text, margin_text, rect_text}
pub use Rattle.rtui_layout.specs.Constraint.{IsMin, IsMax, IsLength, IsPercentage, IsRatio, IsFill}
pub use Rattle.rtui_layout.specs.Constraint.{constraint_text}
pub use Rattle.rtui_layout.specs.Layout.{LayoutData, default_layout}
pub use Rattle.rtui_layout.specs.Names.{ReadsName, direction_name, horizontal_name, vertical_name, flex_name}
pub use Rattle.rtui_layout.specs.Names.{ReadsBack}
pub use Rattle.rtui_layout.specs.Spacing.{spacing_from, cut_spacing_from}
pub use Rattle.rtui_split.specs.Split.{inner, centered_layout, IsSplit, HasWish, WithinWish, FitWishes}
pub use Rattle.rtui_split.specs.Split.{SharesRest, LeavesNothing, HasExactPlaces, IsLaidOut}
pub use Rattle.rtui_split.specs.Split.{AreExact, HasTaker, total_weight, cells_of}
pub use Rattle.rtui_split.specs.Split.{AreLevelled, AreInOrder, HasPlacesInOrder, TakeInOrder, StretchOne}
pub use Rattle.rtui_split.specs.Split.{least_wish, HasLevel, AreLeastRagged}
pub use Rattle.rtui_split.specs.Split.{HaveNoFill, FillsShare, fill_size}
pub use Rattle.rtui_split.specs.Wishes.{patience, IsStretchable}
pub use Rattle.rtui_split.specs.{Cut.IsSpace, Cut.IsPartAlong, Spaces.KeepsWishes}
pub use Rattle.rtui_split.specs.{Spaces.IsPacked, Growth.HasGrown}
pub use Rattle.rtui_split.specs.Flexed.{HasFlexedSpaces, LeavesNoSpace, SpacesAre, SpacesAfter}
pub use Rattle.rtui_split.specs.Spacers.{IsSplitWithSpacers, AreSpacers}
