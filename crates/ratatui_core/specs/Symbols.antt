-- Tables of symbols, and how border symbols are joined.
pub use Rattle.rtui_symbols.specs.Marker.{marker_name, ReadsMarker}
pub use Rattle.rtui_symbols.specs.Pixels.{braille_of, filled, older_sextants, older_octants}
pub use Rattle.rtui_symbols.specs.Sets.{bar_texts, block_texts, line_texts, border_texts, scrollbar_texts}
pub use Rattle.rtui_symbols.specs.Sets.{bar_levels, block_levels, normal_lines, thick_lines, double_lines}
pub use Rattle.rtui_symbols.specs.Sets.{with_dashes, rounded_lines, border_of, plain_border}
pub use Rattle.rtui_symbols.specs.Sets.{border_by, border_sets, line_sets, scrollbar_sets, outside_border}
pub use Rattle.rtui_symbols.specs.Sets.{inside_border}
pub use Rattle.rtui_symbols.specs.Sets.{light_double_dashed_lines, heavy_double_dashed_lines}
pub use Rattle.rtui_symbols.specs.Sets.{light_triple_dashed_lines}
pub use Rattle.rtui_symbols.specs.Sets.{heavy_triple_dashed_lines, light_quadruple_dashed_lines}
pub use Rattle.rtui_symbols.specs.Sets.{heavy_quadruple_dashed_lines}
unfoldable pub use Rattle.rtui_merge.specs.Symbols.{symbol_of}
pub use Rattle.rtui_merge.specs.Symbols.{ReadsArms}
unfoldable pub use Rattle.rtui_merge.specs.Merge.{exact, fuzzy, merged, Unites}
pub use Rattle.rtui_merge.specs.Laws.{MergesWithItself, FuzzyKeepsExact, FoundByArms, DifferInArms}
pub use Rattle.rtui_merge.specs.Laws.{AreBoxDrawings}
-- Symbols that take at most one column, and no memory in a cell.
pub use Rattle.rtui_cell.specs.Narrow.{IsNarrow, is_narrow, AreNarrowTexts}
