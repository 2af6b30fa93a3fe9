-- The terms of texts and of the routine file, passed on as they are, for the specifications above.
pub use Rattle.refusals.specs.declared.Refusal.{Refusal}
pub use Rattle.refusals.specs.declared.Refusal.TheVariants.{ReportMemory, TextLength, Layout, OutOfRange, BadName}
pub use Rattle.text.specs.Text.{bytes, Line, is_empty, no_line}
unfoldable pub use Rattle.text.specs.Text.{lines, line_words, equals, all, find}
unfoldable pub use Rattle.text_decimals.specs.Decimal.{decimal, numeral}
pub use Rattle.file_format.specs.declared.Section.{Section}
pub use Rattle.file_format.specs.declared.Section.TheVariants.{Limits as limits, Kinds as kinds, Primitives as primitives, Cells as cells, Fields as fields}
pub use Rattle.file_format.specs.declared.Section.TheVariants.{Instructions as instructions, Answers as answers}
pub use Rattle.file_format.specs.declared.Column.TheVariants.{Limit as limit, Cycles as cycles, Words as words-column, Extra as extra, Cell as cell}
pub use Rattle.file_format.specs.declared.Role.TheVariants.{Names as names, Values as values}
