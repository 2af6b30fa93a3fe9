-- The terms of texts, of the routine file and of answers, passed on as they are, for the specifications above.
pub use Rattle.file_format.specs.Terms.{Refusal, TextLength, Layout, OutOfRange, BadName, bytes, Line, is_empty, no_line}
unfoldable pub use Rattle.file_format.specs.Terms.{lines, line_words, equals, all, find, decimal, numeral}
unfoldable pub use Rattle.file_format.specs.Layout.{listed, body, lines_of_code}
pub use Rattle.file_format.specs.Routine.{Routine, routine}
unfoldable pub use Rattle.file_format.specs.Routine.{read_bound, read_run}
pub use Rattle.answers.specs.Answers.{Answer, reported, refused, lending, memory_limit}
unfoldable pub use Rattle.answers.specs.Answers.{of_reading}
pub use Rattle.file_format.specs.declared.Section.{Section}
pub use Rattle.file_format.specs.declared.Section.TheVariants.{Kinds as kinds, Primitives as primitives, Cells as cells, Fields as fields}
pub use Rattle.file_format.specs.declared.Column.TheVariants.{Extra as extra, Cell as cell}
pub use Rattle.file_format.specs.declared.Role.TheVariants.{Names as names, Values as values}
