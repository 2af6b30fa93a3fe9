-- The answer of the search for the nearest number that moves the bound, to a routine file and to a length of lent report memory.
-- (document 02, §13)
use Rattle.std.specs.Prelude.{◌++◌}
use Rattle.refusals.specs.Library.{ℕ, List, Option, some, none}
use Rattle.answers.specs.Terms.{Routine, read_bound, Answer, reported, refused, lending, of_reading, memory_limit, bytes, decimal}
use Rattle.text_decimals.specs.Decimal.{integer}
use Rattle.nearest_changes.specs.declared.Position.{Position}
use Rattle.nearest_changes.specs.declared.Position.TheVariants.{Accu, Entry, Field}
use Rattle.nearest_changes.specs.declared.Change.{Change}
use Rattle.nearest_search.specs.Search.{Searched, found, refused_by, search}

-- the name of a cell in the file: "ACCU, then S0 on", "B0.0 B0.1 and on"
unfoldable pub name_of : Position → List ℕ
name_of Accu = bytes "ACCU"
name_of (Entry n) = bytes "S" ++ decimal n
name_of (Field k n) = bytes "B" ++ decimal k ++ bytes "." ++ decimal n

-- "The cell's name and its new value are printed."
unfoldable pub line_of : Change → List ℕ
line_of x = name_of x.place ++ bytes " " ++ integer x.value ++ bytes "\n"

-- "`NONE` is printed only if no such change exists."
unfoldable pub change_text : Option Change → List ℕ
change_text none = bytes "NONE\n"
change_text (some x) = line_of x

-- what a search comes to
unfoldable pub of_searched : Searched → Answer
of_searched (found o) = reported (change_text o)
of_searched (refused_by r) = refused r

-- the answer for a routine, under its BUDGET
unfoldable pub nearest_routine : Routine → Answer
nearest_routine x = of_searched (search x.code x.budget x.start)

-- the file is read as the first bound reads it: "A file that is refused to begin with is refused the same way here."
unfoldable pub nearest_answer : List ℕ → ℕ → Answer
nearest_answer text n = lending memory_limit n (of_reading nearest_routine (read_bound text))
