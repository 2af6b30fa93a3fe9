-- What is left of the words of a line.
use Rattle.std.specs.Prelude.{None, Option, Some}
use Rattle.refusals.specs.Library.{ℕ, List, []}
use denote.Ref.{Bor}
use Rattle.text.specs.Text.{line_words}

-- the words of what is left of a line, and none where nothing is left
abbrev pub words_left : Option (Bor (List ℕ)) → List (List ℕ)
words_left None = []
words_left (Some rest) = line_words rest.now
