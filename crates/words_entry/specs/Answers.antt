-- The answer of an import to words and a primitives line, and that of an export to a routine file, with a length of lent memory.
-- (document 02, §2)
use Rattle.refusals.specs.Library.{ℕ, List}
use Rattle.answers.specs.Terms.{read_bound, Answer, reported, lending, of_reading, lines}
use Rattle.answers.specs.Answers.{of_acceptance}
use Rattle.words.specs.Import.{import_verdict, import_text}
use Rattle.words.specs.Export.{export_bytes}

-- "Memory lent for the lines, or for the words, of under 32,768 bytes is refusal 10, checked first"
abbrev pub conversion_limit : ℕ
conversion_limit = 32768

-- "An import then refuses its primitives line by 2 or 4 at place 1", and by "12, checked next in an import"; else it makes the lines
unfoldable pub import_answer : List ℕ → List ℕ → ℕ → Answer
import_answer words primitives n = lending conversion_limit n (of_acceptance (import_text words primitives) (import_verdict words primitives))

-- "An export then has the file's refusals 1 to 6", and 13 after them (document 02 §8); else it makes the words
unfoldable pub export_answer : List ℕ → ℕ → Answer
export_answer text n = lending conversion_limit n (of_reading (λ x. reported (export_bytes (lines text))) (read_bound text))
