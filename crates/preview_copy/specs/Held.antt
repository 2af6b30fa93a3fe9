-- What the code answers when it makes the copy.
use Rattle.refusals.specs.Library.{ℕ, ltb, length, cond, List}
use Rattle.answers.specs.Terms.{read_bound, Answer, reported, refused, of_reading, TextLength, BadName, lines}
use Rattle.file_format.specs.Routine.{text_limit}
use Rattle.preview_copy.specs.Patch.{in_code, patched}

-- a copy that is no longer than a text may be
unfoldable pub within : List ℕ → Answer
within copy = cond (ltb text_limit (length copy)) (refused TextLength) (reported copy)

-- the copy of a file, or the refusal that comes before it: the file's, then that of an address outside the code, then the copy's length
unfoldable pub copy_answer : List ℕ → ℕ → List ℕ → Answer
copy_answer text address instruction =
    of_reading (λ x. cond (in_code x.code address) (within (patched (lines text) address instruction)) (refused (BadName address))) (read_bound text)
