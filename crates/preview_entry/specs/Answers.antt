-- The answer of a preview to a text, an address, an instruction and a length of lent report memory. (document 02 §10)
use Rattle.refusals.specs.Library.{ℕ, cond, List}
use Rattle.answers.specs.Terms.{read_bound, Answer, refused, lending, of_reading, memory_limit, BadName, lines}
use Rattle.preview_copy.specs.Patch.{in_code, patched}
use Rattle.report_theory.specs.Answers.{bound_answer}

-- "exactly the report or refusal that the first bound would give for a patched copy"; "An address outside the code is refusal 4
-- with the address as the place, checked after the held file's 10, 1 to 6 and 13, and before the copy's refusals." (document 02 §10)
unfoldable pub preview_answer : List ℕ → ℕ → List ℕ → ℕ → Answer
preview_answer text address instruction n =
    lending memory_limit n
    (of_reading (λ x. cond (in_code x.code address) (bound_answer (patched (lines text) address instruction) n) (refused (BadName address))) (read_bound text))
