-- The answer of the generator to a seed and a length of lent memory. (document 02 §11)
use Rattle.refusals.specs.Library.{ℕ, eqb, cond}
use Rattle.answers.specs.Terms.{Answer, reported, refused, lending, OutOfRange}
use Rattle.generate_file.specs.File.{file}

-- "Lent memory under 32,768 bytes is refusal 10, checked before the seed."
abbrev pub generator_limit : ℕ
generator_limit = 32768

-- "0 is refusal 3 at place 0"; else the file of the seed
unfoldable pub generate_answer : ℕ → ℕ → Answer
generate_answer seed n = lending generator_limit n (cond (eqb seed 0) (refused (OutOfRange 0)) (reported (file seed)))
