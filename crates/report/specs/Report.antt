-- What is printed: a report, a run's report, a refusal. (document 01, The printed report)
use Rattle.std.specs.Prelude.{◌+◌, ◌*◌, ◌/◌, ◌%◌, ◌≤◌, ◌∷◌, ◌++◌, ◌≡◌}
use Rattle.refusals.specs.Library.{ℕ, ltb, cond, List, [], map}
use Rattle.bound_theory.specs.Terms.{Refusal, number, place, Decision, N, T, Report}
use Rattle.answers.specs.Terms.{bytes, decimal}

-- "SHARE is CYCLES × 1000 / TICK to the nearest whole number": its whole part where less than a half is left over, and 1 more where more
-- than a half is; "SHARE at an exact half goes to the even whole number" (document 02 §6): 1 more where the whole part is odd
unfoldable pub share : ℕ → ℕ → ℕ
share tick cycles =
    let whole = cycles * 1000 / tick in
    let twice = 2 * (cycles * 1000 % tick) in
    whole + cond (ltb twice tick) 0 (cond (ltb tick twice) 1 (whole % 2))

-- the same without a division: SHARE is at most a half above and at most a half below CYCLES × 1000 / TICK, and it is even where it is a
-- half above or a half below; here all times 2 × TICK
pub record Rounded (tick cycles share : ℕ) : Type 0 where
  pub not_above : 2 * tick * share ≤ 2 * (cycles * 1000) + tick
  pub not_below : 2 * (cycles * 1000) ≤ 2 * tick * share + tick
  pub even_above : 2 * tick * share ≡ 2 * (cycles * 1000) + tick → share % 2 ≡ 0
  pub even_below : 2 * (cycles * 1000) ≡ 2 * tick * share + tick → share % 2 ≡ 0

-- SHARE is that number, and no other number is
abbrev pub ShareNearest : Type 0
ShareNearest = (tick cycles : ℕ) → 1 ≤ tick → Rounded tick cycles (share tick cycles) × ((n : ℕ) → Rounded tick cycles n → n ≡ share tick cycles)

-- the letter of a decision: N or T
abbrev pub letter : Decision → ℕ
letter N = 78
letter T = 84

-- "PATH is `-` with no unknown branch."
unfoldable pub path_text : List Decision → List ℕ
path_text [] = bytes "-"
path_text (d ∷ ds) = letter d ∷ map letter ds

-- "parted by one space"
abbrev pub space : List ℕ
space = bytes " "

-- "Each line ends in a line feed"
abbrev pub feed : List ℕ
feed = bytes "\n"

-- the first four figures
unfoldable pub figures : Report → List ℕ
figures q = decimal q.cycles ++ space ++ decimal q.words ++ space ++ decimal q.depth ++ space ++ decimal q.steps

-- the report of the bound: a line of names, a line of values
unfoldable pub bound_text : ℕ → Report → List ℕ
bound_text tick q =
    bytes "CYCLES WORDS DEPTH STEPS SHARE PATH\n" ++ figures q ++ space ++ decimal (share tick q.cycles) ++ space ++ path_text q.path ++ feed

-- "The run program prints the first four names and their values for the run made."
unfoldable pub run_text : Report → List ℕ
run_text q = bytes "CYCLES WORDS DEPTH STEPS\n" ++ figures q ++ feed

-- "A refusal prints one line: `REFUSED`, number and place in decimal, parted by one space."
unfoldable pub refusal_line : ℕ → ℕ → List ℕ
refusal_line number place = bytes "REFUSED " ++ decimal number ++ space ++ decimal place ++ feed

-- the line of a refusal, by its number and its place
unfoldable pub refusal_text : Refusal → List ℕ
refusal_text r = refusal_line (number r) (place r)
