-- What the explorer's answer stands for: the verdict of the bound, and how many steps were walked.
use Rattle.std.specs.Prelude.{◌+◌, ◌-◌, ◌*◌, ◌≤◌, ◌∷◌, ◌≡◌, Err, Ok, Result, ⊤}
use Rattle.refusals.specs.Library.{ℕ, zero, suc, max, leb, cond, List, []}
use Rattle.bound_theory.specs.Terms.{Refusal, Decision, N, T, Report, Verdict, accepted, refused, Price}
use Rattle.bound_theory.specs.Tree.{Step, made, not_made}
use Rattle.bound_figures.specs.declared.Found.{Found}
use Rattle.bound_figures.specs.declared.Tally.{Tally}

-- the decisions of a path as one number: the first lowest, 1 for taken, with a 1 above the last
unfoldable pub encode : List Decision → ℕ
encode [] = 1
encode (N ∷ ds) = 2 * encode ds
encode (T ∷ ds) = 2 * encode ds + 1

-- an accepted answer with the figures of a report
unfoldable pub accepted_as : Report → Found
accepted_as q = record { verdict = Ok tt; used = q.steps; cycles = q.cycles; words = q.words; depth = q.depth; path = encode q.path }

-- the answer r shows the verdict v
abbrev pub Shows : Found → Verdict → Type 0
Shows r (accepted q) = r ≡ accepted_as q
Shows r (refused x) = r.verdict ≡ Err x

-- the steps walked under a budget: all of them, or those up to and with the first that is not made
unfoldable pub walked : ℕ → List Step → ℕ
walked b [] = 0
walked zero (x ∷ xs) = 0
walked (suc b) (made a ∷ xs) = suc (walked b xs)
walked (suc b) (not_made r a ∷ xs) = 1

-- ---- the parts of the explorer

-- no step yet of a budget
abbrev pub zero_tally : ℕ → Tally
zero_tally budget = record { left = budget; cycles = 0; words = 0; depth = 0 }

-- the steps since the last branch, with one more of price p from a state of height h, and one less left
unfoldable pub more_of : Tally → Price → ℕ → Tally
more_of t p h = record { left = t.left - 1; cycles = t.cycles + p.cycles; words = t.words + p.words; depth = max t.depth h }

-- the same where its last step is a branch that jumps, and the extra x is paid
unfoldable pub jumped_of : Tally → ℕ → Tally
jumped_of t x = record { left = t.left; cycles = t.cycles + x; words = t.words; depth = t.depth }

-- the larger of two costs decides: "T where both ways cost the same cycles"
unfoldable pub decided_of : ℕ → ℕ → ℕ → ℕ → ℕ
decided_of k l p q = cond (leb k l) (2 * q + 1) (2 * p)

-- n steps of a tally, and then the two ways of a branch, with the extra x on the taken one
unfoldable pub joined_of : Tally → ℕ → Found → ℕ → Found → Found
joined_of t n f x g = record {
  verdict = Ok tt;
  used = n + f.used + g.used;
  cycles = t.cycles + max f.cycles (x + g.cycles);
  words = t.words + max f.words g.words;
  depth = max t.depth (max f.depth g.depth);
  path = decided_of f.cycles (x + g.cycles) f.path g.path;
}

-- n steps of a tally, the last of them STOP
unfoldable pub finished_of : Tally → ℕ → Found
finished_of t n = record { verdict = Ok tt; used = n; cycles = t.cycles; words = t.words; depth = t.depth; path = 1 }

-- n steps walked, and a refusal
unfoldable pub refused_as : Refusal → ℕ → Found
refused_as x n = record { verdict = Err x; used = n; cycles = 0; words = 0; depth = 0; path = 1 }

-- n steps of a tally, and then the two ways of a branch: the first refusal of the two, with the steps up to it, or both joined
unfoldable pub second_of : Tally → ℕ → Found → ℕ → Found → Result ⊤ Refusal → Found
second_of t n f x g (Ok tt) = joined_of t n f x g
second_of t n f x g (Err y) = refused_as y (n + f.used + g.used)

unfoldable pub first_found_of : Tally → ℕ → Found → ℕ → Found → Result ⊤ Refusal → Found
first_found_of t n f x g (Ok tt) = second_of t n f x g g.verdict
first_found_of t n f x g (Err y) = refused_as y (n + f.used)

unfoldable pub both_of : Tally → ℕ → Found → ℕ → Found → Found
both_of t n f x g = first_found_of t n f x g f.verdict

-- a price by its cycles and its words
abbrev pub price : ℕ → ℕ → Price
price c w = record { cycles = c; words = w }

-- no sum of the two ways is too large for the code's numbers
pub record Summable (t : Tally) (n : ℕ) (f g : Found) : Type 0 where
  pub steps : n + f.used + g.used ≤ 1000000
  pub tally : (t.cycles ≤ 8589934592000000) × (t.words ≤ 4294967296000000)
  pub first : (f.cycles ≤ 8589934592000000) × (f.words ≤ 4294967296000000)
  pub second : (g.cycles ≤ 8589934592000000) × (g.words ≤ 4294967296000000)
  pub paths : (f.path ≤ 4294967296) × (g.path ≤ 4294967296)
