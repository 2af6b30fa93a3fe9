-- The tree of steps from a state, and the bound's verdict and report on it. (document 01, Exploring)
-- Everything is over an action on states: in the bound it is `step c unknown`.
use Rattle.std.specs.Prelude.{◌+◌, ◌∷◌, ◌++◌}
use Rattle.refusals.specs.Library.{ℕ, zero, suc, max, leb, Bool, true, false, List, []}
use Rattle.machine.specs.Terms.{Try, done, stuck, unknown, State, Code, Price, Next, stops, goes, opens, step, height}
use Rattle.refusals.specs.declared.Refusal.{Refusal}
use Rattle.refusals.specs.declared.Refusal.TheVariants.{Stuck, Openings, Spent}

-- why a step of the tree is not made: it is stuck, it would open one branch too many, or the tree is cut off there
pub data Reason : Type 0 where
  is_stuck opens_too_many is_cut : Reason

-- "This makes a tree of steps": a step that is not made, STOP, a step with one way, a step with two (not taken, taken)
pub data Tree : Type 0 where
  unmade : Reason → State → Tree
  stop : State → Price → Tree
  next : State → Price → Tree → Tree
  fork : State → Price → Tree → Price → Tree → Tree

-- the tree from s, by what the step from s leads to, with o openings left; `below` gives the trees below
unfoldable pub expand : (ℕ → State → Tree) → ℕ → State → Try Next → Tree
expand below o s stuck = unmade is_stuck s
expand below o s (done (stops p)) = stop s p
expand below o s (done (goes p t)) = next s p (below o t)
expand below zero s (done (opens p t q u)) = unmade opens_too_many s
expand below (suc o) s (done (opens p t q u)) = fork s p (below o t) q (below o u)

-- the tree, cut off below `fuel` steps; proofs/ show that the verdict is the same for any fuel from BUDGET on
unfoldable pub tree : (State → Try Next) → ℕ → ℕ → State → Tree
tree act zero o s = unmade is_cut s
tree act (suc fuel) o s = expand (tree act fuel) o s (act s)

-- a step: its address, and why it is not made
pub data Step : Type 0 where
  made : ℕ → Step
  not_made : Reason → ℕ → Step

-- the address of a step, made or not
unfoldable pub address : Step → ℕ
address (made a) = a
address (not_made r a) = a

-- "numbered in that depth-first order": preorder, not taken first
unfoldable pub steps : Tree → List Step
steps (unmade r s) = not_made r s.at ∷ []
steps (stop s p) = made s.at ∷ []
steps (next s p t) = made s.at ∷ steps t
steps (fork s p t q u) = made s.at ∷ (steps t ++ steps u)

-- "STEPS is the size of the tree."
unfoldable pub size : Tree → ℕ
size (unmade r s) = 1
size (stop s p) = 1
size (next s p t) = suc (size t)
size (fork s p t q u) = suc (size t + size u)

-- how many steps there are on the longest way down the tree, one that is not made among them
unfoldable pub levels : Tree → ℕ
levels (unmade r s) = 1
levels (stop s p) = 1
levels (next s p t) = suc (levels t)
levels (fork s p t q u) = suc (max (levels t) (levels u))

-- "CYCLES is the maximum cost of Definition 5." (`CostMax` in Traces)
unfoldable pub cycles : Tree → ℕ
cycles (unmade r s) = 0
cycles (stop s p) = p.cycles
cycles (next s p t) = p.cycles + cycles t
cycles (fork s p t q u) = max (p.cycles + cycles t) (q.cycles + cycles u)

-- "WORDS is the largest word sum over all paths"
unfoldable pub words : Tree → ℕ
words (unmade r s) = 0
words (stop s p) = p.words
words (next s p t) = p.words + words t
words (fork s p t q u) = max (p.words + words t) (q.words + words u)

-- "DEPTH the largest stack height over all states, start included"
unfoldable pub depth : Tree → ℕ
depth (unmade r s) = height s
depth (stop s p) = height s
depth (next s p t) = max (height s) (depth t)
depth (fork s p t q u) = max (height s) (max (depth t) (depth u))

-- a decision at an unknown branch: "not taken (N)", "taken (T)"
pub data Decision : Type 0 where
  N T : Decision

-- the path below a branch: the taken way if it costs at least as much, else the other
unfoldable pub worse : Bool → List Decision → List Decision → List Decision
worse true n t = T ∷ t
worse false n t = N ∷ n

-- "PATH gives the decisions of Definition 11 at unknown branches, T where both ways cost the same cycles." (`RunMax` in Traces)
unfoldable pub path : Tree → List Decision
path (unmade r s) = []
path (stop s p) = []
path (next s p t) = path t
path (fork s p t q u) = worse (leb (p.cycles + cycles t) (q.cycles + cycles u)) (path t) (path u)

-- the figures that are reported
pub record Report : Type 0 where
  pub cycles : ℕ
  pub words : ℕ
  pub depth : ℕ
  pub steps : ℕ
  pub path : List Decision

-- the report on a tree
unfoldable pub report : Tree → Report
report t = record { cycles = cycles t; words = words t; depth = depth t; steps = size t; path = path t }

-- a report, or one of the refusals 7, 8 and 9
pub data Verdict : Type 0 where
  accepted : Report → Verdict
  refused : Refusal → Verdict

-- refusals 7, 8 and 9 with their place; "the answer is SPENT, which is refusal 9"
unfoldable pub refusal : Reason → ℕ → Refusal
refusal is_stuck a = Stuck a
refusal opens_too_many a = Openings a
refusal is_cut a = Spent a

-- "If a stuck step or a thirty-third opening stands among the first BUDGET steps, the first such decides. Otherwise, with more than
-- BUDGET steps in the tree, the answer is SPENT", at the "address of the first step not made"
unfoldable pub judge : ℕ → List Step → Report → Verdict
judge b [] r = accepted r
judge zero (x ∷ xs) r = refused (Spent (address x))
judge (suc b) (made a ∷ xs) r = judge b xs r
judge (suc b) (not_made y a ∷ xs) r = refused (refusal y a)

-- the verdict on a tree under BUDGET
unfoldable pub verdict : ℕ → Tree → Verdict
verdict budget t = judge budget (steps t) (report t)

-- "One path may open at most 32 unknown branches"
abbrev pub opening_limit : ℕ
opening_limit = 32

-- the bound by any action, with o openings on a path
unfoldable pub explore : (State → Try Next) → ℕ → ℕ → State → Verdict
explore act o budget s = verdict budget (tree act budget o s)

-- the bound: the answers of primitives are "unknown in the bound"
unfoldable pub bound : Code → ℕ → State → Verdict
bound c budget s = explore (step c unknown) opening_limit budget s
