-- Worked examples of a tree's report and verdict. Assumes nothing.
use mathlib.Core.Path.{◌≡◌, refl}
use mathlib.Core.Bool.{false}
use mathlib.Core.List.{[], ◌∷◌}
use Prim.Native.Nat.{ℕ, ◌+◌}
use Rattle.refusals.specs.declared.Refusal.TheVariants.{Stuck, Spent}
use Rattle.machine.specs.Machine.{State, Price}
use Rattle.bound_theory.specs.Run.{Run, judge_run}
use Rattle.bound_theory.specs.Tree.{Tree, unmade, is_stuck, stop, next, fork, cycles, words, path, worse, N, T, size, steps, address, report, refusal, refused, judge, verdict}

abbrev price : ℕ → ℕ → Price
price c w = record { cycles = c; words = w }

-- a branch of price 1, and x more if it jumps, to a STOP with one price or a STOP with another
abbrev extra : ℕ → State → Price → Price → Tree
extra x s p q = fork s (price 1 0) (stop s p) (price (1 + x) 0) (stop s q)

abbrev branch : State → Price → Price → Tree
branch s p q = extra 0 s p q

abbrev made-two : State → Run
made-two s = record { state = s; answers = []; cycles = 2; words = 0; depth = 0; steps = 2; stopped = false }

pub examples : (s : State) →
    -- case 4: WORDS is not that of the path that is worst in cycles
    (cycles (branch s (price 12 1) (price 6 9)) ≡ 13) × (words (branch s (price 12 1) (price 6 9)) ≡ 9) × (path (branch s (price 12 1) (price 6 9)) ≡ N ∷ [])
    -- each way has its own price
    × (cycles (branch s (price 6 0) (price 12 0)) ≡ 13)
    -- "T where both ways cost the same cycles"
    × (path (branch s (price 6 0) (price 6 0)) ≡ T ∷ [])
    -- "with the extra on the taken way": not enough, a tie, more
    × (cycles (extra 5 s (price 12 0) (price 6 0)) ≡ 13) × (path (extra 5 s (price 12 0) (price 6 0)) ≡ N ∷ [])
    × (cycles (extra 6 s (price 12 0) (price 6 0)) ≡ 13) × (path (extra 6 s (price 12 0) (price 6 0)) ≡ T ∷ [])
    × (cycles (extra 7 s (price 12 0) (price 6 0)) ≡ 14) × (path (extra 7 s (price 12 0) (price 6 0)) ≡ T ∷ [])
    -- a stuck step is a step of the tree: 7 within BUDGET, 9 as step BUDGET + 1
    × (size (next s (price 1 0) (unmade is_stuck s)) ≡ 2)
    × (verdict 2 (next s (price 1 0) (unmade is_stuck s)) ≡ refused (Stuck s.at))
    × (verdict 1 (next s (price 1 0) (unmade is_stuck s)) ≡ refused (Spent s.at))
    -- of a run that has made two steps: its third is one of the first three, or step BUDGET + 1
    × (judge_run 3 (made-two s) ≡ refused (Stuck s.at))
    × (judge_run 2 (made-two s) ≡ refused (Spent s.at))
unfolding cycles words path worse size steps address report refusal judge verdict judge_run
examples s = (refl, refl, refl, refl, refl, refl, refl, refl, refl, refl, refl, refl, refl, refl, refl, refl)
