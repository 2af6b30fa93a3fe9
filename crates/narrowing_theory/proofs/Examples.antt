-- Case 2 of document 01 with ACCU `?`, `0..1008` and 7: the statements are not empty, by computation. And a call on the way that is not walked.
-- Assumes nothing.
use mathlib.Core.Path.{◌≡◌, refl, sym, ap, ◌∙◌}
use mathlib.Core.Bool.{true, false≢true}
use mathlib.Core.List.{List, [], ◌∷◌}
use Prim.Native.Nat.{ℕ, zero, suc, ◌+◌, ◌-◌, ◌<◌}
use native.Mathlib.Omega.{arith}
use lib.IntN.{pos}
use Rattle.text.specs.Text.{bytes, equals, find}
use Rattle.text.proofs.TextLaws.{none, more}
use Rattle.numbers.specs.Numbers.{wrap}
use Rattle.cells.specs.Try.{done, ◌>>=◌}
use Rattle.cells.specs.declared.Cell.{Cell}
use Rattle.cells.specs.Cells.{exactly, unknown, between, condition_in, condition}
use Rattle.cells.specs.Order.{Refines, inside, end}
use Rattle.merge_cells.specs.Merge.{merge_values, merge_cells}
use Rattle.cells.proofs.CellLaws.{allowed-lawful}
use Rattle.instructions.specs.Kinds.{kinds, kind_names, operand, kind_at}
use Rattle.instructions.specs.declared.Operation.{Operation}
use Rattle.instructions.specs.declared.Operation.TheVariants.{BranchIf, Call, Stop}
use Rattle.machine.specs.Lists.{nth}
use Rattle.machine.specs.Machine.{index, instruction, State, Instruction, Code, fetch, height, jump, advance, with_extra, ways, perform, prepare, execute, step, takes, takes_answer}
use Rattle.machine.specs.Order.{Cellwise}
use Rattle.machine.specs.Forward.{branches, Forward}
use Rattle.machine.specs.Targets.{Closed}
use Rattle.machine.proofs.FetchLaws.{stuck-not, from_first, fetch-every}
use Rattle.bound_theory.specs.Tree.{expand, tree, steps, size, cycles, words, depth, Decision, T, worse, path, Report, report, accepted, judge, verdict, explore, bound}
use Rattle.bound_theory.specs.Run.{begin, answer, remaining, moved, leads, once, after, judge_run, run}
use Rattle.bound_theory.specs.Promises.{NoGreater}
use Rattle.bound_theory.proofs.RunLaws.{nothing-follows, after-after}
use Rattle.merge_theory.specs.Merge.{merge_lists, merge_states, larger, settle, join, slot, nowhere, arrive, send, reach, finish, carry, visit, sweep, only, merged}
use Rattle.merge_theory.proofs.Theorems.{merged-monotone}
use Rattle.narrowing_theory.specs.Promises.{Plain, NoCalls}
use Rattle.narrowing_theory.proofs.Theorems.{bound-monotone, bound-is-run, merged-is-run}

abbrev line : List ℕ → ℕ → ℕ → Instruction
line name a c = instruction (kind_at (find name kind_names)) (pos a) (record { cycles = c; words = 0 }) 0

-- case 2
unfoldable pub code : Code
code = record { first = 0; instructions = line (bytes "BRANCHIF") 1 5 ∷ line (bytes "STOP") 0 1 ∷ [] }

-- with a call of 50 cycles on the way that is not taken
unfoldable pub calling : Code
calling = record { first = 0; instructions = line (bytes "BRANCHIF") 2 5 ∷ line (bytes "C_CALL1") 0 50 ∷ line (bytes "STOP") 0 1 ∷ [] }

abbrev pub start : Cell → State
start a = record { at = 0; accu = a; stack = []; blocks = [] }

-- `0..1008`
abbrev pub count : Cell
count = between (pos 0) (pos 1008)

abbrev pub seven : Cell
seven = exactly (pos 7)

abbrev pub figures : ℕ → ℕ → List Decision → Report
figures c n ds = record { cycles = c; words = 0; depth = 0; steps = n; path = ds }

-- ---- by computation

abbrev Computed : Type 0
Computed =
    (bound code 1000 (start unknown) ≡ accepted (figures 6 3 (T ∷ [])))
    × (bound code 1000 (start count) ≡ accepted (figures 6 3 (T ∷ [])))
    × (bound code 1000 (start seven) ≡ accepted (figures 6 2 []))
    × (merged code (start unknown) ≡ accepted (figures 6 2 []))
    × (merged code (start count) ≡ accepted (figures 6 2 []))
    × (merged code (start seven) ≡ accepted (figures 6 2 []))
    × (run code 3 (start seven) [] ≡ accepted (figures 6 2 []))
    × (bound calling 1000 (start seven) ≡ accepted (figures 6 2 []))
    × (merged calling (start seven) ≡ accepted (figures 6 2 []))
    × (run calling 3 (start seven) [] ≡ accepted (figures 6 2 []))

pub computed : Computed
unfolding code calling equals find wrap ◌>>=◌ condition_in condition kinds kind_names operand kind_at instruction nth fetch height jump advance with_extra ways perform prepare execute step takes takes_answer expand tree steps size cycles words depth worse path report judge verdict explore bound begin answer remaining moved leads once after judge_run run merge_values merge_cells merge_lists merge_states larger settle join slot nowhere arrive send reach finish carry visit sweep only merged between
computed = (refl, refl, refl, refl, refl, refl, refl, refl, refl, refl)

-- ---- each statement at these starts

narrowed : {a b : Cell} → Refines a b → Cellwise Refines (start a) (start b)
narrowed r = record { at = refl; accu = r; stack = end; blocks = end }

pub count-narrower : Cellwise Refines (start count) (start unknown)
unfolding between
count-narrower = narrowed (inside (record { least = refl; greatest = refl }))

pub seven-in-count : Cellwise Refines (start seven) (start count)
unfolding between wrap
seven-in-count = narrowed (inside (record { least = refl; greatest = refl }))

is_plain : Plain (start seven)
is_plain = record { at = refl; accu = allowed-lawful.numbers (pos 7); stack = end; blocks = end }

-- there is no call in case 2
pub case2-calls-nothing : NoCalls code 1000 (start seven) []
unfolding code equals find kinds kind_names operand kind_at instruction
case2-calls-nothing k lt i e = fetch-every code _ i e {P = λ i. i.operation ≡ Call → ⊥} (more (λ h. let z : ◌≡◌ {A = ℕ} 0 1 = cc in omega arith) (more (λ h. let z : ◌≡◌ {A = ℕ} 0 1 = cc in omega arith) none))

-- the run of the second code makes STOP with its second step, at 2
ends : (k : ℕ) → (after calling (suc (suc k)) (begin (start seven) [])).state.at ≡ 2
unfolding calling equals find wrap ◌>>=◌ condition_in condition kinds kind_names operand kind_at instruction nth fetch height jump advance with_extra ways perform prepare execute step takes takes_answer begin answer remaining moved leads once after
ends k =
    let e : suc (suc k) ≡ 2 + k = omega arith in
    ap (λ n. (after calling n (begin (start seven) [])).state.at) e
    ∙ ap (λ r. r.state.at) (after-after calling 2 k (begin (start seven) []) ∙ nothing-follows calling k (after calling 2 (begin (start seven) [])) refl)

other-than : (a : ℕ) (j : Instruction) (o : Operation) → fetch calling a ≡ done j → j.operation ≡ o → (o ≡ Call → ⊥) → (b : ℕ) → b ≡ a → (i : Instruction) → fetch calling b ≡ done i → i.operation ≡ Call → ⊥
other-than a j o f g apart b q i e h =
    let k : done i ≡ done j = sym e ∙ ap (fetch calling) q ∙ f in
    let l : i ≡ j = cc in
    apart (sym g ∙ ap (λ i. i.operation) (sym l) ∙ h)

pub calls-nothing : NoCalls calling 1000 (start seven) []
unfolding calling equals find wrap ◌>>=◌ condition_in condition kinds kind_names operand kind_at instruction nth fetch height jump advance with_extra ways perform prepare execute step takes takes_answer begin answer remaining moved leads once after
calls-nothing zero lt = other-than 0 _ BranchIf refl refl (λ e. let z : ◌≡◌ {A = ℕ} 0 1 = cc in omega arith) _ refl
calls-nothing (suc zero) lt = other-than 2 _ Stop refl refl (λ e. let z : ◌≡◌ {A = ℕ} 0 1 = cc in omega arith) _ refl
calls-nothing (suc (suc k)) lt = other-than 2 _ Stop refl refl (λ e. let z : ◌≡◌ {A = ℕ} 0 1 = cc in omega arith) _ (ends k)

-- a branch at a jumps forwards, to no address after the third
record Inside (a : ℕ) (i : Instruction) : Type 0 where
  above : a < index i.operand
  below : index i.operand < 3

of_three : (x y z : Instruction) → (branches x.operation ≡ true → Inside 0 x) → (branches y.operation ≡ true → Inside 1 y) → (branches z.operation ≡ true → Inside 2 z) →
    (a : ℕ) (i : Instruction) → nth a (x ∷ y ∷ z ∷ []) ≡ done i → branches i.operation ≡ true → Inside a i
unfolding nth
of_three x y z p q r zero i e b = let h : i ≡ x = cc in rw h (p (rw h at b))
of_three x y z p q r (suc zero) i e b = let h : i ≡ y = cc in rw h (q (rw h at b))
of_three x y z p q r (suc (suc zero)) i e b = let h : i ≡ z = cc in rw h (r (rw h at b))
of_three x y z p q r (suc (suc (suc a))) i e b = stuck-not i e

jumps : (a : ℕ) (i : Instruction) → fetch calling a ≡ done i → branches i.operation ≡ true → Inside a i
unfolding calling equals find kinds kind_names operand kind_at instruction
jumps a i e =
    let f = (from_first calling a i e).1 in
    let g : a - 0 ≡ a = omega arith in
    of_three _ _ _ (λ b. record { above = omega arith; below = omega arith }) (λ b. absurd (false≢true b)) (λ b. absurd (false≢true b)) a i (rw g at f)

is-forward : Forward calling
is-forward = record { above = λ a i e b. (jumps a i e b).above }

is-closed : Closed calling
unfolding calling
is-closed = record { inside = λ a i e b. (jumps a i e b).below }

pub instances :
    -- knowing that ACCU is in 0..1008, and that it is 7
    ((r : Report) × (bound code 1000 (start count) ≡ accepted r) × NoGreater r (figures 6 3 (T ∷ [])))
    × ((r : Report) × (bound code 1000 (start seven) ≡ accepted r) × NoGreater r (figures 6 3 (T ∷ [])))
    × ((r : Report) × (merged code (start count) ≡ accepted r) × NoGreater r (figures 6 2 []))
    × ((r : Report) × (merged code (start seven) ≡ accepted r) × NoGreater r (figures 6 2 []))
    -- every cell known, and no call on the way that is walked
    × (bound calling 1000 (start seven) ≡ run calling 1000 (start seven) [])
    × (run calling 1000 (start seven) [] ≡ accepted (figures 6 2 []))
instances = (
  bound-monotone code 1000 (start unknown) (figures 6 3 (T ∷ [])) computed.0 (start count) count-narrower,
  bound-monotone code 1000 (start count) (figures 6 3 (T ∷ [])) computed.1 (start seven) seven-in-count,
  merged-monotone code (start unknown) (figures 6 2 []) computed.3 (start count) count-narrower,
  merged-monotone code (start count) (figures 6 2 []) computed.4 (start seven) seven-in-count,
  bound-is-run calling 1000 (start seven) [] is_plain calls-nothing,
  (merged-is-run calling is-forward is-closed 1000 (start seven) [] is_plain calls-nothing).0 (figures 6 2 []) computed.8 (omega arith),
)
