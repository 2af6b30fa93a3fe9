-- The branches: each kind of them takes a target, which is the operand of its instruction; and the code of a passing text has no jump
-- backwards, and all its targets inside. Assumes nothing.
use Prim.Native.Nat.{ℕ, zero, suc, ◌+◌, ◌-◌, ◌<◌}
use mathlib.Core.Path.{◌≡◌, refl, sym, ◌∙◌, subst}
use mathlib.Core.Bool.{Bool, true, false, cond, ◌&&◌, false≢true}
use mathlib.Core.List.{List, [], ◌∷◌, map}
use native.Mathlib.Omega.{arith}
use lib.IntN.{ℤ, pos, negsuc, ◌+ℤ◌}
use lib.ListN.{length, length-map}
use lib.Signed.{le_z, lt_z}
use borrow.Author.Tests.{ltb-true}
use Rattle.text.specs.Text.{Line, all, find}
use Rattle.text.proofs.TextLaws.{and_right, every-get_d, all-every}
use Rattle.cells.specs.Try.{done}
use Rattle.numbers.specs.Numbers.{within}
use Rattle.instructions.specs.Kinds.{addresses, Kind, kinds, kind_names, operand, kind_at}
use Rattle.instructions.specs.declared.Argument.{Argument}
use Rattle.instructions.specs.declared.Argument.TheVariants.{Absent, Target, Primitive, Within}
use Rattle.machine.specs.Lists.{nth}
use Rattle.machine.specs.Machine.{index, instruction, Instruction}
use Rattle.machine.specs.Forward.{branches, Forward}
use Rattle.machine.specs.Targets.{Closed}
use Rattle.machine.proofs.FetchLaws.{stuck-not, from_first}
use Rattle.file_format.specs.declared.Role.TheVariants.{Code as code}
use Rattle.file_format.specs.declared.Row.{Row}
use Rattle.file_format.specs.declared.Row.TheVariants.{Range as range-row, Name as name-row, Target as target_row, Forward as forward-row}
use Rattle.file_format.specs.Layout.{body, lines_of_code}
use Rattle.file_format.specs.Rows.{Passes, value, at, op, arg, is_target, on_argument, argument_in_range, argument_reaches, argument_forward, at_range, code_in_range, in_range, first_at, on_code, reaches, code_is_forward, forward, test}
use Rattle.file_format.specs.Routine.{inside, argument_value, PriceList, instruction_of, first_address, code_in, routine_of}
use Rattle.file_format.proofs.RangeLaws.{inside_is}
use Rattle.file_format.proofs.CodeLaws.{code-named, kind-there, on-kind}
use Rattle.file_format.proofs.PassingLaws.{Coded, next, code-passed, first-natural}

-- ---- the operand of a branch

-- a kind that branches takes a target
abbrev targeted : Kind → Bool
targeted k = cond (branches k.operation) (is_target k.argument) true

kinds-targeted : (i : ℕ) → targeted (kind_at i) ≡ true
unfolding kinds kind_at all
kinds-targeted i = every-get_d (all-every targeted kinds refl) refl i

branch-target : (k : Kind) → targeted k ≡ true → branches k.operation ≡ true → k.argument ≡ Target
branch-target k e b = go (branches k.operation) k.argument b e
  where
    go : (b : Bool) (a : Argument) → b ≡ true → cond b (is_target a) true ≡ true → a ≡ Target
    go false a b e = absurd (false≢true b)
    go true Absent b e = absurd (false≢true e)
    go true Target b e = refl
    go true Primitive b e = absurd (false≢true e)
    go true (Within r) b e = absurd (false≢true e)

operand-target : (ps : List (List ℕ)) (w : List ℕ) (k : Kind) → k.argument ≡ Target → operand k (argument_value ps w k.argument) ≡ inside addresses (value w)
unfolding operand argument_value
operand-target ps w k e = rw e refl

module _ (ks : PriceList) (xs : List (List ℕ)) (ps : PriceList) where
  argument-target : (text : List ℕ) → branches (instruction_of ks xs ps text).operation ≡ true → (kind_at (find (op text) kind_names)).argument ≡ Target
  unfolding instruction_of instruction
  argument-target text b = let i = find (op text) kind_names in branch-target (kind_at i) (kinds-targeted i) b

  pub branch-operand : (text : List ℕ) → branches (instruction_of ks xs ps text).operation ≡ true → (instruction_of ks xs ps text).operand ≡ inside addresses (value (arg text))
  unfolding instruction_of instruction
  branch-operand text b = operand-target ps.names (arg text) (kind_at (find (op text) kind_names)) (argument-target text b)

  -- ---- what the rows say of it

  -- of code line k, where it branches: its target's word is an address, and passes the test of the row on it
  record Targeted (k : ℕ) (l : Line) (test' : Argument → Bool) : Type 0 where
    operand : (instruction_of ks xs ps l.text).operand ≡ value (arg l.text)
    passes : test' Target ≡ true

  targeted-line : (ls : List Line) (k : ℕ) (l : Line) (t : Argument → Bool) → test range-row ls (code k) l ≡ true → test name-row ls (code k) l ≡ true → on_argument t l.text ≡ true
      → branches (instruction_of ks xs ps l.text).operation ≡ true → Targeted k l t
  unfolding test in_range code_in_range argument_in_range find
  targeted-line ls k l t r n f b =
      let text = l.text in
      let w = arg text in
      let (i, e) = kind-there (op text) (code-named ls k text n).kind in
      let a : (kind_at i).argument ≡ Target = rw e at (argument-target text b) in
      let g = and_right (within (at_range k) (value (at text))) (on_argument (argument_in_range w) text) r in
      let h : within addresses (value w) ≡ true = subst (λ a. argument_in_range w a ≡ true) a (on-kind (argument_in_range w) text i e g) in
      record {
        operand = branch-operand text b ∙ inside_is addresses (value w) h;
        passes = subst (λ a. t a ≡ true) a (on-kind t text i e f);
      }

  -- of the code lines from number k on: what holds of the number and the target of each that branches
  lines-each : (ls : List Line) (row : Row) (Q : ℕ → ℕ → Type 0)
      → ((k : ℕ) (l : Line) → test range-row ls (code k) l ≡ true → test name-row ls (code k) l ≡ true → test row ls (code k) l ≡ true
      → branches (instruction_of ks xs ps l.text).operation ≡ true → Q k (index (instruction_of ks xs ps l.text).operand))
      → (k : ℕ) (ms : List Line) → Coded (test range-row ls) k ms → Coded (test name-row ls) k ms → Coded (test row ls) k ms
      → (j : ℕ) (i : Instruction) → nth j (map (λ l. instruction_of ks xs ps l.text) ms) ≡ done i → branches i.operation ≡ true → Q (k + j) (index i.operand)
  unfolding nth
  lines-each ls row Q line k [] r n f j i e b = stuck-not i e
  lines-each ls row Q line k (l ∷ ms) (next r rs) (next n ns) (next f fs) zero i e b =
      let q : instruction_of ks xs ps l.text ≡ i = cc in
      let z : k ≡ k + 0 = omega arith in
      subst (λ k. Q k (index i.operand)) z (subst (λ (i : Instruction). branches i.operation ≡ true → Q k (index i.operand)) q (line k l r n f) b)
  lines-each ls row Q line k (l ∷ ms) (next r rs) (next n ns) (next f fs) (suc j) i e b =
      let z : suc k + j ≡ k + suc j = omega arith in
      subst (λ k. Q k (index i.operand)) z (lines-each ls row Q line (suc k) ms rs ns fs j i e b)

  module _ (ls : List Line) (p : Passes ls) where
    -- row 13: above its own address
    above : (f k : ℕ) (v : ℤ) → lt_z (pos f +ℤ pos k) v ≡ true → f + k < index v
    above f k (pos n) e = ltb-true (f + k) n e
    above f k (negsuc n) e = absurd (false≢true e)

    line-forward : (k : ℕ) (l : Line) → test range-row ls (code k) l ≡ true → test name-row ls (code k) l ≡ true → test forward-row ls (code k) l ≡ true
        → branches (instruction_of ks xs ps l.text).operation ≡ true → first_address (body ls) + k < index (instruction_of ks xs ps l.text).operand
    unfolding test forward code_is_forward argument_forward
    line-forward k l r n f b =
        let w = arg l.text in
        let t = targeted-line ls k l (argument_forward (first_at (body ls) +ℤ pos k) w) r n f b in
        rw t.operand (above (first_address (body ls)) k (value w) (subst (λ z. lt_z (z +ℤ pos k) (value w) ≡ true) (sym (first-natural ls p.range)) t.passes))

    -- row 6: an address of the code
    below : (f m : ℕ) (v : ℤ) → (le_z (pos f) v && lt_z v (pos f +ℤ pos m)) ≡ true → index v < f + m
    below f m (pos n) e = ltb-true n (f + m) (and_right (le_z (pos f) (pos n)) (lt_z (pos n) (pos f +ℤ pos m)) e)
    below f m (negsuc n) e = absurd (false≢true e)

    line-closed : (k : ℕ) (l : Line) → test range-row ls (code k) l ≡ true → test name-row ls (code k) l ≡ true → test target_row ls (code k) l ≡ true
        → branches (instruction_of ks xs ps l.text).operation ≡ true → index (instruction_of ks xs ps l.text).operand < first_address (body ls) + length (lines_of_code (body ls))
    unfolding test reaches on_code argument_reaches
    line-closed k l r n f b =
        let w = arg l.text in
        let m = length (lines_of_code (body ls)) in
        let t = targeted-line ls k l (argument_reaches (first_at (body ls)) m w) r n f b in
        rw t.operand (below (first_address (body ls)) m (value w) (subst (λ z. (le_z z (value w) && lt_z (value w) (z +ℤ pos m)) ≡ true) (sym (first-natural ls p.range)) t.passes))

-- the code of a passing text has no jump backwards
pub passing-forward : (ls : List Line) → Passes ls → Forward (routine_of ls).code
unfolding routine_of code_in
passing-forward ls p = record {
  above = λ a i e b.
      let q = from_first (code_in ls) a i e in
      let h = lines-each _ _ _ ls forward-row (λ k x. first_address (body ls) + k < x) (line-forward _ _ _ ls p) 0 (lines_of_code (body ls))
      (code-passed range-row ls p.range) (code-passed name-row ls p.names) (code-passed forward-row ls p.forward) (a - first_address (body ls)) i q.1 b in
      omega (arith, q.0, h);
}

-- and all its targets are inside it
pub passing-closed : (ls : List Line) → Passes ls → Closed (routine_of ls).code
unfolding routine_of code_in
passing-closed ls p = record {
  inside = λ a i e b.
      let q = from_first (code_in ls) a i e in
      let h = lines-each _ _ _ ls target_row (λ k x. x < first_address (body ls) + length (lines_of_code (body ls))) (line-closed _ _ _ ls p) 0 (lines_of_code (body ls))
      (code-passed range-row ls p.range) (code-passed name-row ls p.names) (code-passed target_row ls p.targets) (a - first_address (body ls)) i q.1 b in
      simp length-map h;
}
