-- How large a place can be: the line that a row refuses, and the addresses of a passing text. Assumes nothing.
use Rattle.std.specs.Prelude.{None, Option, Some}
use Prim.Native.Nat.{ℕ, suc, ◌+◌, ◌≤◌}
use mathlib.Core.Path.{◌≡◌, refl}
use mathlib.Core.Bool.{Bool, true, false, cond}
use mathlib.Core.List.{List, [], ◌∷◌}
use native.Mathlib.Omega.{arith}
use lib.Dec.{ltb}
use lib.IntN.{ℤ, pos, negsuc, nat_abs}
use lib.ListN.{length, length-map}
use borrow.Author.Tests.{ltb-false}
use Rattle.refusals.specs.declared.Refusal.{Refusal}
use Rattle.refusals.specs.declared.Refusal.TheVariants.{TextLength}
use Rattle.refusals.specs.Refusals.{place}
use Rattle.text.specs.Text.{Line, lines}
use Rattle.text.proofs.TextLaws.{Every, none, more, every_append}
use Rattle.instructions.specs.Kinds.{addresses}
use Rattle.machine.specs.Machine.{index}
use Rattle.machine.specs.Forward.{branches}
use Rattle.machine.proofs.AddressLaws.{Confined}
use Rattle.file_format.specs.declared.Role.{Role}
use Rattle.file_format.specs.Layout.{body, lines_of_code, roles}
use Rattle.file_format.specs.Rows.{Passes, value, arg, first_at, test, earliest, refused_line}
use Rattle.file_format.specs.Routine.{inside, PriceList, instruction_of, code_in, start_of, routine_of, unread, or_else, Check, bound_checks, run_checks, checked, text_limit, limited, read_bound, read_run}
use Rattle.file_format.proofs.RangeLaws.{natural-inside, every-mapped}
use Rattle.file_format.proofs.BranchLaws.{branch-operand}
use Rattle.file_format.proofs.PassingLaws.{first_small, lines-count, code-few}

-- ---- lines

-- a refused line is one of the lines, or the one after the last
earliest-line : (t : Role → Line → Bool) (n : ℕ) (rs : List Role) (ls : List Line) (k : ℕ) → earliest t n rs ls ≡ Some k → k ≤ n + length ls
unfolding earliest
earliest-line t n [] ls k e = let z : ◌≡◌ {A = ℕ} 0 1 = cc in absurd (omega arith)
earliest-line t n (r ∷ rs) [] k e = let f : n ≡ k = cc in omega arith
earliest-line t n (r ∷ rs) (l ∷ ls) k e = go (t r l) e (earliest-line t (suc n) rs ls k)
  where
    go : (b : Bool) → cond b (earliest t (suc n) rs ls) (Some n) ≡ Some k → (earliest t (suc n) rs ls ≡ Some k → k ≤ suc n + length ls) → k ≤ n + suc (length ls)
    go true e ih = omega (arith, ih e)
    go false e ih = let f : n ≡ k = cc in omega arith

-- the place of a row's refusal is the line
abbrev AtLine : Check → Type 0
AtLine c = (n : ℕ) → place (c.refusal n) ≡ n

bound-lines : Every AtLine bound_checks
unfolding place
bound-lines = more (λ n. refl) (more (λ n. refl) (more (λ n. refl) (more (λ n. refl) (more (λ n. refl) (more (λ n. refl) none)))))

run-lines : Every AtLine run_checks
unfolding place
run-lines = every_append bound-lines (more (λ n. refl) none)

checked-place : (ls : List Line) {cs : List Check} → Every AtLine cs → (r : Refusal) → checked cs ls ≡ unread r → place r ≤ suc (length ls)
unfolding checked or_else refused_line
checked-place ls none r e = let z : ◌≡◌ {A = ℕ} 0 1 = cc in absurd (omega arith)
checked-place ls (more {x = c} {xs = cs} p ps) r e = go (refused_line c.row ls) refl e (checked-place ls ps r)
  where
    go : (f : Option ℕ) → refused_line c.row ls ≡ f → or_else f c.refusal (checked cs ls) ≡ unread r → (checked cs ls ≡ unread r → place r ≤ suc (length ls)) → place r ≤ suc (length ls)
    go None q e ih = ih e
    go (Some n) q e ih =
        let f : c.refusal n ≡ r = cc in
        rw (← f, p n) (omega (arith, earliest-line (test c.row ls) 1 (roles ls) ls n q))

read-place : (text : List ℕ) {cs : List Check} → Every AtLine cs → (r : Refusal) → limited text (checked cs (lines text)) ≡ unread r → place r ≤ suc text_limit
unfolding limited place
read-place text {cs} h r e = go (ltb text_limit (length text)) refl e
  where
    go : (b : Bool) → ltb text_limit (length text) ≡ b → cond b (unread TextLength) (checked cs (lines text)) ≡ unread r → place r ≤ suc text_limit
    go true q e = let f : TextLength ≡ r = cc in rw (← f) (omega arith)
    go false q e = omega (arith, checked-place (lines text) h r e, lines-count text, ltb-false text_limit (length text) q)

pub read-bound-place : (text : List ℕ) (r : Refusal) → read_bound text ≡ unread r → place r ≤ 32769
unfolding read_bound
read-bound-place text r e = read-place text bound-lines r e

pub read-run-place : (text : List ℕ) (r : Refusal) → read_run text ≡ unread r → place r ≤ 32769
unfolding read_run
read-run-place text r e = read-place text run-lines r e

-- ---- addresses

index-small : (z : ℤ) (n : ℕ) → nat_abs z ≤ n → index z ≤ n
index-small (pos m) n h = h
index-small (negsuc m) n h = omega arith

-- "Targets are addresses, 0 to 62,000."
instruction-target : (ks : PriceList) (xs : List (List ℕ)) (ps : PriceList) (text : List ℕ) → branches (instruction_of ks xs ps text).operation ≡ true
    → index (instruction_of ks xs ps text).operand ≤ 62000
instruction-target ks xs ps text b =
    rw (branch-operand ks xs ps text b) (index-small (inside addresses (value (arg text))) 62000 (natural-inside 0 62000 (value (arg text))).below)

module _ (ls : List Line) (passes : Passes ls) where
  pub confined : Confined 62000 (routine_of ls).code
  unfolding routine_of code_in
  confined = record {
    past = simp length-map (omega (arith, first_small (first_at (body ls)), code-few ls passes.layout));
    targets = every-mapped (λ l. instruction_of _ _ _ l.text) (λ l. instruction-target _ _ _ l.text) (lines_of_code (body ls));
  }

  pub start_small : (routine_of ls).start.at ≤ 62000
  unfolding routine_of start_of code_in
  start_small = omega (arith, first_small (first_at (body ls)))
