-- The statements of `specs/Promises`, each proved by its name. Assumes nothing.
use mathlib.Core.Path.{◌≡◌, refl, sym, ap, subst, ◌∙◌}
use mathlib.Core.Bool.{Bool, true, cond}
use mathlib.Core.List.{List, [], ◌∷◌, ◌++◌, append_assoc}
use Prim.Native.Nat.{ℕ, zero, suc, ◌+◌, ◌-◌, ◌<◌}
use native.Mathlib.Omega.{arith}
use lib.Dec.{leb, ltb}
use lib.ListN.{length, get_or, set}
use lib.Seq.{set-get_or}
use borrow.Author.Tests.{ltb-true, leb-true, le-ltb, le-leb, lt-ltb}
use Rattle.cells.specs.Try.{stuck, done}
use Rattle.machine.specs.Lists.{nth}
use Rattle.machine.specs.Machine.{Instruction, fetch}
use Rattle.machine.proofs.FetchLaws.{from_first, fetch-below}
use Rattle.text.specs.Text.{bytes, Line, no_line, lines, lines_text}
use Rattle.text.proofs.TextLaws.{Every, none, more, and_left, and_right}
use Rattle.text.proofs.LineLaws.{ended_line}
use Rattle.file_format.specs.Layout.{layout, body, lines_of_code}
use Rattle.file_format.specs.Rows.{op, arg}
use Rattle.file_format.specs.Routine.{Routine, code_in, routine_of}
use Rattle.file_format.proofs.RowLaws.{read-passes, lines-ended}
use Rattle.text.proofs.JoinLaws.{text-of-lines}
use Rattle.preview_copy.specs.Patch.{in_code, patched_at, patched}
use Rattle.preview_copy.specs.Promises.{InCodeWhere, CopyReplacesOne, SameInstructionKeeps}
use Rattle.preview_copy.proofs.PatchLaws.{code-count, line-there, line-coded}
use Rattle.preview_copy.proofs.ReplacedLaws.{replaced_line, patched-lines, lines-replaced, one-replaced}

nth-there : (n : ℕ) (is : List Instruction) → n < length is → (i : Instruction) × (nth n is ≡ done i)
unfolding nth
nth-there n [] h = absurd (omega arith)
nth-there zero (i ∷ is) h = (i, refl)
nth-there (suc n) (i ∷ is) h = nth-there n is (omega arith)

pub in-code-where : InCodeWhere
unfolding in_code fetch
in-code-where c a = (found, inside)
  where
    found : in_code c a ≡ true → (i : Instruction) × (fetch c a ≡ done i)
    found e =
        let n = a - c.first in
        let low = leb-true c.first a (and_left (leb c.first a) (ltb n (length c.instructions)) e) in
        let high = ltb-true n (length c.instructions) (and_right (leb c.first a) (ltb n (length c.instructions)) e) in
        let there = nth-there n c.instructions high in
        (there.0, ap (λ (t : Bool). cond t stuck (nth n c.instructions)) (le-ltb a c.first low) ∙ there.1)

    inside : ((i : Instruction) × (fetch c a ≡ done i)) → in_code c a ≡ true
    inside (i, e) =
        let low = (from_first c a i e).0 in
        let high = fetch-below c a i e in
        rw (le-leb c.first a low, lt-ltb (a - c.first) (length c.instructions) (omega arith)) refl

-- an address of the code by its place in it
place_in : (ls : List Line) (address : ℕ) → in_code (code_in ls) address ≡ true → address - (code_in ls).first < length (lines_of_code (body ls))
unfolding in_code
place_in ls address e =
    let c = code_in ls in
    omega (arith, code-count ls, ltb-true (address - c.first) (length c.instructions) (and_right (leb c.first address) (ltb (address - c.first) (length c.instructions)) e))

routine-code : (ls : List Line) → (routine_of ls).code ≡ code_in ls
unfolding routine_of
routine-code ls = refl

pub copy-replaces-one : CopyReplacesOne
unfolding patched routine_of
copy-replaces-one text instruction address x y e a f g =
    let ls = lines text in
    let r = read-passes text x e in
    let q : x.code ≡ code_in ls = ap (λ (z : Routine). z.code) r.1 ∙ routine-code ls in
    let j = address - (code_in ls).first in
    let h : j < length (lines_of_code (body ls)) = place_in ls address (subst (λ c. in_code c address ≡ true) q a) in
    let new = set ls (length layout + j) (replaced_line ls (length layout + j) instruction) in
    let m : lines (patched_at ls (length layout + j) instruction) ≡ new = lines-replaced text r.0 (length layout + j) (omega arith, omega arith) instruction f in
    let z : y ≡ routine_of new = (read-passes (patched_at ls (length layout + j) instruction) y g).1 ∙ ap routine_of m in
    rw (z, r.1, routine-code ls) (one-replaced ls r.0 j h instruction address)

-- a line that is ended, by its text
ended_at : {ls : List Line} → Every (λ l. l.ended ≡ true) ls → (k : ℕ) → k < length ls → ended_line (get_or ls k no_line).text ≡ get_or ls k no_line
ended_at none k h = absurd (omega arith)
ended_at (more {x = l} e es) zero h = ap (λ b. record { text = l.text; ended = b }) (sym e)
ended_at (more e es) (suc k) h = ended_at es k (omega arith)

pub same-instruction-keeps : SameInstructionKeeps
unfolding patched
same-instruction-keeps text address x e a =
    let ls = lines text in
    let r = read-passes text x e in
    let q : x.code ≡ code_in ls = ap (λ (z : Routine). z.code) r.1 ∙ routine-code ls in
    let j = address - (code_in ls).first in
    let h : j < length (lines_of_code (body ls)) = place_in ls address (subst (λ c. in_code c address ≡ true) q a) in
    let k = length layout + j in
    let t = line-there ls r.0 k (omega arith, omega arith) in
    let c = line-coded ls r.0 k (omega arith, omega arith) in
    let l = get_or ls k no_line in
    let same : replaced_line ls k (op l.text ++ bytes " " ++ arg l.text) ≡ l =
    ap ended_line (sym (c.three ∙ simp append_assoc)) ∙ ended_at (lines-ended ls r.0.layout) k t in
    patched-lines ls k (op l.text ++ bytes " " ++ arg l.text) t
    ∙ ap lines_text (ap (set ls k) same ∙ set-get_or ls k no_line)
    ∙ text-of-lines text (lines-ended ls r.0.layout)
