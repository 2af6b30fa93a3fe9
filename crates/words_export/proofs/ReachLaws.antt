-- What a passing text says of its code lines: each target is the address of one of them; and what is taken of such a text is what the passes
-- of the export ask for. Assumes nothing.
use Prim.Native.Nat.{ℕ, zero, suc, ◌<◌, ◌≤◌}
use mathlib.Core.Path.{◌≡◌, refl, sym, ap, ap₂, ◌∙◌}
use mathlib.Core.Bool.{Bool, true, false, cond}
use mathlib.Core.List.{List, [], ◌∷◌}
use native.Mathlib.Omega.{arith}
use lib.ListN.{length, get_or, take, length-map}
use lib.Seq.{length-take-le}
use borrow.Author.Tests.{leb-true}
use Rattle.text.specs.Text.{Line, no_line, find}
use Rattle.file_format.specs.declared.Section.TheVariants.{Primitives as primitives, Answers as answers}
use Rattle.file_format.specs.declared.Role.{Role}
use Rattle.file_format.specs.declared.Role.TheVariants.{Names as names, Code as code}
use Rattle.file_format.specs.declared.Row.TheVariants.{Name as name-row, Target as target_row}
use Rattle.file_format.specs.Layout.{layout, is_answer, body, up_to_answer, lines_of_code, answer_roles, code_roles, body_roles, list, text_at, listed}
use Rattle.file_format.specs.Rows.{Passes, op, arg, argument_reaches, names_laid_out, on_code, is_laid_out, first_at, reaches, test}
use Rattle.file_format.specs.Routine.{first_address}
use Rattle.file_format.proofs.RowLaws.{Covered, passed, passes-laid-out}
use Rattle.file_format.proofs.CodeLaws.{code-named, kind-there, on-kind}
use Rattle.file_format.proofs.PassingLaws.{covered-body, first-natural, first_small, code-few, code-among}
use Rattle.file_format.proofs.CodeLineLaws.{code-take}
use Rattle.words.specs.Export.{positions, export_ops, export_bytes}
use Rattle.words_export.specs.HeldLines.{ops_in, bytes_from, lines_bytes, Indexed, CodeLeads}
use Rattle.words_export.proofs.ExportingLaws.{positions-length, positions-small, export_is}

-- ---- what two passed tests give of each code line

module _ {t u : Role → Line → Bool} {P : Line → Type 0} (f : (k : ℕ) (l : Line) → t (code k) l ≡ true → u (code k) l ≡ true → P l) where
  -- code line k and the lines after it, up to ANSWER
  later-lines : (k : ℕ) (bs : List Line) → Covered t (code_roles k bs) bs → Covered u (code_roles k bs) bs → (j : ℕ) → j < length (up_to_answer bs) → P (get_or bs j no_line)
  unfolding code_roles up_to_answer
  later-lines k [] c d j h = absurd (omega arith)
  later-lines k (l ∷ bs) c d j h = go (is_answer l) c d j h (later-lines (suc k) bs)
    where
      go : (b : Bool) → Covered t (cond b (names answers ∷ answer_roles 0 bs) (code k ∷ code_roles (suc k) bs)) (l ∷ bs)
          → Covered u (cond b (names answers ∷ answer_roles 0 bs) (code k ∷ code_roles (suc k) bs)) (l ∷ bs)
          → (j : ℕ) → j < length (cond b [] (l ∷ up_to_answer bs))
          → (Covered t (code_roles (suc k) bs) bs → Covered u (code_roles (suc k) bs) bs → (j : ℕ) → j < length (up_to_answer bs) → P (get_or bs j no_line))
          → P (get_or (l ∷ bs) j no_line)
      go true c d j h ih = absurd (omega arith)
      go false (passed p c) (passed q d) zero h ih = f k l p q
      go false (passed p c) (passed q d) (suc j) h ih = ih c d j (omega arith)

  code-line : (bs : List Line) → Covered t (body_roles bs) bs → Covered u (body_roles bs) bs → (j : ℕ) → j < length (lines_of_code bs) → P (get_or bs j no_line)
  unfolding body_roles lines_of_code
  code-line [] c d j h = absurd (omega arith)
  code-line (l ∷ bs) (passed p c) (passed q d) zero h = f 0 l p q
  code-line (l ∷ bs) (passed p c) (passed q d) (suc j) h = later-lines 1 bs c d j (omega arith)

-- ---- targets

module _ (ls : List Line) (p : Passes ls) where
  line-leads : (k : ℕ) (l : Line) → test name-row ls (code k) l ≡ true → test target_row ls (code k) l ≡ true → CodeLeads (first_address (body ls)) (length (lines_of_code (body ls))) l.text
  unfolding test reaches on_code find
  line-leads k l a b =
      let x = kind-there (op l.text) (code-named ls k l.text a).kind in
      let n = length (lines_of_code (body ls)) in
      record {
        reaches = rw (first-natural ls p.range, x.1) (on-kind (argument_reaches (first_at (body ls)) n (arg l.text)) l.text x.0 x.1 b);
      }

  -- each code line leads to one of them
  pub code-leads : (j : ℕ) → j < length (lines_of_code (body ls)) → CodeLeads (first_address (body ls)) (length (lines_of_code (body ls))) (get_or (body ls) j no_line).text
  code-leads = code-line line-leads (body ls) (covered-body name-row ls p.names) (covered-body target_row ls p.targets)

-- ---- the parts that the export takes of a passing text

module _ (ls : List Line) (p : Passes ls) where
  -- the line of the primitives
  module _ (line : List ℕ) (e : line ≡ text_at (names primitives) layout ls) where
    pub primitives-few : length (list line) ≤ 32
    unfolding is_laid_out names_laid_out
    primitives-few = rw e (leb-true _ _ (passes-laid-out p (names primitives) refl))

    primitives-are : list line ≡ listed (names primitives) ls
    unfolding listed
    primitives-are = ap list e

  -- the lines after the layout, of which the first `count` are code
  module _ (ms : List Line) (after : ms ≡ body ls) (count : ℕ) (counts : count ≡ length (lines_of_code ms)) where
    counted : count ≡ length (lines_of_code (body ls))
    counted = counts ∙ ap (λ xs. length (lines_of_code xs)) after

    pub code-ready : (count ≤ 1024) × (count ≤ length ms)
    code-ready = (rw counted (code-few ls p.layout), rw counts (code-among ms))

    -- the first address, and the indices of the opcodes
    module _ (first : ℕ) (f : first ≡ first_address ms) (is : List ℕ) (held : (ps : List (List ℕ)) (n : ℕ) → is ≡ positions 0 (ops_in ps n (take count ms))) where
      pub indices-count : length is ≡ count
      indices-count =
          ap length (held [] 0) ∙ positions-length 0 (ops_in [] 0 (take count ms)) ∙ rw length-map (length-take-le count ms code-ready.1)

      pub indices-ready : Indexed is first
      indices-ready = record {
        few = omega (arith, indices-count, code-ready.0);
        small = λ j. rw (held [] 0) (positions-small 0 (ops_in [] 0 (take count ms)) 2048 (rw length-map (omega (arith, length-take-le count ms code-ready.1, code-ready.0))) (omega arith) j);
        low = rw f (first_small (first_at ms));
      }

      pub lines-ready : (j : ℕ) → j < length is → CodeLeads first (length is) (get_or ms j no_line).text
      lines-ready j h = rw (f, after, indices-count, counted) (code-leads ls p j (omega (arith, indices-count, counted)))

      pub lines-export : (line : List ℕ) → line ≡ text_at (names primitives) layout ls → lines_bytes (list line) is first ms ≡ export_bytes ls
      unfolding export_bytes
      lines-export line e =
          ap (λ n. bytes_from is 0 (ops_in (list line) first (take n ms))) indices-count
          ∙ export_is is (ops_in (list line) first (take count ms)) (held (list line) first)
          ∙ ap₂ (λ ps n. export_ops (ops_in ps n (take count ms))) (primitives-are line e) (f ∙ ap first_address after)
          ∙ ap₂ (λ n xs. export_ops (ops_in (listed (names primitives) ls) (first_address (body ls)) (take n xs))) counted after
          ∙ ap (λ xs. export_ops (ops_in (listed (names primitives) ls) (first_address (body ls)) xs)) (sym (code-take (body ls)))
