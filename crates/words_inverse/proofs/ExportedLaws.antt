-- Laws of an export that is imported: of a passing file the words are accepted with its primitives line, and the lines made are those of
-- the file, from address 0 on. Assumes nothing.
use Rattle.std.specs.Prelude.{None, Ok, Option, Some}
use mathlib.Core.Path.{◌≡◌, refl, sym, ap, subst, ◌∙◌}
use mathlib.Core.Bool.{Bool, true, false, cond, not, false≢true}
use mathlib.Core.List.{List, [], ◌∷◌, ◌++◌, map}
use Prim.Native.Nat.{ℕ, zero, suc, ◌+◌, ◌-◌, ◌<◌, ◌≤◌}
use native.Mathlib.Omega.{arith}
use lib.Dec.{ltb}
use lib.IntN.{pos, negsuc, nat_abs, ◌-ℤ◌}
use lib.ListN.{length, length-map}
use borrow.Author.Tests.{leb-true}
use Rattle.text.specs.Text.{bytes, is_empty, equals, parted_by, line_words, Line, lines_of, lines, place_among, index_of, find, all, lines_text}
use Rattle.text.proofs.TextLaws.{Every, none, place-below}
use Rattle.text.proofs.LineLaws.{ended_line, unended_line}
use Rattle.numbers.specs.Numbers.{IsNumber, numbers}
use Rattle.instructions.specs.Kinds.{addresses, kind_names, kind_at}
use Rattle.instructions.specs.declared.Argument.{Argument}
use Rattle.instructions.specs.declared.Argument.TheVariants.{Absent, Target, Primitive, Within}
use Rattle.file_format.specs.declared.Section.TheVariants.{Primitives as primitives}
use Rattle.file_format.specs.declared.Role.TheVariants.{Names as names}
use Rattle.file_format.specs.declared.Row.TheVariants.{Layout as Layout-row, Range as range-row, Name as name-row, Target as target_row}
use Rattle.file_format.specs.Layout.{layout, body, lines_of_code, list, listed}
use Rattle.file_format.specs.Rows.{value, op, arg, names_laid_out, is_laid_out, named, first_at, test, Passes}
use Rattle.file_format.specs.Routine.{inside, argument_value, first_address}
use Rattle.file_format.proofs.LayoutLaws.{role-every}
use Rattle.file_format.proofs.RowLaws.{passes-laid-out, passes-spaced, passes-named}
use Rattle.file_format.proofs.RangeLaws.{natural-inside, inside-keeps, every-mapped, argument-number}
use Rattle.file_format.proofs.PassingLaws.{Coded, code-passed, code-some, code-few, first-natural, first_small}
use Rattle.file_format.proofs.PassingLaws as coded
use Rattle.words.specs.Words.{words_of, all_bytes}
use Rattle.words.specs.Decoding.{decoded, items, fault_from, word_fault, offset_fault, code_fault}
use Rattle.words.specs.Lines.{code_text}
use Rattle.words.specs.Import.{line_laid_out, line_verdict, one_line_verdict, primitives_verdict, primitives_of, fault_verdict, both, import_verdict, import_text}
use Rattle.words.specs.Export.{Op, relative, op_of, words_in, export_ops, export_bytes}
use Rattle.words.proofs.FaultLaws.{fault-starts}
use Rattle.words.proofs.OffsetLaws.{fault-then}
use Rattle.words.proofs.ExportLaws.{Placed, export-fits, bytes-entries, bytes-decoded}
use Rattle.words_inverse.specs.Sections.{code_section, primitives_line}
use Rattle.text.proofs.JoinLaws.{Free, pieces-every, split-alone, lines-free}
use Rattle.words_inverse.proofs.FileLaws.{section-text}
use Rattle.words_inverse.proofs.LineLaws.{code-said, LowerLine, code-lower}
use Rattle.words_inverse.proofs.ImportedLaws.{Said, end, next, exported, all_placed, lines-made, no-fault, no-offset-fault}

-- ---- the value of an argument is a number

difference-number : (a b : ℕ) → a ≤ 62000 → b ≤ 60000 → IsNumber (pos a -ℤ pos b)
difference-number a zero h k = record { fits = omega arith }
difference-number a (suc b) h k = go (ltb a (suc b)) refl
  where
    go : (t : Bool) → ltb a (suc b) ≡ t → IsNumber (cond t (negsuc (suc b - suc a)) (pos (a - suc b)))
    go true e = record { fits = omega arith }
    go false e = record { fits = omega arith }

find-small : (w : List ℕ) (ws : List (List ℕ)) → find w ws ≤ length ws
unfolding find
find-small w ws = go (place_among w ws) refl
  where
    go : (p : Option ℕ) → place_among w ws ≡ p → index_of p ≤ length ws
    go (Some k) e = omega (arith, place-below 0 w ws e)
    go None e = omega arith

value-number : (ps : List (List ℕ)) → length ps ≤ 32 → (first : ℕ) → first ≤ 60000 → (w : List ℕ) (a : Argument) → IsNumber (relative first (argument_value ps w a) a)
unfolding relative argument_value
value-number ps h first k w Absent = record { fits = omega arith }
value-number ps h first k w Target =
    let n = natural-inside 0 62000 (value w) in
    subst (λ z. IsNumber (z -ℤ pos first)) n.is (difference-number (nat_abs (inside addresses (value w))) first n.below k)
value-number ps h first k w Primitive = let f = find-small w ps in record { fits = omega arith }
value-number ps h first k w (Within r) = inside-keeps IsNumber numbers (value w) (record { fits = omega arith }) (λ y e. argument-number numbers y refl e)

-- ---- the lines of a file

-- every code line says what is exported of it
all_said : (ls : List Line) → first_at (body ls) ≡ pos 0 → {k : ℕ} (ms : List Line)
    → Coded (test Layout-row ls) k ms → Coded (test range-row ls) k ms → Coded (test name-row ls) k ms → Coded (test target_row ls) k ms
    → Said (listed (names primitives) ls) (length (lines_of_code (body ls))) k ms (map (λ l. op_of (listed (names primitives) ls) (first_address (body ls)) l.text) ms)
all_said ls b [] coded.none coded.none coded.none coded.none = end
all_said ls b {k} (l ∷ ms) (coded.next p₂ c₂) (coded.next p₃ c₃) (coded.next p₄ c₄) (coded.next p₆ c₆) =
    next (code-said ls b k l p₂ p₃ p₄ p₆) (all_said ls b ms c₂ c₃ c₄ c₆)

-- lines, and how an import writes them, where the file begins at `first`
pub data Lower (ps : List (List ℕ)) (n first : ℕ) : ℕ → List Line → List Line → Type 0 where
  ends : {k : ℕ} → Lower ps n first k [] []
  follows : {k : ℕ} {l : Line} {ls ms : List Line} (x : LowerLine ps n k first l.text) → Lower ps n first (suc k) ls ms → Lower ps n first k (l ∷ ls) (ended_line x.line ∷ ms)

all-lower : (ls : List Line) → pos (first_address (body ls)) ≡ first_at (body ls) → {k : ℕ} (ms : List Line)
    → Coded (test Layout-row ls) k ms → Coded (test range-row ls) k ms → Coded (test name-row ls) k ms → Coded (test target_row ls) k ms
    → (ns : List Line) × Lower (listed (names primitives) ls) (length (lines_of_code (body ls))) (first_address (body ls)) k ms ns
all-lower ls b [] coded.none coded.none coded.none coded.none = ([], ends)
all-lower ls b {k} (l ∷ ms) (coded.next p₂ c₂) (coded.next p₃ c₃) (coded.next p₄ c₄) (coded.next p₆ c₆) =
    let x = code-lower ls b k l p₂ p₃ p₄ p₆ in
    let r = all-lower ls b ms c₂ c₃ c₄ c₆ in
    (ended_line x.line ∷ r.0, follows x r.1)

-- the lines written say what is exported
pub lower-said : {ps : List (List ℕ)} {n first k : ℕ} {ls ms : List Line} → Lower ps n first k ls ms → Said ps n k ms (map (λ l. op_of ps first l.text) ls)
lower-said ends = end
lower-said (follows x r) = next x.says (lower-said r)

-- a line with a word on it and no line feed is one line
one_line : (w : List ℕ) → Free 10 w → all (λ v. not (is_empty v)) (line_words w) ≡ true → lines w ≡ unended_line w ∷ []
unfolding lines lines_of line_words parted_by all
one_line [] f e = absurd (false≢true e)
one_line (x ∷ xs) f e = ap lines_of (split-alone 10 f)

module _ (text : List ℕ) (p : Passes (lines text)) where
  abbrev ls : List Line
  ls = lines text

  primitives-free : Free 10 (primitives_line ls)
  primitives-free = role-every (Free 10) none (names primitives) layout (lines-free text)

  primitives-line : lines (primitives_line ls) ≡ unended_line (primitives_line ls) ∷ []
  primitives-line = one_line (primitives_line ls) primitives-free (passes-spaced p (names primitives) refl)

  -- no primitive's name holds a line feed
  pub names-free : Every (Free 10) (listed (names primitives) ls)
  unfolding listed list line_words
  names-free = go (equals (primitives_line ls) (bytes "-"))
    where
      go : (b : Bool) → Every (Free 10) (cond b [] (parted_by 32 (primitives_line ls)))
      go true = none
      go false = pieces-every 32 primitives-free

  pub primitives-accepted : primitives_verdict (primitives_line ls) ≡ Ok tt
  unfolding primitives_verdict one_line_verdict line_verdict line_laid_out is_laid_out named
  primitives-accepted =
      rw (primitives-line, passes-spaced p (names primitives) refl, passes-laid-out p (names primitives) refl, passes-named p (names primitives) refl) refl

  pub primitives-same : primitives_of (primitives_line ls) ≡ listed (names primitives) ls
  unfolding primitives_of listed
  primitives-same = rw primitives-line refl

  pub primitives-few : length (listed (names primitives) ls) ≤ 32
  unfolding is_laid_out names_laid_out listed
  primitives-few = leb-true (length (listed (names primitives) ls)) 32 (passes-laid-out p (names primitives) refl)

  abbrev ps : List (List ℕ)
  ps = listed (names primitives) ls

  abbrev pub ops : List Op
  ops = map (λ l. op_of ps (first_address (body ls)) l.text) (lines_of_code (body ls))

  pub counted : length ops ≡ length (lines_of_code (body ls))
  counted = length-map (lines_of_code (body ls)) (λ l. op_of ps (first_address (body ls)) l.text)

  few : length ops ≤ 1024
  few = rw counted (code-few ls p.layout)

  room : 0 + length ops ≤ 1024
  room = let h = few in omega arith

  some : 1 ≤ length ops
  some = rw counted (code-some ls p.layout)

  op-number : (l : Line) → IsNumber (op_of ps (first_address (body ls)) l.text).value
  unfolding op_of
  op-number l = value-number ps primitives-few (first_address (body ls)) (first_small (first_at (body ls))) (arg l.text) (kind_at (find (op l.text) kind_names)).argument

  pub ops-numbers : Every (λ o. IsNumber o.value) ops
  ops-numbers = every-mapped (λ l. op_of ps (first_address (body ls)) l.text) op-number (lines_of_code (body ls))

  -- lines from number 0 on that say what is exported
  module _ (ms : List Line) (said : Said ps (length ops) 0 ms ops) where
    file-placed : Placed 0 (exported ps ops few)
    file-placed = all_placed ps ops few 0 said (omega arith) room ops-numbers

    export-items : export_bytes ls ≡ all_bytes (words_in (exported ps ops few))
    unfolding export_bytes export_ops
    export-items = refl

    decoded-items : items (decoded (words_of (export_bytes ls))) ≡ exported ps ops few
    decoded-items = ap (λ bs. items (decoded (words_of bs))) export-items ∙ bytes-decoded file-placed

    -- there is a word at least
    export-some : 0 < length (export_bytes ls)
    unfolding export_bytes
    export-some = let h = (export-fits ops some few).0 in omega arith

    words-sound : word_fault (length ps) (words_of (export_bytes ls)) ≡ None
    unfolding decoded
    words-sound =
        fault-starts (length ps) (export_bytes ls) export-some
        ∙ ap (λ bs. fault_from (length ps) 0 (decoded (words_of bs))) export-items
        ∙ ap (fault_from (length ps) 0) (bytes-entries file-placed)
        ∙ no-fault ps ops few 0 said (omega arith) room

    export-sound : code_fault (length ps) (words_of (export_bytes ls)) ≡ None
    export-sound =
        fault-then (length ps) (words_of (export_bytes ls)) words-sound
        ∙ ap (λ xs. offset_fault xs xs) decoded-items
        ∙ no-offset-fault ps ops few 0 said (omega arith) room

    -- the words are accepted with the file's own primitives line
    pub words-imported : import_verdict (export_bytes ls) (primitives_line ls) ≡ Ok tt
    unfolding import_verdict both fault_verdict
    words-imported = rw (primitives-accepted, primitives-same, export-sound) refl

    -- and these lines are made
    pub words-text : import_text (export_bytes ls) (primitives_line ls) ≡ bytes "AT OP ARG\n" ++ lines_text ms
    unfolding import_text code_text
    words-text =
        ap (λ qs. code_text qs (items (decoded (words_of (export_bytes ls))))) primitives-same
        ∙ ap (code_text ps) decoded-items
        ∙ ap (λ t. bytes "AT OP ARG\n" ++ t) (lines-made ps ops few 0 said (omega arith) room)

  -- of a file that begins at address 0 they are its own
  module _ (begins : first_at (body ls) ≡ pos 0) where
    pub file-said : Said ps (length ops) 0 (lines_of_code (body ls)) ops
    file-said =
        subst (λ n. Said ps n 0 (lines_of_code (body ls)) ops) (sym counted)
        (all_said ls begins (lines_of_code (body ls)) (code-passed Layout-row ls p.layout) (code-passed range-row ls p.range) (code-passed name-row ls p.names) (code-passed target_row ls p.targets))

    pub export-imported : import_verdict (export_bytes ls) (primitives_line ls) ≡ Ok tt
    export-imported = words-imported (lines_of_code (body ls)) file-said

    pub export-text : import_text (export_bytes ls) (primitives_line ls) ≡ code_section ls
    export-text = words-text (lines_of_code (body ls)) file-said ∙ sym (section-text p)

  -- of any file they are its own, each with its number and with the number of its target's line
  pub file-lower : (ms : List Line) × Lower ps (length ops) (first_address (body ls)) 0 (lines_of_code (body ls)) ms
  file-lower =
      subst (λ n. (ms : List Line) × Lower ps n (first_address (body ls)) 0 (lines_of_code (body ls)) ms) (sym counted)
      (all-lower ls (first-natural ls p.range) (lines_of_code (body ls)) (code-passed Layout-row ls p.layout) (code-passed range-row ls p.range) (code-passed name-row ls p.names) (code-passed target_row ls p.targets))
