-- Laws of the import: the primitives line of a text, what is known of a line and of words that are accepted, and where they are refused.
-- Assumes nothing.
use Rattle.std.specs.Prelude.{Err, None, Ok, Option, Result, Some, ⊤}
use mathlib.Core.Path.{◌≡◌, refl, sym, ap, subst, ◌∙◌}
use mathlib.Core.Bool.{Bool, true, false, cond, not, ◌&&◌}
use mathlib.Core.List.{List, [], ◌∷◌}
use Prim.Native.Nat.{ℕ, ◌<◌, ◌≤◌}
use native.Mathlib.Omega.{arith}
use lib.Dec.{leb, ltb}
use lib.ListN.{length, get_or, drop}
use borrow.Author.Tests.{leb-true, ltb-true}
use Rattle.refusals.specs.declared.Refusal.{Refusal}
use Rattle.refusals.specs.declared.Refusal.TheVariants.{Layout, BadName, BadWord}
use Rattle.refusals.specs.Refusals.{place}
use Rattle.text.specs.Text.{is_empty, line_words, Line, no_line, lines, all, distinct}
use Rattle.text.proofs.TextLaws.{and_left, and_right, all-every, every_map, every-get_d}
use Rattle.text.proofs.LineLaws.{lines_none, lines-some, lines-first}
use Rattle.file_format.specs.declared.Section.TheVariants.{Primitives as primitives}
use Rattle.file_format.specs.Layout.{list}
use Rattle.file_format.specs.Rows.{is_capital, in_name, is_name, names_laid_out, well_named}
use Rattle.words.specs.Words.{Word, words_of}
use Rattle.words.specs.Decoding.{decoded, items, word_fault, code_fault}
use Rattle.words.specs.Import.{line_laid_out, line_verdict, one_line_verdict, primitives_verdict, first_text, primitives_of, fault_verdict, both, import_verdict, import_text}
use Rattle.words.specs.Lines.{code_text}
use Rattle.words.specs.Held.{Readable}
use Rattle.words.proofs.OffsetLaws.{readable_of, fault-first}
use Rattle.words.proofs.IndexLaws.{code-fault-near}
use Rattle.words_import.specs.HeldLines.{ShortNames}
use Rattle.words_import.proofs.LengthLaws.{code_fits}

-- a verdict is of one case
not-accepted : {X : Type 0} (r : Refusal) → ◌≡◌ {A = Result ⊤ Refusal} (Err r) (Ok tt) → X
not-accepted r e = let x : ◌≡◌ {A = ℕ} 0 1 = cc in absurd (omega arith)

-- ---- the lines of the text

first-text : (ls : List Line) → first_text ls ≡ (get_or ls 0 no_line).text
first-text [] = refl
first-text (l ∷ ls) = refl

-- the names, by the first line as the code has it
pub primitives-are : (text : List ℕ) → primitives_of text ≡ list (get_or (lines text) 0 no_line).text
unfolding primitives_of
primitives-are text = ap list (first-text (lines text))

pub primitives-empty : (text : List ℕ) → length text ≡ 0 → primitives_verdict text ≡ Err (Layout 1)
unfolding primitives_verdict one_line_verdict
primitives-empty text h = ap one_line_verdict (lines_none text (omega arith))

one_more : (l : Line) (ls : List Line) → 0 < length ls → one_line_verdict (l ∷ ls) ≡ Err (Layout 1)
unfolding one_line_verdict
one_more l [] h = absurd (omega arith)
one_more l (m ∷ ls) h = refl

module _ (text rest : List ℕ) (h : 0 < length text) (e : lines rest ≡ drop 1 (lines text)) where
  by_first : primitives_verdict text ≡ one_line_verdict (get_or (lines text) 0 no_line ∷ lines rest)
  unfolding primitives_verdict
  by_first = ap one_line_verdict (lines-first text h ∙ ap (λ ls. get_or (lines text) 0 no_line ∷ ls) (sym e))

  pub primitives-more : 0 < length rest → primitives_verdict text ≡ Err (Layout 1)
  primitives-more k = by_first ∙ one_more (get_or (lines text) 0 no_line) (lines rest) (lines-some rest k)

  pub primitives-one : length rest ≡ 0 → primitives_verdict text ≡ line_verdict (get_or (lines text) 0 no_line).text
  unfolding one_line_verdict
  primitives-one k = by_first ∙ ap (λ ls. one_line_verdict (get_or (lines text) 0 no_line ∷ ls)) (lines_none rest (omega arith))

-- ---- a line that is accepted

-- it is laid out, and its names are in order
line-passes : (w : List ℕ) → line_verdict w ≡ Ok tt → (line_laid_out w ≡ true) × (well_named primitives (list w) ≡ true)
unfolding line_verdict
line-passes w e = go (line_laid_out w) (well_named primitives (list w)) refl refl e
  where
    go : (a b : Bool) → line_laid_out w ≡ a → well_named primitives (list w) ≡ b → ◌≡◌ {A = Result ⊤ Refusal} (cond a (cond b (Ok tt) (Err (BadName 1))) (Err (Layout 1))) (Ok tt) → (line_laid_out w ≡ true) × (well_named primitives (list w) ≡ true)
    go true true p q r = (p, q)
    go true false p q r = not-accepted (BadName 1) r
    go false b p q r = not-accepted (Layout 1) r

name-short : (w : List ℕ) → is_name w ≡ true → length w ≤ 8
unfolding is_name
name-short [] e = omega arith
name-short (c ∷ cs) e = let h = ltb-true (length cs) 8 (and_right (is_capital c && all in_name cs) (ltb (length cs) 8) e) in omega arith

line-few : (w : List ℕ) → line_laid_out w ≡ true → length (list w) ≤ 32
unfolding line_laid_out names_laid_out
line-few w e = leb-true _ _ (and_right (all (λ x. not (is_empty x)) (line_words w)) (leb (length (list w)) 32) e)

names-short : (ws : List (List ℕ)) → well_named primitives ws ≡ true → ShortNames ws
unfolding well_named
names-short ws e = record { short = every-get_d (every_map name-short (all-every is_name ws (and_left (all is_name ws) (distinct ws) e))) (omega arith) }

one_passes : (ls : List Line) → one_line_verdict ls ≡ Ok tt → line_verdict (first_text ls) ≡ Ok tt
unfolding one_line_verdict
one_passes [] e = not-accepted (Layout 1) e
one_passes (l ∷ []) e = e
one_passes (l ∷ m ∷ ls) e = not-accepted (Layout 1) e

module _ (text : List ℕ) (e : primitives_verdict text ≡ Ok tt) where
  passes : (line_laid_out (first_text (lines text)) ≡ true) × (well_named primitives (list (first_text (lines text))) ≡ true)
  unfolding primitives_verdict
  passes = line-passes (first_text (lines text)) (one_passes (lines text) e)

  pub accepted-few : length (primitives_of text) ≤ 32
  unfolding primitives_of
  accepted-few = line-few (first_text (lines text)) passes.0

  pub accepted-short : ShortNames (primitives_of text)
  unfolding primitives_of
  accepted-short = names-short (list (first_text (lines text))) passes.1

-- ---- the verdict of an import

module _ (bs line : List ℕ) where
  pub import-refused : (r : Refusal) → primitives_verdict line ≡ Err r → import_verdict bs line ≡ Err r
  unfolding import_verdict both
  import-refused r e = ap (λ v. both v (fault_verdict (code_fault (length (primitives_of line)) (words_of bs)))) e

  pub import-next : primitives_verdict line ≡ Ok tt → import_verdict bs line ≡ fault_verdict (code_fault (length (primitives_of line)) (words_of bs))
  unfolding import_verdict both
  import-next e = ap (λ v. both v (fault_verdict (code_fault (length (primitives_of line)) (words_of bs)))) e

  both-pass : (v w : Result ⊤ Refusal) → both v w ≡ Ok tt → (v ≡ Ok tt) × (w ≡ Ok tt)
  unfolding both
  both-pass (Ok tt) w e = (refl, e)
  both-pass (Err r) w e = not-accepted r e

  fault-none : (p : Option ℕ) → fault_verdict p ≡ Ok tt → p ≡ None
  unfolding fault_verdict
  fault-none None e = refl
  fault-none (Some i) e = not-accepted (BadWord i) e

  first-none : (n : ℕ) (ws : List Word) (p : Option ℕ) → word_fault n ws ≡ p → code_fault n ws ≡ None → word_fault n ws ≡ None
  first-none n ws None q e = q
  first-none n ws (Some i) q e = let f = sym (fault-first n i ws q) ∙ e in let x : ◌≡◌ {A = ℕ} 0 1 = cc in absurd (omega arith)

  module _ (e : import_verdict bs line ≡ Ok tt) where
    pub import-line : primitives_verdict line ≡ Ok tt
    unfolding import_verdict
    import-line = (both-pass _ _ e).0

    pub import-sound : code_fault (length (primitives_of line)) (words_of bs) ≡ None
    unfolding import_verdict
    import-sound = fault-none _ (both-pass _ _ e).1

    pub import-words : word_fault (length (primitives_of line)) (words_of bs) ≡ None
    import-words = first-none (length (primitives_of line)) (words_of bs) (word_fault (length (primitives_of line)) (words_of bs)) refl import-sound

    pub import-readable : Readable (words_of bs)
    import-readable = readable_of (length (primitives_of line)) (words_of bs) import-words

    -- what it makes is within the memory that is asked for
    pub import-fits : length (import_text bs line) ≤ 32768
    unfolding import_text
    import-fits = code_fits (primitives_of line) (accepted-short line import-line) (words_of bs) import-readable

  -- the names line is there in any case
  pub import-some : 1 ≤ length (import_text bs line)
  unfolding import_text code_text
  import-some = omega arith

  -- ---- a refusal: at place 1, or at the earliest word at fault

  line-place : (ls : List Line) (r : Refusal) → one_line_verdict ls ≡ Err r → place r ≡ 1
  unfolding one_line_verdict line_verdict place
  line-place [] r e = let q : Layout 1 ≡ r = cc in rw (← q) refl
  line-place (l ∷ []) r e = go (line_laid_out l.text) (well_named primitives (list l.text)) e
    where
      go : (a b : Bool) → ◌≡◌ {A = Result ⊤ Refusal} (cond a (cond b (Ok tt) (Err (BadName 1))) (Err (Layout 1))) (Err r) → place r ≡ 1
      go true true e = not-accepted r (sym e)
      go true false e = let q : BadName 1 ≡ r = cc in rw (← q) refl
      go false b e = let q : Layout 1 ≡ r = cc in rw (← q) refl
  line-place (l ∷ m ∷ ls) r e = let q : Layout 1 ≡ r = cc in rw (← q) refl

  pub import-place : (r : Refusal) → import_verdict bs line ≡ Err r → place r ≤ 2048
  unfolding import_verdict primitives_verdict both fault_verdict place
  import-place r = go (one_line_verdict (lines line)) (code_fault (length (primitives_of line)) (words_of bs)) refl refl
    where
      go : (v : Result ⊤ Refusal) (p : Option ℕ) → one_line_verdict (lines line) ≡ v → code_fault (length (primitives_of line)) (words_of bs) ≡ p → both v (fault_verdict p) ≡ Err r → place r ≤ 2048
      go (Err x) p q h e = omega (arith, line-place (lines line) r (q ∙ e))
      go (Ok tt) None q h e = not-accepted r (sym e)
      go (Ok tt) (Some i) q h e = let f : BadWord i ≡ r = cc in rw (← f) (code-fault-near (length (primitives_of line)) (words_of bs) i h)

-- what an import makes, by the first line as the code has it
pub import-text : (bs line w : List ℕ) → w ≡ (get_or (lines line) 0 no_line).text → import_text bs line ≡ code_text (list w) (items (decoded (words_of bs)))
unfolding import_text
import-text bs line w e = ap (λ ps. code_text ps (items (decoded (words_of bs)))) (primitives-are line ∙ ap list (sym e))

pub short-by : (line w : List ℕ) → w ≡ (get_or (lines line) 0 no_line).text → ShortNames (primitives_of line) → ShortNames (list w)
short-by line w e s = subst ShortNames (primitives-are line ∙ ap list (sym e)) s
