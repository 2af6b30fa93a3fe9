-- Laws of a copy whose new instruction has no line feed: its lines are those of the file with another one in one place, and so is its
-- routine. Assumes nothing.
use mathlib.Core.Path.{◌≡◌, refl, sym, ap, subst, ◌∙◌}
use mathlib.Core.Bool.{Bool, true, false, cond, not}
use mathlib.Core.List.{List, [], ◌∷◌, ◌++◌, append_assoc, map}
use Prim.Native.Nat.{ℕ, zero, suc, ◌+◌, ◌<◌, ◌≤◌}
use native.Mathlib.Omega.{arith}
use lib.Dec.{eqb}
use lib.ListN.{length, get_or, set, length-set, length-map}
use lib.Seq.{drop-set-add, get_or-drop}
use Rattle.text.specs.Text.{bytes, equals, parted_by, line_words, Line, no_line, lines, all, lines_text}
use Rattle.text.proofs.TextLaws.{none, every_append, every-left, every-get_d}
use Rattle.text.proofs.LineLaws.{ended_line}
use Rattle.file_format.specs.declared.Section.{Section}
use Rattle.file_format.specs.declared.Section.TheVariants.{Kinds as kinds, Primitives as primitives}
use Rattle.file_format.specs.declared.Column.TheVariants.{Extra as extra}
use Rattle.file_format.specs.declared.Role.{Role}
use Rattle.file_format.specs.declared.Role.TheVariants.{Values as values}
use Rattle.file_format.specs.Layout.{layout, is_answer, body, up_to_answer, past_answer, lines_of_code, answer_lines, list, is_role, text_at, listed}
use Rattle.file_format.specs.Rows.{at, op, arg, first_at, value, Passes}
use Rattle.file_format.specs.Routine.{PriceList, price_list, instruction_of, code_in, routine_of}
use Rattle.file_format.proofs.RowLaws.{lines-ended}
use Rattle.file_format.proofs.CodeLineLaws.{number-first}
use Rattle.text_decimals.proofs.SpellingLaws.{decimal-free}
use Rattle.text.proofs.JoinLaws.{Free, text-free, split-free, lines-free, lines-set, text-set, split-first}
use Rattle.preview_copy.specs.Patch.{patched_at}
use Rattle.preview_copy.specs.Promises.{new_instruction, OneReplaced}
use Rattle.preview_copy.proofs.PatchLaws.{CodeLine, InCode, line-there, line-coded}

-- ---- one place of a list

map_other : {A B : Type 0} (f : A → B) (xs : List A) (i j : ℕ) (x : A) (d : B) → (j ≡ i → ⊥) → get_or (map f (set xs i x)) j d ≡ get_or (map f xs) j d
map_other f [] i j x d h = refl
map_other f (y ∷ ys) zero zero x d h = absurd (h refl)
map_other f (y ∷ ys) zero (suc j) x d h = refl
map_other f (y ∷ ys) (suc i) zero x d h = refl
map_other f (y ∷ ys) (suc i) (suc j) x d h = map_other f ys i j x d (λ e. h (ap suc e))

map_same : {A B : Type 0} (f : A → B) (xs : List A) (i : ℕ) (x : A) (d : B) → i < length xs → get_or (map f (set xs i x)) i d ≡ f x
map_same f [] i x d h = absurd (omega arith)
map_same f (y ∷ ys) zero x d h = refl
map_same f (y ∷ ys) (suc i) x d h = map_same f ys i x d (omega arith)

-- ---- the lines of the copy

-- the new line
abbrev pub replaced_line : List Line → ℕ → List ℕ → Line
replaced_line ls k instruction = ended_line (at (get_or ls k no_line).text ++ bytes " " ++ instruction)

module _ (ls : List Line) (k : ℕ) (instruction : List ℕ) (h : k < length ls) where
  pub patched-lines : patched_at ls k instruction ≡ lines_text (set ls k (replaced_line ls k instruction))
  unfolding patched_at
  patched-lines = sym (text-set ls (replaced_line ls k instruction).text k h ∙ simp append_assoc)

-- the address, a space and the instruction have no line feed
at-free : (line : List ℕ) → CodeLine line → Free 10 line → Free 10 (at line)
at-free line c f = every-left (at line) (bytes " " ++ op line ++ bytes " " ++ arg line) (subst (Free 10) (c.three ∙ simp append_assoc) f)

module _ (text : List ℕ) (p : Passes (lines text)) (k : ℕ) (h : InCode (lines text) k) (instruction : List ℕ) (f : all (λ b. not (eqb b 10)) instruction ≡ true) where
  pub lines-replaced : lines (patched_at (lines text) k instruction) ≡ set (lines text) k (replaced_line (lines text) k instruction)
  unfolding all
  lines-replaced =
      let ls = lines text in
      let t = line-there ls p k h in
      let c = line-coded ls p k h in
      let own = every-get_d (lines-free text) none k in
      let new : Free 10 (replaced_line ls k instruction).text = every_append (every_append (at-free (get_or ls k no_line).text c own) (text-free 10 (bytes " ") refl)) (text-free 10 instruction f) in
      ap lines (patched-lines ls k instruction t)
      ∙ lines-set text (replaced_line ls k instruction).text k (lines-ended ls p.layout) new

-- ---- the routine of the copy

-- the first word of a line that begins with a number is that number
at-number : (line r : List ℕ) → CodeLine line → at (at line ++ bytes " " ++ r) ≡ at line
unfolding line_words
at-number line r c = ap (λ t. get_or (parted_by 32 t) 0 []) (append_assoc (at line) (bytes " ") r) ∙ ap (λ (ws : List (List ℕ)). get_or ws 0 []) (split-first 32 r (every-get_d (split-free 32 line) none 0))

-- the layout stays
text-kept : (r : Role) (rs : List Role) (ls : List Line) (k : ℕ) (l : Line) → length rs ≤ k → text_at r rs (set ls k l) ≡ text_at r rs ls
unfolding text_at
text-kept r [] ls k l h = refl
text-kept r (x ∷ xs) [] k l h = refl
text-kept r (x ∷ xs) (m ∷ ms) zero l h = absurd (omega arith)
text-kept r (x ∷ xs) (m ∷ ms) (suc k) l h = ap (cond (is_role r x) m.text) (text-kept r xs ms k l (omega arith))

-- a code line in the place of another, of the lines before ANSWER
module _ (l : Line) (n : is_answer l ≡ false) where
  up-to-set : (bs : List Line) (j : ℕ) → j < length (up_to_answer bs) → (up_to_answer (set bs j l) ≡ set (up_to_answer bs) j l) × (past_answer (set bs j l) ≡ past_answer bs)
  unfolding up_to_answer past_answer
  up-to-set [] j h = absurd (omega arith)
  up-to-set (b ∷ bs) zero h = go (is_answer b) h
    where
      go : (a : Bool) → 0 < length (cond a [] (b ∷ up_to_answer bs)) → (cond (is_answer l) [] (l ∷ up_to_answer bs) ≡ set (cond a [] (b ∷ up_to_answer bs)) 0 l) × (cond (is_answer l) bs (past_answer bs) ≡ cond a bs (past_answer bs))
      go true h = absurd (omega arith)
      go false h = rw n (refl, refl)
  up-to-set (b ∷ bs) (suc j) h = go (is_answer b) h (up-to-set bs j)
    where
      go : (a : Bool) → suc j < length (cond a [] (b ∷ up_to_answer bs)) → (j < length (up_to_answer bs) → (up_to_answer (set bs j l) ≡ set (up_to_answer bs) j l) × (past_answer (set bs j l) ≡ past_answer bs)) →
          (cond a [] (b ∷ up_to_answer (set bs j l)) ≡ set (cond a [] (b ∷ up_to_answer bs)) (suc j) l) × (cond a (set bs j l) (past_answer (set bs j l)) ≡ cond a bs (past_answer bs))
      go true h ih = absurd (omega arith)
      go false h ih = let i = ih (omega arith) in (ap (λ ms. b ∷ ms) i.0, i.1)

  code-set : (bs : List Line) (j : ℕ) → j < length (lines_of_code bs) → (lines_of_code (set bs j l) ≡ set (lines_of_code bs) j l) × (answer_lines (set bs j l) ≡ answer_lines bs)
  unfolding lines_of_code answer_lines
  code-set [] j h = absurd (omega arith)
  code-set (b ∷ bs) zero h = (refl, refl)
  code-set (b ∷ bs) (suc j) h = let i = up-to-set bs j (omega arith) in (ap (λ ms. b ∷ ms) i.0, i.1)

-- the first address stays, where the new line has that of the old
first-kept : (bs : List Line) (j : ℕ) (l : Line) → at l.text ≡ at (get_or bs j no_line).text → first_at (set bs j l) ≡ first_at bs
unfolding first_at
first-kept [] j l e = refl
first-kept (b ∷ bs) zero l e = ap value e
first-kept (b ∷ bs) (suc j) l e = refl

module _ (ls : List Line) (j : ℕ) (l : Line) (e : at l.text ≡ at (get_or (body ls) j no_line).text) (n : is_answer l ≡ false) (h : j < length (lines_of_code (body ls))) where
  listed_kept : (r : Role) → listed r (set ls (length layout + j) l) ≡ listed r ls
  unfolding listed
  listed_kept r = ap list (text-kept r layout ls (length layout + j) l (omega arith))

  prices-kept : (s : Section) → price_list s (set ls (length layout + j) l) ≡ price_list s ls
  unfolding price_list
  prices-kept s = simp listed_kept

  body-set : body (set ls (length layout + j) l) ≡ set (body ls) j l
  unfolding body
  body-set = drop-set-add (length layout) ls j l

  first-stays : first_at (body (set ls (length layout + j) l)) ≡ first_at (body ls)
  first-stays = ap first_at body-set ∙ first-kept (body ls) j l e

  codes-set : lines_of_code (body (set ls (length layout + j) l)) ≡ set (lines_of_code (body ls)) j l
  codes-set = ap lines_of_code body-set ∙ (code-set l n (body ls) j h).0

  answers-kept : answer_lines (body (set ls (length layout + j) l)) ≡ answer_lines (body ls)
  answers-kept = ap answer_lines body-set ∙ (code-set l n (body ls) j h).1

  routine-replaced : OneReplaced j (instruction_of (price_list kinds ls) (listed (values kinds extra) ls) (price_list primitives ls) l.text) (routine_of ls) (routine_of (set ls (length layout + j) l))
  unfolding routine_of code_in
  routine-replaced = record {
    budget = simp listed_kept;
    tick = simp listed_kept;
    first = simp first-stays;
    count = simp (codes-set, length-map, length-set);
    replaced = λ d. simp (listed_kept, prices-kept, codes-set) (map_same _ (lines_of_code (body ls)) j l d h);
    others = λ i d x. simp (listed_kept, prices-kept, codes-set) (map_other _ (lines_of_code (body ls)) j i l x d);
    start = simp (first-stays, listed_kept);
    answers = simp answers-kept;
  }

-- the instruction of a line, whatever its first word
instruction-after : (ks ps : PriceList) (xs : List (List ℕ)) {v w : List ℕ} (t : List ℕ) → Free 32 v → Free 32 w →
    instruction_of ks xs ps (v ++ bytes " " ++ t) ≡ instruction_of ks xs ps (w ++ bytes " " ++ t)
unfolding instruction_of line_words
instruction-after ks ps xs {v} {w} t f g =
    let is : (u : List ℕ) → Free 32 u → parted_by 32 (u ++ bytes " " ++ t) ≡ u ∷ parted_by 32 t = λ u k. ap (parted_by 32) (append_assoc u (bytes " ") t) ∙ split-first 32 t k in
    rw (is v f, is w g) refl

-- the new line as it stands
module _ (ls : List Line) (p : Passes ls) (j : ℕ) (h : j < length (lines_of_code (body ls))) (instruction : List ℕ) where
  there : InCode ls (length layout + j)
  there = (omega arith, omega arith)

  own : CodeLine (get_or ls (length layout + j) no_line).text
  own = line-coded ls p (length layout + j) there

  new-address : at (replaced_line ls (length layout + j) instruction).text ≡ at (get_or (body ls) j no_line).text
  unfolding body
  new-address = at-number (get_or ls (length layout + j) no_line).text instruction own ∙ ap (λ (l : Line). at l.text) (sym (get_or-drop (length layout) ls j no_line))

  new-code : is_answer (replaced_line ls (length layout + j) instruction) ≡ false
  unfolding is_answer
  new-code =
      let w = at (get_or ls (length layout + j) no_line).text in
      ap (λ t. equals t (bytes "ANSWER")) (append_assoc w (bytes " ") instruction) ∙ number-first w (bytes " " ++ instruction) own.spelt

  pub one-replaced : (address : ℕ) → OneReplaced j (new_instruction ls address instruction) (routine_of ls) (routine_of (set ls (length layout + j) (replaced_line ls (length layout + j) instruction)))
  unfolding line_words
  one-replaced address =
      subst (λ i. OneReplaced j i (routine_of ls) (routine_of (set ls (length layout + j) (replaced_line ls (length layout + j) instruction))))
      (instruction-after (price_list kinds ls) (price_list primitives ls) (listed (values kinds extra) ls) instruction (every-get_d (split-free 32 (get_or ls (length layout + j) no_line).text) none 0) (decimal-free 32 (omega arith) address))
      (routine-replaced ls j (replaced_line ls (length layout + j) instruction) new-address new-code h)
