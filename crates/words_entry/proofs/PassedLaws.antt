-- Laws of the rows of the refusal table on the file with the lines that an import makes of a file's words: a row that refuses no line of the
-- one refuses none of the other, and it has no more bytes. Assumes nothing.
use Rattle.std.specs.Prelude.{None, Some}
use mathlib.Core.Path.{◌≡◌, refl, sym, ap, ap₂, subst, ◌∙◌}
use mathlib.Core.Bool.{Bool, true, false, cond, not, ◌&&◌}
use mathlib.Core.List.{List, [], ◌∷◌, ◌++◌, append_assoc}
use Prim.Native.Nat.{ℕ, zero, suc, ◌+◌, ◌≤◌}
use native.Mathlib.Omega.{arith}
use lib.Dec.{eqb, leb, ltb}
use lib.IntN.{pos, ◌+ℤ◌}
use lib.ListN.{length, get_or, take, drop, length-append}
use borrow.Author.Tests.{eq-eqb, le-leb, lt-ltb, leb-true, ltb-true, not-true}
use Rattle.text.specs.Text.{bytes, is_empty, equals, parted_by, line_words, Line, lines, place_among, among, all, lines_text}
use Rattle.text_decimals.specs.Decimal.{numeral, decimal}
use Rattle.text.proofs.TextLaws.{Every, none, more, every_map, all-every, and_left, and_right, equals-path}
use Rattle.text.proofs.LineLaws.{ended_line}
use Rattle.text_decimals.proofs.DecimalLaws.{decimal-read}
use Rattle.numbers.specs.Numbers.{within, same}
use Rattle.instructions.specs.Kinds.{addresses, kind_names, kind_at}
use Rattle.instructions.specs.declared.Argument.{Argument}
use Rattle.file_format.specs.declared.Section.{Section}
use Rattle.file_format.specs.declared.Section.TheVariants.{Limits as limits, Kinds as kinds, Primitives as primitives, Cells as cells, Fields as fields, Instructions as instructions, Answers as answers}
use Rattle.file_format.specs.declared.Role.{Role}
use Rattle.file_format.specs.declared.Role.TheVariants.{Names as names, Code as code, Answer as answer}
use Rattle.file_format.specs.declared.Row.{Row}
use Rattle.file_format.specs.declared.Row.TheVariants.{Layout as Layout-row, Range as range-row, Name as name-row, Price as price-row, Target as target_row, Forward as forward-row, Known as known-row}
use Rattle.file_format.specs.Layout.{layout, is_answer, body, up_to_answer, lines_of_code, answer_roles, code_roles, body_roles, roles, list, is_role, text_at, listed}
use Rattle.file_format.specs.Rows.{is_numeral, value_of, value, at, op, arg, argument_of, on_argument, argument_laid_out, argument_in_range, argument_named, argument_reaches, argument_forward, at_range, on_cells, on_code, names_laid_out, code_laid_out, is_laid_out, code_in_range, in_range, well_named, first_at, code_named, named, priced, reaches, code_is_forward, forward, all_known, test, refused_line, Passes}
use Rattle.file_format.specs.Routine.{first_address}
use Rattle.file_format.proofs.RowLaws.{Covered, rest, passed, row-covered, passes-laid-out}
use Rattle.file_format.proofs.RangeLaws.{within-high}
use Rattle.file_format.proofs.CodeLaws.{code-laid-out, on-kind}
use Rattle.file_format.proofs.PassingLaws.{Coded, covered-body, code-passed, first-natural}
use Rattle.file_format.proofs.PassingLaws as coded
use Rattle.words.specs.Export.{op_of}
use Rattle.words_inverse.specs.Sections.{lines_before, replaced}
use Rattle.text.proofs.JoinLaws.{Free, split-alone, split-first}
use Rattle.instructions.proofs.KindNameLaws.{name_free}
use Rattle.file_format.proofs.OtherFileLaws.{covered-row, is_code, test-other}
use Rattle.words_inverse.proofs.LineLaws.{LowerWord, kept, moved, LowerLine, argued-free}
use Rattle.text_decimals.proofs.SpellingLaws.{decimal-free}
use Rattle.words_inverse.proofs.FileLaws.{section-text, replaced-whole}
use Rattle.words_inverse.proofs.ExportedLaws.{Lower, ends, follows}
use Rattle.words_entry.proofs.LoweredLaws.{front, said-code}
use Rattle.words_entry.proofs.LoweredLaws as lowered

-- ---- one word

value-decimal : (n : ℕ) → value (decimal n) ≡ pos n
unfolding value value_of
value-decimal n = ap value_of (decimal-read n)

decimal-filled : (n : ℕ) → not (is_empty (decimal n)) ≡ true
unfolding numeral
decimal-filled n = go (decimal n) (decimal-read n)
  where
    go : (w : List ℕ) → numeral w ≡ Some (pos n) → not (is_empty w) ≡ true
    go [] e = let z : ◌≡◌ {A = ℕ} 0 1 = cc in absurd (omega arith)
    go (d ∷ ds) e = refl

module _ (first : ℕ) where
  word-filled : {a : Argument} {w v : List ℕ} → LowerWord first a w v → not (is_empty w) ≡ true → not (is_empty v) ≡ true
  word-filled (kept e) h = h
  word-filled (moved u) h = decimal-filled u

  word-laid-out : {a : Argument} {w v : List ℕ} → LowerWord first a w v → argument_laid_out w a ≡ true → argument_laid_out v a ≡ true
  unfolding argument_laid_out is_numeral
  word-laid-out (kept e) h = h
  word-laid-out (moved u) h = ap is_numeral (decimal-read u)

  word-in-range : {a : Argument} {w v : List ℕ} → LowerWord first a w v → argument_in_range w a ≡ true → argument_in_range v a ≡ true
  unfolding argument_in_range
  word-in-range (kept e) h = h
  word-in-range (moved u) h =
      let r : within addresses (pos (u + first)) ≡ true = subst (λ z. within addresses z ≡ true) (value-decimal (u + first)) h in
      let b = leb-true (u + first) 62000 (within-high addresses (pos (u + first)) r) in
      rw (value-decimal u, le-leb 0 u (omega arith)) (le-leb u 62000 (omega arith))

  word-named : (ps : List (List ℕ)) {a : Argument} {w v : List ℕ} → LowerWord first a w v → argument_named ps w a ≡ true → argument_named ps v a ≡ true
  unfolding argument_named
  word-named ps (kept e) h = h
  word-named ps (moved u) h = refl

  word-reaches : (n : ℕ) {a : Argument} {w v : List ℕ} → LowerWord first a w v → argument_reaches (pos first) n w a ≡ true → argument_reaches (pos 0) n v a ≡ true
  unfolding argument_reaches
  word-reaches n (kept e) h = rw e refl
  word-reaches n (moved u) h =
      let r : (leb first (u + first) && ltb (u + first) (first + n)) ≡ true = rw (value-decimal (u + first)) at h in
      let b = ltb-true (u + first) (first + n) (and_right (leb first (u + first)) (ltb (u + first) (first + n)) r) in
      rw (value-decimal u, le-leb 0 u (omega arith)) (lt-ltb u (0 + n) (omega arith))

  word-forward : (k : ℕ) {a : Argument} {w v : List ℕ} → LowerWord first a w v → argument_forward (pos first +ℤ pos k) w a ≡ true → argument_forward (pos 0 +ℤ pos k) v a ≡ true
  unfolding argument_forward
  word-forward k (kept e) h = rw e refl
  word-forward k (moved u) h =
      let r : ltb (first + k) (u + first) ≡ true = rw (value-decimal (u + first)) at h in
      let b = ltb-true (first + k) (u + first) r in
      rw (value-decimal u) (lt-ltb (0 + k) u (omega arith))

-- ---- one line of code

-- whether a word has a byte
abbrev filled : List ℕ → Bool
filled w = not (is_empty w)

-- the second and the third of three words
filled-three : (ws : List (List ℕ)) → length ws ≡ 3 → all filled ws ≡ true → (filled (get_or ws 1 []) ≡ true) × (filled (get_or ws 2 []) ≡ true)
unfolding all
filled-three [] h e = absurd (omega arith)
filled-three (a ∷ []) h e = absurd (omega arith)
filled-three (a ∷ b ∷ []) h e = absurd (omega arith)
filled-three (a ∷ b ∷ c ∷ ws) h e =
    let r = and_right (filled a) (filled b && (filled c && all filled ws)) e in
    (and_left (filled b) (filled c && all filled ws) r, and_left (filled c) (all filled ws) (and_right (filled b) (filled c && all filled ws) r))

-- the files have the same names and as many code lines, and the first begins at `first`, the second at 0
record Lowers (first : ℕ) (ls ms : List Line) : Type 0 where
  pub names : (s : Section) → listed (names s) ms ≡ listed (names s) ls
  pub begins : first_at (body ls) ≡ pos first
  pub zero : first_at (body ms) ≡ pos 0
  pub count : length (lines_of_code (body ms)) ≡ length (lines_of_code (body ls))

module _ {first : ℕ} {ls ms : List Line} (f : Lowers first ls ms) (parted : Every (Free 32) (listed (names primitives) ls)) {n k : ℕ} (l : Line) (x : LowerLine (listed (names primitives) ls) n k first l.text) where
  abbrev ps : List (List ℕ)
  ps = listed (names primitives) ls

  abbrev text : List ℕ
  text = l.text

  abbrev kind : ℕ
  kind = (op_of ps first text).kind

  abbrev takes : Argument
  takes = (kind_at kind).argument

  abbrev word : List ℕ
  word = x.says.word

  line-words : line_words x.line ≡ decimal k ∷ op text ∷ word ∷ []
  unfolding line_words
  line-words =
      let name = (kind_at kind).name in
      let e : decimal k ++ bytes " " ++ name ++ bytes " " ++ word ≡ decimal k ++ 32 ∷ (name ++ 32 ∷ word) = simp append_assoc in
      ap (parted_by 32) (x.says.line ∙ e)
      ∙ split-first 32 (name ++ 32 ∷ word) (decimal-free 32 (omega arith) k)
      ∙ ap (λ ws. decimal k ∷ ws) (split-first 32 word (name_free 32 (omega arith) kind))
      ∙ ap₂ (λ v vs. decimal k ∷ v ∷ vs) x.name (split-alone 32 (argued-free 32 (λ q. omega arith) (omega arith) parted x.says.argued))

  at-is : at x.line ≡ decimal k
  at-is = ap (λ (ws : List (List ℕ)). get_or ws 0 []) line-words

  op-is : op x.line ≡ op text
  op-is = ap (λ (ws : List (List ℕ)). get_or ws 1 []) line-words

  arg_is : arg x.line ≡ word
  arg_is = ap (λ (ws : List (List ℕ)). get_or ws 2 []) line-words

  -- what the row says of the argument
  on_word : (t u : List ℕ → Argument → Bool) → (LowerWord first takes (arg text) word → t (arg text) takes ≡ true → u word takes ≡ true) →
      on_argument (t (arg text)) text ≡ true → on_argument (u (arg x.line)) x.line ≡ true
  unfolding on_argument argument_of
  on_word t u h e =
      ap (λ w. argument_of (u (arg x.line)) (place_among w kind_names)) op-is
      ∙ ap (argument_of (u (arg x.line))) x.placed
      ∙ ap (λ w. u w takes) arg_is
      ∙ h x.lowers (on-kind (t (arg text)) text kind x.placed e)

  line-laid-out : test Layout-row ls (code k) l ≡ true → test Layout-row ms (code k) (ended_line x.line) ≡ true
  unfolding test is_laid_out code_laid_out all is_numeral
  line-laid-out h =
      let spaced = l.ended && all filled (line_words text) in
      let laid = code-laid-out ls k text (and_right spaced (is_laid_out ls (code k) text) h) in
      let old = filled-three (line_words text) laid.three (and_right l.ended (all filled (line_words text)) (and_left spaced (is_laid_out ls (code k) text) h)) in
      let p : all filled (line_words x.line) ≡ true = ap (all filled) line-words ∙ rw (decimal-filled k, old.0, word-filled first x.lowers old.1) refl in
      let q : eqb (length (line_words x.line)) 3 ≡ true = ap (λ ws. eqb (length ws) 3) line-words in
      let r : is_numeral (numeral (at x.line)) ≡ true = ap (λ w. is_numeral (numeral w)) at-is ∙ ap is_numeral (decimal-read k) in
      rw (p, lt-ltb k 1024 x.few, q, r) (on_word argument_laid_out argument_laid_out (word-laid-out first) laid.argument)

  at-within : (j : ℕ) → within (at_range j) (value (at x.line)) ≡ true
  at-within zero = let h = x.few in rw (at-is, value-decimal k, le-leb 0 k (omega arith)) (le-leb k 60000 (omega arith))
  at-within (suc j) = let h = x.few in rw (at-is, value-decimal k, le-leb 0 k (omega arith)) (le-leb k 62000 (omega arith))

  line-in-range : test range-row ls (code k) l ≡ true → test range-row ms (code k) (ended_line x.line) ≡ true
  unfolding test in_range code_in_range
  line-in-range h =
      rw (at-within k) (on_word argument_in_range argument_in_range (word-in-range first) (and_right (within (at_range k) (value (at text))) (on_argument (argument_in_range (arg text)) text) h))

  line-named : test name-row ls (code k) l ≡ true → test name-row ms (code k) (ended_line x.line) ≡ true
  unfolding test named code_named
  line-named h =
      let follows = same (value (at text)) (first_at (body ls) +ℤ pos k) in
      let known = among (op text) kind_names in
      let argument = on_argument (argument_named ps (arg text)) text in
      let p : same (value (at x.line)) (first_at (body ms) +ℤ pos k) ≡ true =
      ap (λ z. same z (first_at (body ms) +ℤ pos k)) (ap value at-is ∙ value-decimal k) ∙ ap (λ z. same (pos k) (z +ℤ pos k)) f.zero ∙ eq-eqb k (0 + k) (omega arith) in
      let q : among (op x.line) kind_names ≡ true = ap (λ w. among w kind_names) op-is ∙ and_right follows known (and_left (follows && known) argument h) in
      let r : on_argument (argument_named (listed (names primitives) ms) (arg x.line)) x.line ≡ true =
      ap (λ qs. on_argument (argument_named qs (arg x.line)) x.line) (f.names primitives)
      ∙ on_word (argument_named ps) (argument_named ps) (word-named first ps) (and_right (follows && known) argument h) in
      rw (p, q) r

  line-priced : test price-row ls (code k) l ≡ true → test price-row ms (code k) (ended_line x.line) ≡ true
  unfolding test priced on_code
  line-priced h = ap (among (op x.line)) (f.names kinds) ∙ ap (λ w. among w (listed (names kinds) ls)) op-is ∙ h

  line-reaches : test target_row ls (code k) l ≡ true → test target_row ms (code k) (ended_line x.line) ≡ true
  unfolding test reaches on_code
  line-reaches h =
      let m = length (lines_of_code (body ls)) in
      ap₂ (λ z i. on_argument (argument_reaches z i (arg x.line)) x.line) f.zero f.count
      ∙ on_word (argument_reaches (pos first) m) (argument_reaches (pos 0) m) (word-reaches first m) (subst (λ z. on_argument (argument_reaches z m (arg text)) text ≡ true) f.begins h)

  line-forward : test forward-row ls (code k) l ≡ true → test forward-row ms (code k) (ended_line x.line) ≡ true
  unfolding test forward code_is_forward
  line-forward h =
      ap (λ z. on_argument (argument_forward (z +ℤ pos k) (arg x.line)) x.line) f.zero
      ∙ on_word (argument_forward (pos first +ℤ pos k)) (argument_forward (pos 0 +ℤ pos k)) (word-forward first k) (subst (λ z. on_argument (argument_forward (z +ℤ pos k) (arg text)) text ≡ true) f.begins h)

  line-passes : (row : Row) → test row ls (code k) l ≡ true → test row ms (code k) (ended_line x.line) ≡ true
  unfolding test all_known on_cells
  line-passes Layout-row h = line-laid-out h
  line-passes range-row h = line-in-range h
  line-passes name-row h = line-named h
  line-passes price-row h = line-priced h
  line-passes target_row h = line-reaches h
  line-passes forward-row h = line-forward h
  line-passes known-row h = refl

-- all lines of code
lines-pass : {first n : ℕ} {ls ms : List Line} {k : ℕ} {is js : List Line} → Lowers first ls ms → Every (Free 32) (listed (names primitives) ls) → (row : Row) → Lower (listed (names primitives) ls) n first k is js →
    Coded (test row ls) k is → Coded (test row ms) k js
lines-pass f p row ends coded.none = coded.none
lines-pass f p row (follows {l} x r) (coded.next h c) = coded.next (line-passes f p l x row h) (lines-pass f p row r c)

-- they have no more bytes
lines-short : {ps : List (List ℕ)} {n first k : ℕ} {ls ms : List Line} → Lower ps n first k ls ms → length (lines_text ms) ≤ length (lines_text ls)
unfolding lines_text
lines-short ends = omega arith
lines-short (follows x r) = let h = lines-short r in let s = x.short in simp length-append (omega arith)

-- ---- all lines

module _ {t u : Role → Line → Bool} (same : (r : Role) → is_code r ≡ false → (l : Line) → t r l ≡ true → u r l ≡ true) where
  front-covered : (rs bs : List Role) {cs : List Role} {ls ms : List Line} → Every (λ r. is_code r ≡ false) rs → Covered t (rs ++ bs) ls → Covered u cs ms → Covered u (rs ++ cs) (take (length rs) ls ++ ms)
  front-covered [] bs none c d = d
  front-covered (r ∷ rs) bs (more e es) (passed {l} p c) d = passed (same r e l p) (front-covered rs bs es c d)

  answers-covered : (k : ℕ) (bs : List Line) → Covered t (answer_roles k bs) bs → Covered u (answer_roles k bs) bs
  unfolding answer_roles
  answers-covered zero [] c = elim c [ ]
  answers-covered (suc k) [] c = rest
  answers-covered k (b ∷ bs) (passed p c) = passed (same (answer k) refl b p) (answers-covered (suc k) bs c)

  -- as many lines of code in the place of those before ANSWER
  later-covered : (k : ℕ) (bs ms : List Line) → length ms ≡ length (up_to_answer bs) → Every (λ l. is_answer l ≡ false) ms → Covered t (code_roles k bs) bs → Coded u k ms →
      Covered u (code_roles k (ms ++ drop (length (up_to_answer bs)) bs)) (ms ++ drop (length (up_to_answer bs)) bs)
  unfolding up_to_answer code_roles
  later-covered k [] [] h none c d = rest
  later-covered k [] (m ∷ ms) h e c d = absurd (omega arith)
  later-covered k (b ∷ bs) ms h e c d = go (is_answer b) refl ms h e c d (later-covered (suc k) bs)
    where
      go : (a : Bool) → is_answer b ≡ a → (ns : List Line) → length ns ≡ length (cond a [] (b ∷ up_to_answer bs)) → Every (λ l. is_answer l ≡ false) ns →
          Covered t (cond a (names answers ∷ answer_roles 0 bs) (code k ∷ code_roles (suc k) bs)) (b ∷ bs) → Coded u k ns →
          ((ns : List Line) → length ns ≡ length (up_to_answer bs) → Every (λ l. is_answer l ≡ false) ns → Covered t (code_roles (suc k) bs) bs → Coded u (suc k) ns →
          Covered u (code_roles (suc k) (ns ++ drop (length (up_to_answer bs)) bs)) (ns ++ drop (length (up_to_answer bs)) bs)) →
          Covered u (code_roles k (ns ++ drop (length (cond a [] (b ∷ up_to_answer bs))) (b ∷ bs))) (ns ++ drop (length (cond a [] (b ∷ up_to_answer bs))) (b ∷ bs))
      go true q [] h none (passed p c) d ih = rw q (passed (same (names answers) refl b p) (answers-covered 0 bs c))
      go true q (m ∷ ns) h e c d ih = absurd (omega arith)
      go false q [] h e c d ih = absurd (omega arith)
      go false q (m ∷ ns) h (more p ps) (passed r c) (coded.next i d) ih = rw p (passed i (ih ns (omega arith) ps c d))

  body-covered : (bs ms : List Line) → 1 ≤ length ms → length ms ≡ length (lines_of_code bs) → Every (λ l. is_answer l ≡ false) ms → Covered t (body_roles bs) bs → Coded u 0 ms →
      Covered u (body_roles (ms ++ drop (length (lines_of_code bs)) bs)) (ms ++ drop (length (lines_of_code bs)) bs)
  unfolding lines_of_code body_roles
  body-covered bs [] s h e c d = absurd (omega arith)
  body-covered [] (m ∷ ms) s h e c d = absurd (omega arith)
  body-covered (b ∷ bs) (m ∷ ms) s h (more p ps) (passed r c) (coded.next i d) = passed i (later-covered 1 bs ms (omega arith) ps c d)

-- the text of the line after others
last-text : (r : Role) (rs : List Role) (x : Role) → Every (λ y. is_role r y ≡ false) rs → is_role r x ≡ true → (hs : List Line) (l : Line) (ms : List Line) → length hs ≡ length rs →
    text_at r (rs ++ x ∷ []) (hs ++ l ∷ ms) ≡ l.text
unfolding text_at
last-text r [] x none e [] l ms h = rw e refl
last-text r [] x none e (k ∷ hs) l ms h = absurd (omega arith)
last-text r (y ∷ rs) x (more q qs) e [] l ms h = absurd (omega arith)
last-text r (y ∷ rs) x (more q qs) e (k ∷ hs) l ms h = rw q (last-text r rs x qs e hs l ms (omega arith))

-- the names line of the code passes in any file
names-pass : (row : Row) (ls : List Line) → test row ls (names instructions) (ended_line (bytes "AT OP ARG")) ≡ true
unfolding test is_laid_out names_laid_out in_range named well_named priced reaches forward on_code all_known on_cells all line_words parted_by equals
names-pass Layout-row ls = refl
names-pass range-row ls = refl
names-pass name-row ls = refl
names-pass price-row ls = refl
names-pass target_row ls = refl
names-pass forward-row ls = refl
names-pass known-row ls = refl

-- what a test finds in no role
others : (t : Role → Bool) (rs : List Role) → all (λ r. not (t r)) rs ≡ true → Every (λ r. t r ≡ false) rs
others t rs e = every_map (λ r h. not-true (t r) h) (all-every (λ r. not (t r)) rs e)

-- no more bytes in the place of others
replaced-short : (ls : List Line) (bs cs : List ℕ) → length bs ≤ length cs → length (replaced ls bs) ≤ length (replaced ls cs)
unfolding replaced
replaced-short ls bs cs h = simp length-append (omega arith)

module _ (text : List ℕ) (p : Passes (lines text)) where
  abbrev ls : List Line
  ls = lines text

  abbrev ms : List Line
  ms = lowered.whole text p

  abbrev first : ℕ
  first = first_address (body ls)

  names-kept : (s : Section) → listed (names s) ms ≡ listed (names s) ls
  unfolding listed is_laid_out names_laid_out all
  names-kept limits = lowered.kept text p (names limits) refl
  names-kept kinds = lowered.kept text p (names kinds) refl
  names-kept primitives = lowered.kept text p (names primitives) refl
  names-kept cells = lowered.kept text p (names cells) refl
  names-kept fields = lowered.kept text p (names fields) refl
  names-kept instructions =
      ap list
      (last-text (names instructions) front (names instructions) (others (is_role (names instructions)) front refl) refl (take lines_before ls) (ended_line (bytes "AT OP ARG")) (lowered.made text p ++ lowered.rest text p) (lowered.head-length text p)
      ∙ sym (equals-path (text_at (names instructions) layout ls) (bytes "AT OP ARG") (passes-laid-out p (names instructions) refl)))
  names-kept answers = lowered.kept text p (names answers) refl

  lowers : Lowers first ls ms
  lowers = record {
    names = names-kept;
    begins = sym (first-natural ls p.range);
    zero = lowered.begins-first text p;
    count = ap length (lowered.codes text p).0 ∙ lowered.made_counted text p;
  }

  -- a row that refuses no line of the file refuses none of the other
  pub row_kept : (row : Row) → refused_line row ls ≡ None → refused_line row ms ≡ None
  unfolding roles all
  row_kept row e =
      let made = lowered.made text p in
      let kept = drop (length (lines_of_code (body ls))) (body ls) in
      let same : (r : Role) → is_code r ≡ false → (l : Line) → test row ls r l ≡ true → test row ms r l ≡ true = λ r c l h. test-other ls ms names-kept row r c l ∙ h in
      let code = lines-pass lowers (lowered.parted text p) row (lowered.lower text p) (code-passed row ls e) in
      let after = body-covered same (body ls) made (lowered.made_some text p) (lowered.made_counted text p) (said-code (lowered.said text p)) (covered-body row ls e) code in
      let placed : Covered (test row ms) (body_roles (body ms)) (made ++ lowered.rest text p) =
      subst (λ bs. Covered (test row ms) (body_roles bs) (made ++ lowered.rest text p)) (sym (lowered.body_is text p)) (subst (λ bs. Covered (test row ms) (body_roles (made ++ kept)) (made ++ bs)) (sym (lowered.rest-is text p)) after) in
      covered-row row ms (front-covered same front (names instructions ∷ body_roles (body ls)) (others is_code front refl) (row-covered row ls e) (passed (names-pass row ms) placed))

  pub whole-passes : Passes ms
  whole-passes = record {
    layout = row_kept Layout-row p.layout;
    range = row_kept range-row p.range;
    names = row_kept name-row p.names;
    prices = row_kept price-row p.prices;
    targets = row_kept target_row p.targets;
    forward = row_kept forward-row p.forward;
  }

  -- it has no more bytes than the file
  pub whole-short : length (lines_text ms) ≤ length text
  whole-short =
      let made = bytes "AT OP ARG\n" ++ lines_text (lowered.made text p) in
      let old = bytes "AT OP ARG\n" ++ lines_text (lines_of_code (body ls)) in
      let l = lines-short (lowered.lower text p) in
      let a = ap length (lowered.whole-text text p) in
      let b = ap length (sym (replaced-whole text p) ∙ ap (replaced ls) (section-text p)) in
      let h = replaced-short ls made old (simp length-append (omega arith)) in
      omega arith
