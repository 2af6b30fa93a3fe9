-- Laws of a patched copy: the parts that it is made of, as the code takes them of a file that passes. Assumes nothing.
use Rattle.std.specs.Prelude.{Err, Ok}
use mathlib.Core.Path.{◌≡◌, refl, sym, ap, ap₂, subst, ◌∙◌}
use mathlib.Core.Bool.{Bool, true, cond, ◌&&◌}
use mathlib.Core.List.{List, [], ◌++◌}
use Prim.Native.Nat.{ℕ, zero, suc, ◌+◌, ◌-◌, ◌<◌, ◌≤◌}
use native.Mathlib.Omega.{arith}
use lib.Dec.{leb, ltb}
use lib.ListN.{length, get_or, take, drop, length-append, length-drop, length-map, take-append-drop}
use lib.Seq.{length-take-le, drop-cons, drop-drop, take-append_seam, get_or-take, get_or-drop}
use borrow.Author.Tests.{lt-ltb, le-ltb, lt-leb, le-leb}
use Rattle.refusals.specs.declared.Refusal.{Refusal}
use Rattle.refusals.specs.declared.Refusal.TheVariants.{TextLength, BadName}
use Rattle.text.specs.Text.{bytes, line_words, Line, no_line, lines, lines_text}
use Rattle.text_decimals.specs.Decimal.{numeral}
use Rattle.text.proofs.TextLaws.{Every, none, more}
use Rattle.text.proofs.LineLaws.{line-drop}
use Rattle.file_format.specs.declared.Role.{Role}
use Rattle.file_format.specs.declared.Role.TheVariants.{Code as code}
use Rattle.file_format.specs.declared.Row.TheVariants.{Layout as Layout-row}
use Rattle.file_format.specs.Layout.{layout, body, lines_of_code}
use Rattle.file_format.specs.Rows.{is_numeral, at, op, arg, test, Passes}
use Rattle.file_format.specs.Routine.{first_address, code_in, routine_of, text_limit}
use Rattle.file_format.proofs.RowLaws.{laid_out, lines-ended, passes-read}
use Rattle.file_format.proofs.CodeLaws.{CodeLaidOut, code-laid-out}
use Rattle.file_format.proofs.CodeLineLaws.{code-take}
use Rattle.file_format.proofs.PassingLaws.{Coded, none as no_code, next, code-passed, code-among}
use Rattle.text.proofs.JoinLaws.{lines-append, text-of-lines, words-three}
use Rattle.answers.specs.Answers.{Answer, reported, refused, of_reading, memory, answer_of}
use Rattle.preview_copy.specs.Patch.{in_code, patched_at, patched}
use Rattle.preview_copy.specs.Held.{within, copy_answer}

-- ---- a line of the code

-- what a passed test gives of each code line
coded-at : {t : Role → Line → Bool} {P : Line → Type 0} → ((k : ℕ) (l : Line) → t (code k) l ≡ true → P l) → {k : ℕ} {ls : List Line} → Coded t k ls → (j : ℕ) → j < length ls → P (get_or ls j no_line)
coded-at f no_code j h = absurd (omega arith)
coded-at f (next {k} {l} p c) zero h = f k l p
coded-at f (next p c) (suc j) h = coded-at f c j (omega arith)

-- a code line: its address is a number, and follows nothing; its three words are parted by one space
pub record CodeLine (line : List ℕ) : Type 0 where
  pub spelt : is_numeral (numeral (at line)) ≡ true
  pub three : line ≡ at line ++ bytes " " ++ op line ++ bytes " " ++ arg line

code-line : (ls : List Line) (k : ℕ) (l : Line) → test Layout-row ls (code k) l ≡ true → CodeLine l.text
code-line ls k l e =
    let c : CodeLaidOut k l.text = code-laid-out ls k l.text (laid_out ls (code k) l e) in
    record { spelt = c.spelt; three = words-three l.text c.three }

-- line k of the lines ls is one of the code
abbrev pub InCode : List Line → ℕ → Type 0
InCode ls k = (length layout ≤ k) × (k < length layout + length (lines_of_code (body ls)))

module _ (ls : List Line) (p : Passes ls) (k : ℕ) (h : InCode ls k) where
  -- its place in the code
  place : k - length layout < length (lines_of_code (body ls))
  place = omega (arith, h.0, h.1)

  pub line-there : k < length ls
  unfolding body
  line-there = omega (arith, place, h.0, code-among (body ls), length-drop (length layout) ls)

  line-is : get_or (lines_of_code (body ls)) (k - length layout) no_line ≡ get_or ls k no_line
  unfolding body
  line-is =
      let e : length layout + (k - length layout) ≡ k = omega (arith, h.0) in
      ap (λ ms. get_or ms (k - length layout) no_line) (code-take (body ls))
      ∙ get_or-take (length (lines_of_code (body ls))) (body ls) (k - length layout) no_line place
      ∙ get_or-drop (length layout) ls (k - length layout) no_line
      ∙ ap (λ n. get_or ls n no_line) e

  pub line-coded : CodeLine (get_or ls k no_line).text
  line-coded = subst (λ (l : Line). CodeLine l.text) line-is (coded-at (code-line ls) (code-passed Layout-row ls p.layout) (k - length layout) place)

-- ---- the parts of a text

every_drop : {A : Type 0} {P : A → Type 0} (n : ℕ) {xs : List A} → Every P xs → Every P (drop n xs)
every_drop zero h = h
every_drop (suc n) none = none
every_drop (suc n) (more p ps) = every_drop n ps

module _ (text : List ℕ) (p : Passes (lines text)) where
  -- a text that has the lines from k on
  pub rest-is : (rest : List ℕ) (k : ℕ) → lines rest ≡ drop k (lines text) → rest ≡ lines_text (drop k (lines text))
  rest-is rest k e =
      let ended : Every (λ l. l.ended ≡ true) (lines rest) = rw e (every_drop k (lines-ended (lines text) p.layout)) in
      sym (text-of-lines rest ended) ∙ ap lines_text e

  pub text-is : (k : ℕ) → text ≡ lines_text (take k (lines text)) ++ lines_text (drop k (lines text))
  text-is k =
      sym (text-of-lines text (lines-ended (lines text) p.layout))
      ∙ ap lines_text (sym (take-append-drop k (lines text)))
      ∙ lines-append (take k (lines text)) (drop k (lines text))

  -- what stands before line k, which the text is without its rest
  pub before-is : (rest : List ℕ) (k : ℕ) → lines rest ≡ drop k (lines text) →
      (length text ≡ length (lines_text (take k (lines text))) + length rest) × (take (length text - length rest) text ≡ lines_text (take k (lines text)))
  before-is rest k e =
      let r = rest-is rest k e in
      let a = lines_text (take k (lines text)) in
      let l : length text ≡ length a + length rest = ap length (text-is k) ∙ length-append a (lines_text (drop k (lines text))) ∙ ap (λ t. length a + length t) (sym r) in
      let n : length text - length rest ≡ length a = omega arith in
      (l, ap₂ take n (text-is k) ∙ take-append_seam a (lines_text (drop k (lines text))))

-- ---- the parts of a copy

-- line k of a text starts after `start` bytes and has an address, and `after` stands behind it
pub record Parts (text : List ℕ) (k start : ℕ) (address after : List ℕ) : Type 0 where
  pub before : take start text ≡ lines_text (take k (lines text))
  pub addressed : address ≡ at (get_or (lines text) k no_line).text
  pub follows : after ≡ lines_text (drop (suc k) (lines text))
  -- the line has more than its address, a space and a line feed
  pub fits : start + length address + 2 + length after ≤ length text

pub parts_are : (text : List ℕ) (p : Passes (lines text)) (k : ℕ) → InCode (lines text) k → (rest line address after : List ℕ) →
    lines rest ≡ drop k (lines text) → line ≡ (get_or (lines rest) 0 no_line).text → address ≡ get_or (line_words line) 0 [] → lines after ≡ drop 1 (lines rest) →
    Parts text k (length text - length rest) address after
unfolding lines_text
parts_are text p k h rest line address after r l a f =
    let ls = lines text in
    let t = line-there ls p k h in
    let b = before-is text p rest k r in
    let m : suc k ≡ k + 1 = omega arith in
    let is : line ≡ (get_or ls k no_line).text = l ∙ ap (λ (x : Line). x.text) (line-drop ls (lines rest) k r) in
    let f' : lines after ≡ drop (suc k) ls = f ∙ ap (drop 1) r ∙ drop-drop 1 k ls ∙ ap (λ n. drop n ls) (sym m) in
    let follows = rest-is text p after (suc k) f' in
    let c = line-coded ls p k h in
    let e : length rest ≡ length line + 1 + length after =
    ap length (rest-is text p rest k r ∙ ap lines_text (drop-cons ls k no_line t))
    ∙ simp length-append (ap₂ (λ x y. length x + 1 + length y) (sym is) (sym follows)) in
    let three : length line ≡ length address + 1 + length (op line) + 1 + length (arg line) =
    ap length (subst (λ x. x ≡ at x ++ bytes " " ++ op x ++ bytes " " ++ arg x) (sym is) c.three)
    ∙ simp length-append (ap (λ x. length x + 1 + length (op line) + 1 + length (arg line)) (sym a)) in
    record { before = b.1; addressed = a ∙ ap at is; follows = follows; fits = omega (arith, b.0) }

-- the copy is the parts with the new instruction between them
module _ {text : List ℕ} {k start : ℕ} {address after : List ℕ} (q : Parts text k start address after) (instruction : List ℕ) where
  pub copy_is : patched_at (lines text) k instruction ≡ take start text ++ address ++ bytes " " ++ instruction ++ bytes "\n" ++ after
  unfolding patched_at
  copy_is = rw (q.before, q.addressed, q.follows) refl

  pub copy-length : length (patched_at (lines text) k instruction) ≡ start + length address + 2 + length after + length instruction
  copy-length = let t = length-take-le start text (omega (arith, q.fits)) in ap length copy_is ∙ simp length-append (omega arith)

  -- it is too long, or it is not
  pub copy-long : 32768 < start + length address + 2 + length after + length instruction → within (patched_at (lines text) k instruction) ≡ refused TextLength
  unfolding within
  copy-long h = rw (lt-ltb text_limit (length (patched_at (lines text) k instruction)) (omega (arith, copy-length))) refl

  pub copy-short : start + length address + 2 + length after + length instruction ≤ 32768 →
      within (patched_at (lines text) k instruction) ≡ reported (take start text ++ address ++ bytes " " ++ instruction ++ bytes "\n" ++ after)
  unfolding within
  copy-short h = rw (le-ltb text_limit (length (patched_at (lines text) k instruction)) (omega (arith, copy-length))) (ap reported copy_is)

-- ---- what the code answers

pub code-count : (ls : List Line) → length (code_in ls).instructions ≡ length (lines_of_code (body ls))
unfolding code_in
code-count ls = simp length-map refl

code-first : (ls : List Line) → (code_in ls).first ≡ first_address (body ls)
unfolding code_in
code-first ls = refl

module _ (text : List ℕ) (p : Passes (lines text)) (short : length text ≤ 32768) (address : ℕ) (instruction : List ℕ) where
  copy_read : copy_answer text address instruction ≡ cond (in_code (code_in (lines text)) address) (within (patched (lines text) address instruction)) (refused (BadName address))
  unfolding copy_answer of_reading routine_of
  copy_read = rw (passes-read text p short) refl

  -- the numbers that the code has of the file
  module _ (ms : List Line) (e : ms ≡ body (lines text)) (first count : ℕ) (f : first ≡ first_address ms) (n : count ≡ length (lines_of_code ms)) where
    is-first : (code_in (lines text)).first ≡ first
    is-first = code-first (lines text) ∙ ap first_address (sym e) ∙ sym f

    is-count : length (code_in (lines text)).instructions ≡ count
    is-count = code-count (lines text) ∙ ap (λ xs. length (lines_of_code xs)) (sym e) ∙ sym n

    inside_is : in_code (code_in (lines text)) address ≡ (leb first address && ltb (address - first) count)
    unfolding in_code
    inside_is = rw (is-first, is-count) refl

    pub copy-below : address < first → copy_answer text address instruction ≡ refused (BadName address)
    copy-below h = copy_read ∙ rw (inside_is, lt-leb first address h) refl

    pub copy-above : first ≤ address → count ≤ address - first → copy_answer text address instruction ≡ refused (BadName address)
    copy-above h k = copy_read ∙ rw (inside_is, le-leb first address h, le-ltb (address - first) count k) refl

    pub copy-inside : first ≤ address → address - first < count →
        InCode (lines text) (14 + (address - first)) × (copy_answer text address instruction ≡ within (patched_at (lines text) (14 + (address - first)) instruction))
    unfolding patched
    copy-inside h k = (
      (omega arith, omega (arith, ap (λ xs. length (lines_of_code xs)) e)),
      copy_read ∙ rw (inside_is, le-leb first address h, lt-ltb (address - first) count k, is-first) refl,
    )

-- ---- what is told of the copy

-- an answer by what the code tells of it, and by the memory
pub told-copy : (a : Answer) (n : ℕ) → Ok n ≡ answer_of a → (former out : List ℕ) → out ≡ memory a former → (a ≡ reported (take n out)) × (n ≤ length out)
unfolding answer_of memory
told-copy (reported bs) n e former out m =
    let l : n ≡ length bs = cc in
    (ap reported (sym (ap₂ take l m ∙ take-append_seam bs (drop (length bs) former))), omega (arith, l, ap length m, length-append bs (drop (length bs) former)))
told-copy (refused x) n e former out m = let z : ◌≡◌ {A = ℕ} 0 1 = cc in absurd (omega arith)

pub told-refusal : (a : Answer) (x : Refusal) → Err x ≡ answer_of a → a ≡ refused x
unfolding answer_of
told-refusal (reported bs) x e = let z : ◌≡◌ {A = ℕ} 0 1 = cc in absurd (omega arith)
told-refusal (refused y) x e = let h : y ≡ x = cc in ap refused h
