-- Laws of a file that begins at any address, and of the file with the lines that an import makes of its words: the second is the first at
-- address 0. Assumes nothing.
use mathlib.Core.Path.{◌≡◌, refl, sym, ap, ap₂, subst, ◌∙◌}
use mathlib.Core.Bool.{Bool, true, false, cond, not, false≢true}
use mathlib.Core.List.{List, [], ◌∷◌, ◌++◌, append_assoc, map}
use Prim.Native.Nat.{ℕ, suc, ◌+◌, ◌-◌, ◌<◌, ◌≤◌}
use native.Mathlib.Omega.{arith}
use lib.IntN.{ℤ, pos}
use lib.ListN.{length, get_or, take, drop, length-drop}
use lib.Seq.{length-take-le, drop-drop, drop-append-add, take_at}
use borrow.Author.Tests.{le-leb}
use Rattle.text.specs.Text.{bytes, equals, parted_by, line_words, Line, lines, find, all, distinct, lines_text}
use Rattle.text_decimals.specs.Decimal.{decimal}
use Rattle.text.proofs.TextLaws.{Every, none, more, every_append, every-get_d, all-every, and_right}
use Rattle.text.proofs.LineLaws.{ended_line}
use Rattle.text_decimals.proofs.DecimalLaws.{decimal-read}
use Rattle.numbers.specs.Numbers.{IsNumber, numbers}
use Rattle.instructions.specs.Kinds.{Kind, addresses, kinds, kind_names, operand, kind_at}
use Rattle.instructions.specs.declared.Argument.{Argument}
use Rattle.instructions.specs.declared.Argument.TheVariants.{Absent, Target, Primitive, Within}
use Rattle.machine.specs.Forward.{branches}
use Rattle.machine.specs.Machine.{Instruction, instruction, price_of, jump}
use Rattle.file_format.specs.declared.Section.TheVariants.{Limits as limits, Kinds as kinds-of, Primitives as primitives, Cells as cells, Fields as fields, Instructions as instructions}
use Rattle.file_format.specs.declared.Column.TheVariants.{Limit as limit, Cycles as cycles, Words as words-column, Extra as extra, Cell as cell}
use Rattle.file_format.specs.declared.Role.{Role}
use Rattle.file_format.specs.declared.Role.TheVariants.{Names as names, Values as values}
use Rattle.file_format.specs.Layout.{section, layout, is_answer, body, up_to_answer, past_answer, lines_of_code, answer_lines, list, is_role, text_at, listed}
use Rattle.file_format.specs.Rows.{is_numeral, is_target, value, value_of, op, arg, is_name, well_named, named, extra_counts, first_at, Passes}
use Rattle.file_format.specs.Routine.{inside, natural_at, PriceList, price_list, prices, argument_value, instruction_of, first_address, code_in, start_of, routine_of}
use Rattle.file_format.proofs.RowLaws.{passes-named, lines-ended}
use Rattle.file_format.proofs.RangeLaws.{inside_is, number-within}
use Rattle.file_format.proofs.PassingLaws.{code-some, code-few, code-among}
use Rattle.file_format.proofs.AnswerLaws.{first_code}
use Rattle.words.specs.Export.{Op, relative, op_of, export_ops, export_bytes}
use Rattle.words_inverse.specs.Sections.{lines_before, section_length, replaced}
use Rattle.text.proofs.JoinLaws.{Free, text-free, split-alone, split-first, split-free, lines-append, lines-free, lines-of-text, ended-lines}
use Rattle.text_decimals.proofs.SpellingLaws.{integer-read, decimal-free}
use Rattle.instructions.proofs.KindNameLaws.{kind-found, name-found, name_free}
use Rattle.words_inverse.proofs.LineLaws.{Argued, absent, target, primitive, within-range, Says, LowerLine, argued-free}
use Rattle.file_format.proofs.CodeLineLaws.{number-first}
use Rattle.words_inverse.proofs.ImportedLaws.{Said, end, next}
use Rattle.words_inverse.proofs.ExportedLaws.{Lower, ends, follows, lower-said, names-free, ops, counted, ops-numbers, file-lower}
use Rattle.words_inverse.proofs.RestoredLaws.{every_take, every_drop, first_said, said-length}
use Rattle.relocation_theory.specs.Raised.{raise_instruction, raise_code, raise_state}
use Rattle.words_entry.specs.Meant.{priced_as}
use Rattle.words_entry.proofs.MeantLaws.{relative-zero, said-op, by-ops}

-- ---- what a line says is what is read from it

-- the third word of a line
said-arg : {ps : List (List ℕ)} {n k : ℕ} {text : List ℕ} {o : Op} → Every (Free 32) ps → (s : Says ps n k text o) → arg text ≡ s.word
unfolding line_words
said-arg {k = k} {o = o} free s =
    let name = (kind_at o.kind).name in
    let e : decimal k ++ bytes " " ++ name ++ bytes " " ++ s.word ≡ decimal k ++ 32 ∷ (name ++ 32 ∷ s.word) = simp append_assoc in
    ap (λ t. get_or (parted_by 32 t) 2 []) (s.line ∙ e)
    ∙ ap (λ (ws : List (List ℕ)). get_or ws 2 []) (split-first 32 (name ++ 32 ∷ s.word) (decimal-free 32 (omega arith) k))
    ∙ ap (λ (ws : List (List ℕ)). get_or ws 1 []) (split-first 32 s.word (name_free 32 (omega arith) o.kind))
    ∙ ap (λ (ws : List (List ℕ)). get_or ws 0 []) (split-alone 32 (argued-free 32 (λ q. omega arith) (omega arith) free s.argued))

module _ (ps : List (List ℕ)) (unlike : distinct ps ≡ true) (free : Every (Free 32) ps) (n : ℕ) (few : n ≤ 1024) where
  argued-value : {a : Argument} {w : List ℕ} {z : ℤ} → IsNumber z → Argued ps n a w z → argument_value ps w a ≡ z
  unfolding argument_value value value_of
  argued-value i absent = refl
  argued-value i (target {t} h) = ap (λ x. inside addresses (value_of x)) (decimal-read t) ∙ inside_is addresses (pos t) (ap₂ (λ a b. cond a b false) (le-leb 0 t (omega arith)) (le-leb t 62000 (omega arith)))
  argued-value i (primitive {i = j} h) = ap pos (name-found ps unlike j h)
  argued-value i (within-range {z}) = ap (λ x. inside numbers (value_of x)) (integer-read z) ∙ inside_is numbers z (number-within z i)

  says-op : {k : ℕ} {text : List ℕ} {o : Op} → IsNumber o.value → Says ps n k text o → op_of ps 0 text ≡ o
  unfolding op_of
  says-op {text = text} {o = o} i s =
      let e : find (op text) kind_names ≡ o.kind = ap (λ w. find w kind_names) (said-op s) ∙ kind-found o.kind s.known in
      let a = (kind_at o.kind).argument in
      let v : relative 0 (argument_value ps (arg text) a) a ≡ o.value = relative-zero (argument_value ps (arg text) a) a ∙ ap (λ w. argument_value ps w a) (said-arg free s) ∙ argued-value i s.argued in
      ap (λ k. record { kind = k; value = relative 0 (argument_value ps (arg text) (kind_at k).argument) (kind_at k).argument }) e
      ∙ ap (λ z. record { kind = o.kind; value = z }) v

  said-ops : {k : ℕ} {ms : List Line} {os : List Op} → Every (λ o. IsNumber o.value) os → Said ps n k ms os → map (λ l. op_of ps 0 l.text) ms ≡ os
  said-ops none end = refl
  said-ops (more i is) (next s ss) = ap₂ ◌∷◌ (says-op i s) (said-ops is ss)

-- no line feed in such a line
said-free : {ps : List (List ℕ)} {n k : ℕ} {ms : List Line} {os : List Op} → Every (Free 10) ps → Said ps n k ms os → Every (λ l. Free 10 l.text) ms
unfolding all
said-free f end = none
said-free f (next {k} {o = o} s ss) =
    more
    (subst (Free 10) (sym s.line)
    (every_append (every_append (every_append (every_append (decimal-free 10 (omega arith) k) (text-free 10 (bytes " ") refl)) (name_free 10 (omega arith) o.kind)) (text-free 10 (bytes " ") refl))
    (argued-free 10 (λ q. omega arith) (omega arith) f s.argued)))
    (said-free f ss)

-- ---- the instructions at address 0

-- exactly the branches take a target: computed for the whole table
abbrev aims : Kind → Bool
aims k = cond (branches k.operation) (is_target k.argument) (not (is_target k.argument))

kinds-aim : (i : ℕ) → aims (kind_at i) ≡ true
unfolding kinds kind_at all
kinds-aim i = every-get_d (all-every aims kinds refl) refl i

module _ (ks : PriceList) (es : List (List ℕ)) (pl : PriceList) where
  abbrev priced : ℕ → List ℕ → ℤ → Instruction
  priced k w v = instruction (kind_at k) v (price_of (prices ks pl) (kind_at k).argument (find w ks.names) v) (natural_at extra_counts es (find w ks.names))

  module _ (first : ℕ) where
    -- by the argument that the kind takes
    argument-raised : (k : Kind) (v u : ℤ) (i x : ℕ) (a : Argument) (b : Bool) → k.argument ≡ a → branches k.operation ≡ b → cond b (is_target a) (not (is_target a)) ≡ true →
        (a ≡ Target → (t : ℕ) × (u ≡ pos t) × (v ≡ pos (t + first))) → (is_target a ≡ false → u ≡ v) →
        instruction k v (price_of (prices ks pl) k.argument i v) x ≡ raise_instruction first (instruction k u (price_of (prices ks pl) k.argument i u) x)
    unfolding instruction raise_instruction operand price_of
    argument-raised k v u i x Target true e q h t n =
        let r = t refl in
        rw (q, e, r.1, r.2) refl
    argument-raised k v u i x Target false e q h t n = absurd (false≢true h)
    argument-raised k v u i x Absent true e q h t n = absurd (false≢true h)
    argument-raised k v u i x Absent false e q h t n = rw (q, n refl) refl
    argument-raised k v u i x Primitive true e q h t n = absurd (false≢true h)
    argument-raised k v u i x Primitive false e q h t n = rw (q, n refl) refl
    argument-raised k v u i x (Within r) true e q h t n = absurd (false≢true h)
    argument-raised k v u i x (Within r) false e q h t n = rw (q, n refl) refl

    relative-other : (z : ℤ) (a : Argument) → is_target a ≡ false → relative first z a ≡ z
    unfolding relative
    relative-other z Absent e = refl
    relative-other z Target e = absurd (false≢true (sym e))
    relative-other z Primitive e = refl
    relative-other z (Within r) e = refl

    line-raised : {n k : ℕ} (text : List ℕ) → LowerLine pl.names n k first text →
        instruction_of ks es pl text ≡ raise_instruction first (priced_as ks es pl (op_of pl.names first text).kind (op_of pl.names first text).value)
    unfolding instruction_of priced_as op_of
    line-raised text x =
        let k = find (op text) kind_names in
        let a = (kind_at k).argument in
        let v = argument_value pl.names (arg text) a in
        let back : a ≡ Target → (t : ℕ) × (relative first v a ≡ pos t) × (v ≡ pos (t + first)) = λ t. let r = x.back t in (r.0, r.1, ap (argument_value pl.names (arg text)) t ∙ r.2) in
        argument-raised (kind_at k) v (relative first v a) (find (op text) ks.names) (natural_at extra_counts es (find (op text) ks.names)) a (branches (kind_at k).operation) refl refl (kinds-aim k) back (relative-other v a)
        ∙ ap (λ w. raise_instruction first (priced k w (relative first v a))) (sym x.name)

    lines-raised : {n k : ℕ} {ls ms : List Line} → Lower pl.names n first k ls ms →
        map (λ l. instruction_of ks es pl l.text) ls ≡ map (raise_instruction first) (map (λ o. priced_as ks es pl o.kind o.value) (map (λ l. op_of pl.names first l.text) ls))
    lines-raised ends = refl
    lines-raised (follows {l} x r) = ap₂ ◌∷◌ (line-raised l.text x) (lines-raised r)

-- ---- the lines of the file with others in the place of its code

-- the roles before the names line of the code
abbrev pub front : List Role
front =
    section limits (limit ∷ []) ++ section kinds-of (cycles ∷ words-column ∷ extra ∷ []) ++ section primitives (cycles ∷ words-column ∷ []) ++ section cells (cell ∷ []) ++ section fields (cell ∷ [])

front-text : (r : Role) (rs : List Role) (x : Role) → is_role r x ≡ false → (ls ms : List Line) → take (length rs) ls ≡ take (length rs) ms → text_at r (rs ++ x ∷ []) ls ≡ text_at r (rs ++ x ∷ []) ms
unfolding text_at
front-text r [] x e [] [] q = refl
front-text r [] x e [] (m ∷ ms) q = sym (ap (λ b. cond b m.text []) e)
front-text r [] x e (l ∷ ls) [] q = ap (λ b. cond b l.text []) e
front-text r [] x e (l ∷ ls) (m ∷ ms) q = ap (λ b. cond b l.text []) e ∙ sym (ap (λ b. cond b m.text []) e)
front-text r (y ∷ rs) x e [] [] q = refl
front-text r (y ∷ rs) x e [] (m ∷ ms) q = let z : ◌≡◌ {A = ℕ} 0 1 = cc in absurd (omega arith)
front-text r (y ∷ rs) x e (l ∷ ls) [] q = let z : ◌≡◌ {A = ℕ} 0 1 = cc in absurd (omega arith)
front-text r (y ∷ rs) x e (l ∷ ls) (m ∷ ms) q =
    let h : l ≡ m = cc in
    let t : take (length rs) ls ≡ take (length rs) ms = cc in
    ap₂ (λ (k : Line) s. cond (is_role r y) k.text s) h (front-text r rs x e ls ms t)

-- as many lines in the place of those before ANSWER
up-to-other : (bs ms : List Line) → length ms ≡ length (up_to_answer bs) → Every (λ l. is_answer l ≡ false) ms →
    (up_to_answer (ms ++ drop (length (up_to_answer bs)) bs) ≡ ms) × (past_answer (ms ++ drop (length (up_to_answer bs)) bs) ≡ past_answer bs)
unfolding up_to_answer past_answer
up-to-other [] [] h none = (refl, refl)
up-to-other [] (m ∷ ms) h e = absurd (omega arith)
up-to-other (b ∷ bs) ms h e = go (is_answer b) refl ms h e (up-to-other bs)
  where
    go : (a : Bool) → is_answer b ≡ a → (ns : List Line) → length ns ≡ length (cond a [] (b ∷ up_to_answer bs)) → Every (λ l. is_answer l ≡ false) ns →
        ((ns : List Line) → length ns ≡ length (up_to_answer bs) → Every (λ l. is_answer l ≡ false) ns →
        (up_to_answer (ns ++ drop (length (up_to_answer bs)) bs) ≡ ns) × (past_answer (ns ++ drop (length (up_to_answer bs)) bs) ≡ past_answer bs)) →
        (up_to_answer (ns ++ drop (length (cond a [] (b ∷ up_to_answer bs))) (b ∷ bs)) ≡ ns) × (past_answer (ns ++ drop (length (cond a [] (b ∷ up_to_answer bs))) (b ∷ bs)) ≡ cond a bs (past_answer bs))
    go true q [] h none ih = rw q (refl, refl)
    go true q (m ∷ ns) h e ih = absurd (omega arith)
    go false q [] h e ih = absurd (omega arith)
    go false q (m ∷ ns) h (more p ps) ih = let r = ih ns (omega arith) ps in rw p (ap (λ ls. m ∷ ls) r.0, r.1)

code_other : (bs ms : List Line) → 1 ≤ length ms → length ms ≡ length (lines_of_code bs) → Every (λ l. is_answer l ≡ false) ms →
    (lines_of_code (ms ++ drop (length (lines_of_code bs)) bs) ≡ ms) × (answer_lines (ms ++ drop (length (lines_of_code bs)) bs) ≡ answer_lines bs)
unfolding lines_of_code answer_lines
code_other bs [] s h e = absurd (omega arith)
code_other [] (m ∷ ms) s h e = absurd (omega arith)
code_other (b ∷ bs) (m ∷ ms) s h (more p ps) = let r = up-to-other bs ms (omega arith) ps in (ap (λ ls. m ∷ ls) r.0, r.1)

-- the lines that are made are code
pub said-code : {ps : List (List ℕ)} {n k : ℕ} {ms : List Line} {os : List Op} → Said ps n k ms os → Every (λ l. is_answer l ≡ false) ms
unfolding is_answer is_numeral
said-code end = none
said-code (next {k} {o = o} s ss) =
    let rest = bytes " " ++ (kind_at o.kind).name ++ bytes " " ++ s.word in
    let e : decimal k ++ bytes " " ++ (kind_at o.kind).name ++ bytes " " ++ s.word ≡ decimal k ++ rest = simp append_assoc in
    more (ap (λ t. equals t (bytes "ANSWER")) (s.line ∙ e) ∙ number-first (decimal k) rest (ap is_numeral (decimal-read k))) (said-code ss)

-- ---- the file with the lines that are made

-- the lines of a primitives line have no space
names-parted : (text : List ℕ) → Every (Free 32) (list text)
unfolding list line_words
names-parted text = go (equals text (bytes "-"))
  where
    go : (b : Bool) → Every (Free 32) (cond b [] (parted_by 32 text))
    go true = none
    go false = split-free 32 text

module _ (text : List ℕ) (p : Passes (lines text)) where
  abbrev ls : List Line
  ls = lines text

  abbrev ps : List (List ℕ)
  ps = listed (names primitives) ls

  abbrev first : ℕ
  first = first_address (body ls)

  -- the lines that are made
  pub made : List Line
  made = (file-lower text p).0

  pub lower : Lower ps (length (ops text p)) first 0 (lines_of_code (body ls)) made
  unfolding made
  lower = (file-lower text p).1

  pub said : Said ps (length (ops text p)) 0 made (ops text p)
  said = lower-said lower

  pub made_counted : length made ≡ length (lines_of_code (body ls))
  made_counted = said-length said ∙ counted text p

  pub made_some : 1 ≤ length made
  made_some = let h = code-some ls p.layout in let e = made_counted in omega arith

  made-few : length (ops text p) ≤ 1024
  made-few = let h = code-few ls p.layout in let e = counted text p in omega arith

  unlike : distinct ps ≡ true
  unfolding named well_named listed
  unlike = and_right (all is_name ps) (distinct ps) (passes-named p (names primitives) refl)

  pub parted : Every (Free 32) ps
  unfolding listed
  parted = names-parted (text_at (names primitives) layout ls)

  made-ops : map (λ l. op_of ps 0 l.text) made ≡ ops text p
  made-ops = said-ops ps unlike parted (length (ops text p)) made-few (ops-numbers text p) said

  -- all lines
  abbrev pub rest : List Line
  rest = drop (section_length ls) (drop lines_before ls)

  abbrev pub whole : List Line
  whole = take lines_before ls ++ (ended_line (bytes "AT OP ARG") ∷ (made ++ rest))

  ended : Every (λ l. l.ended ≡ true) ls
  ended = lines-ended ls p.layout

  made-ended : {n k : ℕ} {is js : List Line} → Lower ps n first k is js → Every (λ l. l.ended ≡ true) js
  made-ended ends = none
  made-ended (follows x r) = more refl (made-ended r)

  pub whole-text : lines_text whole ≡ replaced ls (bytes "AT OP ARG\n" ++ lines_text made)
  unfolding replaced lines_text
  whole-text =
      lines-append (take lines_before ls) (ended_line (bytes "AT OP ARG") ∷ (made ++ rest))
      ∙ ap (λ t. lines_text (take lines_before ls) ++ (bytes "AT OP ARG\n" ++ t)) (lines-append made rest)
      ∙ ap (λ t. lines_text (take lines_before ls) ++ t) (sym (append_assoc (bytes "AT OP ARG\n") (lines_text made) (lines_text rest)))
      ∙ sym (append_assoc (lines_text (take lines_before ls)) (bytes "AT OP ARG\n" ++ lines_text made) (lines_text rest))

  pub whole-lines : lines (lines_text whole) ≡ whole
  unfolding all
  whole-lines =
      lines-of-text
      (every_append (every_take lines_before (lines-free text))
      (more (text-free 10 (bytes "AT OP ARG") refl) (every_append (said-free (names-free text p) said) (every_drop (section_length ls) (every_drop lines_before (lines-free text))))))
      ∙ ended-lines (every_append (every_take lines_before ended) (more refl (every_append (made-ended lower) (every_drop (section_length ls) (every_drop lines_before ended)))))

  long : lines_before < length ls
  unfolding body
  long =
      let a = code-some ls p.layout in
      let b = code-among (body ls) in
      let d = length-drop (length layout) ls in
      omega arith

  pub head-length : length (take lines_before ls) ≡ lines_before
  head-length = let l = long in length-take-le lines_before ls (omega arith)

  -- what stands before the code
  pub kept : (r : Role) → is_role r (names instructions) ≡ false → listed r whole ≡ listed r ls
  unfolding listed
  kept r e =
      let h : take lines_before whole ≡ take lines_before ls = take_at (take lines_before ls) (ended_line (bytes "AT OP ARG") ∷ (made ++ rest)) lines_before head-length in
      ap list (front-text r front (names instructions) e whole ls h)

  -- and after it
  pub rest-is : rest ≡ drop (length (lines_of_code (body ls))) (body ls)
  unfolding body
  rest-is =
      let c = length (lines_of_code (body ls)) in
      let e : lines_before + suc c ≡ length layout + c = omega arith in
      drop-drop (suc c) lines_before ls ∙ ap (λ n. drop n ls) e ∙ sym (drop-drop c (length layout) ls)

  pub body_is : body whole ≡ made ++ drop (length (lines_of_code (body ls))) (body ls)
  unfolding body
  body_is =
      let l = head-length in
      let e : length layout ≡ length (take lines_before ls) + 1 = omega arith in
      ap (λ n. drop n whole) e ∙ drop-append-add (take lines_before ls) (ended_line (bytes "AT OP ARG") ∷ (made ++ rest)) 1 ∙ ap (λ ms. made ++ ms) rest-is

  pub codes : (lines_of_code (body whole) ≡ made) × (answer_lines (body whole) ≡ answer_lines (body ls))
  codes = let r = code_other (body ls) made made_some made_counted (said-code said) in (ap lines_of_code body_is ∙ r.0, ap answer_lines body_is ∙ r.1)

  pub begins-first : first_at (body whole) ≡ pos 0
  begins-first = sym (first_code (body whole)) ∙ ap first_at codes.0 ∙ first_said said made_some

  pub begins-zero : first_address (body whole) ≡ 0
  unfolding inside
  begins-zero = rw begins-first refl

  -- the words are the same
  pub whole_words : export_bytes whole ≡ export_bytes ls
  unfolding export_bytes
  whole_words =
      ap₂ (λ f ms. export_ops (map (λ l. op_of (listed (names primitives) whole) f l.text) ms)) begins-zero codes.0
      ∙ ap (λ qs. export_ops (map (λ l. op_of qs 0 l.text) made)) (kept (names primitives) refl)
      ∙ ap export_ops made-ops

  -- the code is that of the file, at address 0
  pub code-raised : code_in ls ≡ raise_code first (code_in whole)
  unfolding code_in raise_code price_list
  code-raised =
      let es = listed (values kinds-of extra) ls in
      let kl = price_list kinds-of ls in
      let pl = price_list primitives ls in
      let low = map (λ l. instruction_of kl es pl l.text) made in
      let is : map (λ l. instruction_of kl es pl l.text) (lines_of_code (body ls)) ≡ map (raise_instruction first) low =
      lines-raised kl es pl first lower ∙ ap (map (raise_instruction first)) (sym (by-ops kl es pl said made-ops)) in
      let b = begins-zero in
      let z : first ≡ first_address (body whole) + first = omega arith in
      simp (
        kept (names kinds-of) refl,
        kept (values kinds-of cycles) refl,
        kept (values kinds-of words-column) refl,
        kept (values kinds-of extra) refl,
        kept (names primitives) refl,
        kept (values primitives cycles) refl,
        kept (values primitives words-column) refl,
        codes.0,
      )
      (ap₂ (λ n js. record { first = n; instructions = js }) z is)

  pub start-raised : (routine_of ls).start ≡ raise_state first (routine_of whole).start
  unfolding routine_of start_of raise_state jump code_in
  start-raised =
      let b = begins-zero in
      let z : first ≡ first_address (body whole) + first = omega arith in
      simp (kept (values cells cell) refl, kept (names fields) refl, kept (values fields cell) refl) (ap (λ n. record { at = n; accu = (routine_of ls).start.accu; stack = (routine_of ls).start.stack; blocks = (routine_of ls).start.blocks }) z)

  pub budget-kept : (routine_of ls).budget ≡ (routine_of whole).budget
  unfolding routine_of
  budget-kept = simp (kept (values limits limit) refl)

  pub answers-kept : (routine_of ls).answers ≡ (routine_of whole).answers
  unfolding routine_of
  answers-kept = simp codes.1
