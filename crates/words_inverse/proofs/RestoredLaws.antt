-- Laws of an import that is exported: of a passing file whose section of the code is what an import made, with the same primitives, the
-- words are those that were imported. Assumes nothing.
use Rattle.std.specs.Prelude.{None, Ok, Some}
use mathlib.Core.Path.{◌≡◌, refl, sym, ap, ap₂, subst, ◌∙◌}
use mathlib.Core.Bool.{Bool, true, false, cond}
use mathlib.Core.List.{List, [], ◌∷◌, ◌++◌, append_assoc, map}
use Prim.Native.Nat.{ℕ, suc, ◌+◌, ◌<◌, ◌≤◌}
use native.Mathlib.Omega.{arith}
use lib.Dec.{ltb}
use lib.IntN.{pos}
use lib.ListN.{length, get_or, take, drop, length-map}
use Rattle.text.specs.Text.{bytes, parted_by, line_words, Line, no_line, lines, all, distinct, lines_text}
use Rattle.text_decimals.specs.Decimal.{numeral, decimal}
use Rattle.text.proofs.TextLaws.{Every, none, more, and_right}
use Rattle.text.proofs.LineLaws.{ended_line}
use Rattle.text_decimals.proofs.DecimalLaws.{decimal-read}
use Rattle.instructions.specs.Kinds.{kind_at}
use Rattle.file_format.specs.declared.Section.TheVariants.{Primitives as primitives}
use Rattle.file_format.specs.declared.Role.TheVariants.{Names as names}
use Rattle.file_format.specs.Layout.{body, lines_of_code, listed}
use Rattle.file_format.specs.Rows.{value_of, value, is_name, well_named, named, first_at, Passes}
use Rattle.file_format.proofs.RowLaws.{passes-named}
use Rattle.file_format.proofs.AnswerLaws.{first_code}
use Rattle.file_format.proofs.PassingLaws.{code-some}
use Rattle.words.specs.Words.{Word, words_of, all_bytes}
use Rattle.words.specs.Decoding.{Item, Decoded, item, unreadable, decoded, items, call_listed, fault_from, word_fault, lands, offset_fault}
use Rattle.words.specs.Lines.{code_text}
use Rattle.words.specs.Import.{primitives_of, import_verdict, import_text}
use Rattle.words.specs.Export.{Op, positions, items_from, words_in, export_ops, export_bytes}
use Rattle.words.proofs.OffsetLaws.{fault-then}
use Rattle.words.proofs.ExportLaws.{Placed, with-word, plain}
use Rattle.words.proofs.ExportLaws as placed
use Rattle.words_import.proofs.ImportLaws.{import-sound, import-words}
use Rattle.words_inverse.specs.Sections.{lines_before, section_length, code_section}
use Rattle.text.proofs.JoinLaws.{Free, text-free, split-first, lines-free, lines-of-text}
use Rattle.words_inverse.proofs.FileLaws.{section-lines}
use Rattle.words_inverse.proofs.LineLaws.{says-one}
use Rattle.text_decimals.proofs.SpellingLaws.{decimal-free}
use Rattle.words_inverse.proofs.ImportedLaws.{Said, end, next}
use Rattle.words_inverse.proofs.ExportedLaws.{names-free, ops, file-said, counted}
use Rattle.words_inverse.proofs.DecodedLaws.{faulty, decoded-placed, decoded-back}
use Rattle.words_inverse.proofs.WrittenLaws.{op_said, Sound, rows, written-text, rows-said, rows-free, all-again}

-- ---- instructions without a fault

sound-of : (n : ℕ) (ws : List Word) → word_fault n ws ≡ None → fault_from n 0 (decoded ws) ≡ None
unfolding word_fault
sound-of n [] e = faulty 0 e
sound-of n (w ∷ ws) e = e

calls-listed : (n c : ℕ) (es : List Decoded) → fault_from n c es ≡ None → Every (λ x. call_listed n x.argument (kind_at x.kind).argument ≡ true) (items es)
unfolding items fault_from
calls-listed n c [] e = none
calls-listed n c (unreadable i ∷ es) e = faulty i e
calls-listed n c (item x ∷ es) e = go (ltb c 1024) (call_listed n x.argument (kind_at x.kind).argument) refl e (calls-listed n (suc c) es)
  where
    go : (b d : Bool) → call_listed n x.argument (kind_at x.kind).argument ≡ d → cond b (cond d (fault_from n (suc c) es) (Some (suc x.index))) (Some x.index) ≡ None
        → (fault_from n (suc c) es ≡ None → Every (λ y. call_listed n y.argument (kind_at y.kind).argument ≡ true) (items es))
        → Every (λ y. call_listed n y.argument (kind_at y.kind).argument ≡ true) (x ∷ items es)
    go true true q f ih = more q (ih f)
    go true false q f ih = faulty (suc x.index) f
    go false d q f ih = faulty x.index f

offsets-land : (xs ys : List Item) → offset_fault xs ys ≡ None → Every (λ y. lands xs y (kind_at y.kind).argument ≡ true) ys
unfolding offset_fault
offsets-land xs [] e = none
offsets-land xs (y ∷ ys) e = go (lands xs y (kind_at y.kind).argument) refl e (offsets-land xs ys)
  where
    go : (b : Bool) → lands xs y (kind_at y.kind).argument ≡ b → cond b (offset_fault xs ys) (Some (suc y.index)) ≡ None
        → (offset_fault xs ys ≡ None → Every (λ x. lands xs x (kind_at x.kind).argument ≡ true) ys) → Every (λ x. lands xs x (kind_at x.kind).argument ≡ true) (y ∷ ys)
    go true q f ih = more q (ih f)
    go false q f ih = faulty (suc y.index) f

all_sound : (xs : List Item) (ps : List (List ℕ)) {i : ℕ} {ys : List Item} → Placed i ys → Every (λ x. call_listed (length ps) x.argument (kind_at x.kind).argument ≡ true) ys
    → Every (λ y. lands xs y (kind_at y.kind).argument ≡ true) ys → Every (Sound xs ps) ys
all_sound xs ps placed.none none none = none
all_sound xs ps (with-word h t n p) (more c cs) (more l ls) = more (record { known = h; listed = c; lands = l }) (all_sound xs ps p cs ls)
all_sound xs ps (plain h t p) (more c cs) (more l ls) = more (record { known = h; listed = c; lands = l }) (all_sound xs ps p cs ls)

-- ---- lines

module _ {A : Type 0} {P : A → Type 0} where
  pub every_take : (n : ℕ) {xs : List A} → Every P xs → Every P (take n xs)
  every_take ℕ.zero h = none
  every_take (suc n) none = none
  every_take (suc n) (more p ps) = more p (every_take n ps)

  pub every_drop : (n : ℕ) {xs : List A} → Every P xs → Every P (drop n xs)
  every_drop ℕ.zero h = h
  every_drop (suc n) none = none
  every_drop (suc n) (more p ps) = every_drop n ps

-- a file is said in one way
said-one : (ps : List (List ℕ)) → distinct ps ≡ true → (n : ℕ) {k : ℕ} {ls : List Line} {os qs : List Op} → Said ps n k ls os → Said ps n k ls qs → os ≡ qs
said-one ps u n end end = refl
said-one ps u n (next {k} {l} {o} s ss) (next {o = q} t ts) = ap₂ ◌∷◌ (says-one ps u n k l.text o q s t) (said-one ps u n ss ts)

pub said-length : {ps : List (List ℕ)} {n k : ℕ} {ls : List Line} {os : List Op} → Said ps n k ls os → length ls ≡ length os
said-length end = refl
said-length (next s ss) = ap suc (said-length ss)

-- its first line is line 0
pub first_said : {ps : List (List ℕ)} {n : ℕ} {ls : List Line} {os : List Op} → Said ps n 0 ls os → 1 ≤ length ls → first_at ls ≡ pos 0
unfolding first_at line_words value value_of
first_said end h = absurd (omega arith)
first_said (next {o} s ss) h =
    let rest = (kind_at o.kind).name ++ 32 ∷ s.word in
    let e : decimal 0 ++ bytes " " ++ (kind_at o.kind).name ++ bytes " " ++ s.word ≡ decimal 0 ++ 32 ∷ rest = simp append_assoc in
    ap (λ t. value_of (numeral (get_or (parted_by 32 t) 0 []))) (s.line ∙ e)
    ∙ ap (λ ws. value_of (numeral (get_or ws 0 []))) (split-first 32 rest (decimal-free 32 (omega arith) 0))
    ∙ ap value_of (decimal-read 0)

-- ---- the words again

module _ (bs line text : List ℕ) (small : Every (λ b. b < 256) bs) (ok : import_verdict bs line ≡ Ok tt) (p : Passes (lines text))
    (same : listed (names primitives) (lines text) ≡ primitives_of line) (made : code_section (lines text) ≡ import_text bs line) where
  abbrev ls : List Line
  ls = lines text

  abbrev ps : List (List ℕ)
  ps = listed (names primitives) ls

  abbrev xs : List Item
  xs = items (decoded (words_of bs))

  sound : fault_from (length (primitives_of line)) 0 (decoded (words_of bs)) ≡ None
  sound = sound-of (length (primitives_of line)) (words_of bs) (import-words bs line ok)

  placed-all : Placed 0 xs
  unfolding decoded
  placed-all = decoded-placed bs small (length (primitives_of line)) sound

  lands-all : Every (λ y. lands xs y (kind_at y.kind).argument ≡ true) xs
  lands-all = offsets-land xs xs (sym (fault-then (length (primitives_of line)) (words_of bs) (import-words bs line ok)) ∙ import-sound bs line ok)

  sound-all : Every (Sound xs ps) xs
  sound-all = all_sound xs ps placed-all (subst (λ qs. Every (λ x. call_listed (length qs) x.argument (kind_at x.kind).argument ≡ true) xs) (sym same) (calls-listed _ 0 (decoded (words_of bs)) sound)) lands-all

  -- the lines of the section, as the file has them and as the import writes them
  abbrev held : List Line
  held = get_or ls lines_before no_line ∷ lines_of_code (body ls)

  abbrev written : List Line
  written = ended_line (bytes "AT OP ARG") ∷ rows xs ps 0 xs

  held-free : Every (λ l. Free 10 l.text) held
  held-free = subst (Every (λ l. Free 10 l.text)) (section-lines p) (every_take (section_length ls) (every_drop lines_before (lines-free text)))

  heading-free : Free 10 (bytes "AT OP ARG")
  unfolding all
  heading-free = text-free 10 (bytes "AT OP ARG") refl

  written-free : Every (λ l. Free 10 l.text) written
  written-free = more heading-free (rows-free xs ps (names-free text p) 0 sound-all)

  same_text : lines_text held ≡ lines_text written
  unfolding code_section import_text
  same_text = ap lines_text (sym (section-lines p)) ∙ made ∙ ap (λ qs. code_text qs xs) (sym same) ∙ written-text xs ps

  same_lines : map (λ l. ended_line l.text) held ≡ map (λ l. ended_line l.text) written
  same_lines = sym (lines-of-text held-free) ∙ ap lines same_text ∙ lines-of-text written-free

  pub said-again : Said ps (length xs) 0 (lines_of_code (body ls)) (map (op_said xs) xs)
  said-again = rows-said xs ps (lines_of_code (body ls)) xs sound-all (cc (same_lines))

  pub begins : first_at (body ls) ≡ pos 0
  begins = sym (first_code (body ls)) ∙ first_said said-again (code-some ls p.layout)

  unlike : distinct ps ≡ true
  unfolding named well_named listed
  unlike = and_right (all is_name ps) (distinct ps) (passes-named p (names primitives) refl)

  same_count : length (ops text p) ≡ length xs
  same_count = counted text p ∙ said-length said-again ∙ length-map xs (op_said xs)

  pub same-ops : ops text p ≡ map (op_said xs) xs
  same-ops = said-one ps unlike (length xs) (subst (λ n. Said ps n 0 (lines_of_code (body ls)) (ops text p)) same_count (file-said text p begins)) said-again

  pub import-exported : export_bytes ls ≡ bs
  unfolding export_bytes export_ops decoded
  import-exported =
      ap (λ os. all_bytes (words_in (items_from (positions 0 os) 0 os))) same-ops
      ∙ ap (λ ys. all_bytes (words_in ys)) (all-again xs placed-all lands-all)
      ∙ decoded-back bs small (length (primitives_of line)) sound
