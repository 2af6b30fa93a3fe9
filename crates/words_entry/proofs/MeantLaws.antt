-- Laws of the code that words hold: it is that of a file which has the lines made of them. Assumes nothing.
use Rattle.std.specs.Prelude.{Ok}
use mathlib.Core.Path.{◌≡◌, refl, sym, ap, ap₂, ◌∙◌}
use mathlib.Core.List.{List, [], ◌∷◌, ◌++◌, append_assoc, map}
use Prim.Native.Nat.{ℕ, ◌<◌}
use lib.IntN.{ℤ, pos, +ℤ_idr}
use lib.ListN.{get_or}
use native.Mathlib.Omega.{arith}
use Rattle.text.specs.Text.{bytes, line_words, parted_by, Line, lines, find}
use Rattle.text_decimals.specs.Decimal.{decimal}
use Rattle.text.proofs.TextLaws.{Every}
use Rattle.instructions.specs.declared.Argument.{Argument}
use Rattle.instructions.specs.declared.Argument.TheVariants.{Absent, Target, Primitive, Within}
use Rattle.instructions.specs.Kinds.{kind_names, kind_at}
use Rattle.machine.specs.Machine.{instruction, Instruction, price_of}
use Rattle.file_format.specs.declared.Section.TheVariants.{Kinds as kinds, Primitives as primitives}
use Rattle.file_format.specs.declared.Column.TheVariants.{Extra as extra}
use Rattle.file_format.specs.declared.Role.TheVariants.{Names as names, Values as values}
use Rattle.file_format.specs.Layout.{body, lines_of_code, listed}
use Rattle.file_format.specs.Rows.{op, arg, extra_counts, Passes}
use Rattle.file_format.specs.Routine.{natural_at, PriceList, price_list, prices, argument_value, instruction_of, first_address, code_in}
use Rattle.file_format.proofs.PassingLaws.{first-natural}
use Rattle.words.specs.Words.{words_of}
use Rattle.words.specs.Decoding.{Item, decoded, items}
use Rattle.words.specs.Import.{primitives_of, import_verdict, import_text}
use Rattle.words.specs.Export.{Op, relative, op_of}
use Rattle.words_inverse.specs.Sections.{code_section}
use Rattle.text.proofs.JoinLaws.{split-first}
use Rattle.words_inverse.proofs.LineLaws.{Says}
use Rattle.text_decimals.proofs.SpellingLaws.{decimal-free}
use Rattle.instructions.proofs.KindNameLaws.{name_free}
use Rattle.words_inverse.proofs.ImportedLaws.{Said, end, next}
use Rattle.words_inverse.proofs.WrittenLaws.{value_said, op_said}
use Rattle.words_inverse.proofs.RestoredLaws.{said-again, begins, same-ops}
use Rattle.words_entry.specs.Meant.{argument_meant, priced_as, code_meant}

-- addresses that begin at 0 are numbers of lines
pub relative-zero : (z : ℤ) (a : Argument) → relative 0 z a ≡ z
unfolding relative
relative-zero z Absent = refl
relative-zero z Target = +ℤ_idr z
relative-zero z Primitive = refl
relative-zero z (Within r) = refl

-- the second word of a line that says o
pub said-op : {ps : List (List ℕ)} {n k : ℕ} {text : List ℕ} {o : Op} → Says ps n k text o → op text ≡ (kind_at o.kind).name
unfolding line_words
said-op {k = k} {o = o} s =
    let name = (kind_at o.kind).name in
    let e : decimal k ++ bytes " " ++ name ++ bytes " " ++ s.word ≡ decimal k ++ 32 ∷ (name ++ 32 ∷ s.word) = simp append_assoc in
    ap (λ t. get_or (parted_by 32 t) 1 []) (s.line ∙ e)
    ∙ ap (λ (ws : List (List ℕ)). get_or ws 1 []) (split-first 32 (name ++ 32 ∷ s.word) (decimal-free 32 (omega arith) k))
    ∙ ap (λ (ws : List (List ℕ)). get_or ws 0 []) (split-first 32 s.word (name_free 32 (omega arith) o.kind))

module _ (ks : PriceList) (es : List (List ℕ)) (pl : PriceList) where
  -- an instruction by what its line is
  abbrev priced : List ℕ → ℕ → ℤ → Instruction
  priced w k v = let i = find w ks.names in instruction (kind_at k) v (price_of (prices ks pl) (kind_at k).argument i v) (natural_at extra_counts es i)

  by-op : (text : List ℕ) (o : Op) → o ≡ op_of pl.names 0 text → op text ≡ (kind_at o.kind).name → instruction_of ks es pl text ≡ priced_as ks es pl o.kind o.value
  unfolding instruction_of priced_as op_of
  by-op text o e q =
      let k = find (op text) kind_names in
      let a = (kind_at k).argument in
      let h : o.kind ≡ k = ap (λ (p : Op). p.kind) e in
      let v : o.value ≡ argument_value pl.names (arg text) a = ap (λ (p : Op). p.value) e ∙ relative-zero (argument_value pl.names (arg text) a) a in
      ap (λ w. priced w k (argument_value pl.names (arg text) a)) q ∙ ap₂ (priced (kind_at o.kind).name) (sym h) (sym v)

  pub by-ops : {n k : ℕ} {ls : List Line} {os : List Op} → Said pl.names n k ls os → map (λ l. op_of pl.names 0 l.text) ls ≡ os →
      map (λ l. instruction_of ks es pl l.text) ls ≡ map (λ o. priced_as ks es pl o.kind o.value) os
  by-ops end e = refl
  by-ops (next {l = l} {o = o} {ls = ls} {os = os} s ss) e =
      let h : o ≡ op_of pl.names 0 l.text = cc in
      let t : map (λ m. op_of pl.names 0 m.text) ls ≡ os = cc in
      ap₂ ◌∷◌ (by-op l.text o h (said-op s)) (by-ops ss t)

  -- what the words hold
  value-is : (xs : List Item) (x : Item) (a : Argument) → value_said xs x a ≡ argument_meant xs x a
  unfolding argument_meant
  value-is xs x Absent = refl
  value-is xs x Target = refl
  value-is xs x Primitive = refl
  value-is xs x (Within r) = refl

  said-meant : (xs ys : List Item) → map (λ o. priced_as ks es pl o.kind o.value) (map (op_said xs) ys) ≡ map (λ x. priced_as ks es pl x.kind (argument_meant xs x (kind_at x.kind).argument)) ys
  said-meant xs [] = refl
  said-meant xs (y ∷ ys) = ap₂ ◌∷◌ (ap (priced_as ks es pl y.kind) (value-is xs y (kind_at y.kind).argument)) (said-meant xs ys)

-- the code of a file that has the lines made of words
pub code-meant : (bs line text : List ℕ) → Every (λ b. b < 256) bs → import_verdict bs line ≡ Ok tt → Passes (lines text) →
    listed (names primitives) (lines text) ≡ primitives_of line → code_section (lines text) ≡ import_text bs line → code_in (lines text) ≡ code_meant (lines text) bs
unfolding code_in code_meant price_list
code-meant bs line text small ok p same made =
    let ls = lines text in
    let xs = items (decoded (words_of bs)) in
    let ks = price_list kinds ls in
    let es = listed (values kinds extra) ls in
    let pl = price_list primitives ls in
    let said = said-again bs line text small ok p same made in
    let b = begins bs line text small ok p same made in
    let z : pos (first_address (body ls)) ≡ pos 0 = first-natural ls p.range ∙ b in
    let f : first_address (body ls) ≡ 0 = cc in
    let e : map (λ l. op_of (listed (names primitives) ls) 0 l.text) (lines_of_code (body ls)) ≡ map (op_said xs) xs =
    ap (λ i. map (λ l. op_of (listed (names primitives) ls) i l.text) (lines_of_code (body ls))) (sym f) ∙ same-ops bs line text small ok p same made in
    ap₂ (λ i is. record { first = i; instructions = is }) f (by-ops ks es pl said e ∙ said-meant ks es pl xs xs)
