-- Laws of an import's lines: each says its instruction, and what is exported of them are the instructions again. Assumes nothing.
use Rattle.std.specs.Prelude.{None, Option, Some}
use mathlib.Core.Path.{◌≡◌, refl, sym, ap, ap₂, subst, ◌∙◌}
use mathlib.Core.Bool.{true, false, false≢true}
use mathlib.Core.List.{List, [], ◌∷◌, ◌++◌, map}
use Prim.Native.Nat.{ℕ, suc, ◌+◌, ◌<◌}
use native.Mathlib.Omega.{arith}
use lib.IntN.{ℤ, pos, negsuc, nat_abs, ◌+ℤ◌, ◌-ℤ◌, +ℤ_comm, +ℤ-neg_ℤ_cancel}
use lib.ListN.{length, get_or, length-map}
use borrow.Author.Tests.{ltb-true}
use Rattle.text.specs.Text.{bytes, Line, index_of, all, lines_text}
use Rattle.text_decimals.specs.Decimal.{decimal}
use Rattle.text.proofs.TextLaws.{Every, none, more, every_append}
use Rattle.text.proofs.LineLaws.{ended_line}
use Rattle.instructions.specs.Kinds.{kind_at}
use Rattle.instructions.specs.declared.Argument.{Argument}
use Rattle.instructions.specs.declared.Argument.TheVariants.{Absent, Target, Primitive, Within}
use Rattle.instructions.proofs.OpcodeLaws.{place_found}
use Rattle.words.specs.Decoding.{Item, item_of, has_argument, is_place, call_listed, landing, number_at, is_found, lands}
use Rattle.words.specs.Lines.{argument_text, line_text, lines_from, code_text}
use Rattle.words.specs.Export.{Op, positions, argument_word, items_from}
use Rattle.words.proofs.ExportLaws.{Placed, with-word, plain}
use Rattle.words.proofs.ExportLaws as placed
use Rattle.text.proofs.JoinLaws.{Free, text-free}
use Rattle.instructions.proofs.KindNameLaws.{name_free}
use Rattle.words_inverse.proofs.LineLaws.{Argued, absent, target, primitive, within-range, Says, argued-free}
use Rattle.text_decimals.proofs.SpellingLaws.{decimal-free}
use Rattle.words_inverse.proofs.ImportedLaws.{Said, end, next}

module _ (xs : List Item) where
  -- what the line of an instruction says
  abbrev pub value_said : Item → Argument → ℤ
  value_said x Absent = pos 0
  value_said x Target = pos (index_of (number_at xs (landing x)))
  value_said x Primitive = x.argument
  value_said x (Within r) = x.argument

  abbrev pub op_said : Item → Op
  op_said x = record { kind = x.kind; value = value_said x (kind_at x.kind).argument }

  -- the index that an offset leads to is that of an instruction
  abbrev indices : List ℕ
  indices = map (λ x. x.index) xs

  number-found : (z : ℤ) (t : ℕ) → number_at xs z ≡ Some t → (t < length xs) × (pos (get_or indices t 0) ≡ z)
  unfolding number_at
  number-found (pos m) t e =
      let f = place_found 0 m t indices e in
      let h : length indices ≡ length xs = length-map xs (λ x. x.index) in
      let k = f.1 in
      (omega arith, ap pos (f.2 t (omega arith)))
  number-found (negsuc m) t e = let z : ◌≡◌ {A = ℕ} 0 1 = cc in absurd (omega arith)

  -- ---- each line says its instruction

  module _ (ps : List (List ℕ)) where
    argument-written : (x : Item) (a : Argument) → call_listed (length ps) x.argument a ≡ true → lands xs x a ≡ true → Argued ps (length xs) a (argument_text ps xs x a) (value_said x a)
    unfolding call_listed is_place lands argument_text
    argument-written x Absent c l = absent
    argument-written x Target c l = go (number_at xs (landing x)) refl l
      where
        go : (p : Option ℕ) → number_at xs (landing x) ≡ p → is_found p ≡ true → Argued ps (length xs) Target (decimal (index_of p)) (pos (index_of p))
        go (Some t) e f = target (number-found (landing x) t e).0
        go None e f = absurd (false≢true f)
    argument-written x Primitive c l = go x.argument c
      where
        go : (z : ℤ) → is_place (length ps) z ≡ true → Argued ps (length xs) Primitive (get_or ps (nat_abs z) []) z
        go (pos i) e = primitive (ltb-true i (length ps) e)
        go (negsuc i) e = absurd (false≢true e)
    argument-written x (Within r) c l = within-range

    abbrev row_text : ℕ → Item → List ℕ
    row_text k x = decimal k ++ bytes " " ++ (kind_at x.kind).name ++ bytes " " ++ argument_text ps xs x (kind_at x.kind).argument

    -- an instruction without a fault
    pub record Sound (x : Item) : Type 0 where
      pub known : x.kind < 61
      pub listed : call_listed (length ps) x.argument (kind_at x.kind).argument ≡ true
      pub lands : lands xs x (kind_at x.kind).argument ≡ true

    row-says : (k : ℕ) (x : Item) → Sound x → Says ps (length xs) k (row_text k x) (op_said x)
    row-says k x s = record {
      known = s.known;
      word = argument_text ps xs x (kind_at x.kind).argument;
      line = refl;
      argued = argument-written x (kind_at x.kind).argument s.listed s.lands;
    }

    -- the lines as they are written
    pub rows : ℕ → List Item → List Line
    rows k [] = []
    rows k (y ∷ ys) = ended_line (row_text k y) ∷ rows (suc k) ys

    rows-text : (k : ℕ) (ys : List Item) → lines_from ps xs k ys ≡ lines_text (rows k ys)
    unfolding rows lines_from line_text lines_text
    rows-text k [] = refl
    rows-text k (y ∷ ys) = ap (λ t. row_text k y ++ bytes "\n" ++ t) (rows-text (suc k) ys)

    pub written-text : code_text ps xs ≡ lines_text (ended_line (bytes "AT OP ARG") ∷ rows 0 xs)
    unfolding code_text lines_text
    written-text = ap (λ t. bytes "AT OP ARG\n" ++ t) (rows-text 0 xs)

    -- lines with these texts say the instructions
    pub rows-said : {k : ℕ} (ls : List Line) (ys : List Item) → Every Sound ys → map (λ l. ended_line l.text) ls ≡ map (λ l. ended_line l.text) (rows k ys) → Said ps (length xs) k ls (map op_said ys)
    unfolding rows
    rows-said [] [] none e = end
    rows-said [] (y ∷ ys) h e = let z : ◌≡◌ {A = ℕ} 0 1 = cc in absurd (omega arith)
    rows-said (l ∷ ls) [] h e = let z : ◌≡◌ {A = ℕ} 0 1 = cc in absurd (omega arith)
    rows-said {k} (l ∷ ls) (y ∷ ys) (more s ss) e =
        let f : ended_line l.text ≡ ended_line (row_text k y) = cc in
        let g : map (λ m. ended_line m.text) ls ≡ map (λ m. ended_line m.text) (rows (suc k) ys) = cc in
        next (subst (λ t. Says ps (length xs) k t (op_said y)) (sym (ap (λ m. m.text) f)) (row-says k y s)) (rows-said ls ys ss g)

    -- no row holds a line feed
    module _ (free : Every (Free 10) ps) where
      pub rows-free : (k : ℕ) {ys : List Item} → Every Sound ys → Every (λ l. Free 10 l.text) (rows k ys)
      unfolding rows all
      rows-free k none = none
      rows-free k (more {x = y} s ss) =
          more
          (every_append (every_append (every_append (every_append (decimal-free 10 (omega arith) k) (text-free 10 (bytes " ") refl)) (name_free 10 (omega arith) y.kind)) (text-free 10 (bytes " ") refl))
          (argued-free 10 (λ e. omega arith) (omega arith) free (argument-written y (kind_at y.kind).argument s.listed s.lands)))
          (rows-free (suc k) ss)

  -- ---- the instructions again

  positions-are : {i : ℕ} {ys : List Item} → Placed i ys → positions i (map op_said ys) ≡ map (λ x. x.index) ys
  unfolding positions
  positions-are placed.none = refl
  positions-are (with-word {i} h t n p) = ap (λ js. i ∷ js) (positions-are p)
  positions-are (plain {i} h t p) = ap (λ js. i ∷ js) (positions-are p)

  offset-again : (i : ℕ) (z : ℤ) (t : ℕ) → number_at xs (pos (suc i) +ℤ z) ≡ Some t → pos (get_or indices t 0) -ℤ pos (suc i) ≡ z
  offset-again i z t e =
      ap (λ y. y -ℤ pos (suc i)) ((number-found (pos (suc i) +ℤ z) t e).1 ∙ +ℤ_comm (pos (suc i)) z) ∙ +ℤ-neg_ℤ_cancel z (pos (suc i))

  word-again : (i k : ℕ) (z : ℤ) (a : Argument) → has_argument a ≡ true → lands xs (item_of i k z) a ≡ true → argument_word indices i (value_said (item_of i k z) a) a ≡ z
  unfolding argument_word lands
  word-again i k z Absent h l = absurd (false≢true h)
  word-again i k z Target h l = go (number_at xs (pos (suc i) +ℤ z)) refl l
    where
      go : (p : Option ℕ) → number_at xs (pos (suc i) +ℤ z) ≡ p → is_found p ≡ true → pos (get_or indices (index_of p) 0) -ℤ pos (suc i) ≡ z
      go (Some t) e f = offset-again i z t e
      go None e f = absurd (false≢true f)
  word-again i k z Primitive h l = refl
  word-again i k z (Within r) h l = refl

  none-again : (i : ℕ) (x : Item) (a : Argument) → has_argument a ≡ false → argument_word indices i (value_said x a) a ≡ pos 0
  unfolding argument_word
  none-again i x Absent h = refl
  none-again i x Target h = absurd (false≢true (sym h))
  none-again i x Primitive h = absurd (false≢true (sym h))
  none-again i x (Within r) h = absurd (false≢true (sym h))

  items-again : {i : ℕ} {ys : List Item} → Placed i ys → Every (λ y. lands xs y (kind_at y.kind).argument ≡ true) ys → items_from indices i (map op_said ys) ≡ ys
  unfolding items_from
  items-again placed.none none = refl
  items-again (with-word {i} {k} {z} h t n p) (more l ls) = ap₂ (λ y ys. item_of i k y ∷ ys) (word-again i k z (kind_at k).argument t l) (items-again p ls)
  items-again (plain {i} {k} h t p) (more l ls) = ap₂ (λ y ys. item_of i k y ∷ ys) (none-again i (item_of i k (pos 0)) (kind_at k).argument t) (items-again p ls)

  pub all-again : Placed 0 xs → Every (λ y. lands xs y (kind_at y.kind).argument ≡ true) xs → items_from (positions 0 (map op_said xs)) 0 (map op_said xs) ≡ xs
  all-again p l = ap (λ is. items_from is 0 (map op_said xs)) (positions-are p) ∙ items-again p l
