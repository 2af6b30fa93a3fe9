-- Laws of how long the lines of an import are: no line has more than 30 bytes, and all of them with their names line have 32,768 at most.
-- Assumes nothing.
use Rattle.std.specs.Prelude.{None, Option, Some}
use mathlib.Core.Path.{◌≡◌, refl, sym, ◌∙◌}
use mathlib.Core.Bool.{true}
use mathlib.Core.List.{List, [], ◌∷◌, map}
use Prim.Native.Nat.{ℕ, suc, ◌*◌, ◌<◌, ◌≤◌}
use native.Mathlib.Omega.{arith}
use lib.Dec.{leb}
use lib.IntN.{ℤ, pos, negsuc, nat_abs}
use lib.ListN.{length, length-append, length-map}
use mir.Syntax.{w32}
use mir.Val.{SFits}
use borrow.Author.Tests.{leb-true}
use Rattle.text.specs.Text.{index_of}
use Rattle.text_decimals.specs.Decimal.{decimal}
use Rattle.text_decimals.proofs.DecimalLaws.{decimal-length}
use Rattle.instructions.specs.declared.Argument.{Argument}
use Rattle.instructions.specs.declared.Argument.TheVariants.{Absent, Target, Primitive, Within}
use Rattle.instructions.specs.Kinds.{kinds, kind_at}
use Rattle.instructions.specs.Opcodes.{place_from}
use Rattle.instructions.proofs.ColumnLaws.{column-at}
use Rattle.instructions.proofs.OpcodeLaws.{place_found}
use Rattle.words.specs.Words.{Word}
use Rattle.words.specs.Decoding.{Item, Decoded, item, unreadable, decoded, items, fault_from, landing, number_at}
use Rattle.words.specs.Lines.{argument_text, line_text, lines_from, code_text}
use Rattle.words.specs.Held.{Readable}
use Rattle.words.proofs.FaultLaws.{sound-item}
use Rattle.words.proofs.IndexLaws.{Spaced, none, unread, next, decoded-spaced, items-few}
use Rattle.words_import.specs.HeldLines.{ShortNames}
use Rattle.text_decimals.proofs.IntegerLaws.{integer-length}
use Rattle.words_import.proofs.LineLaws.{parts-length}

-- ---- `1023 PUSHCONSTINT -2147483648` and a line feed are 30 bytes

-- no name of a kind has more than 12 characters: computed for the whole table
name-short : (k : ℕ) → k < 61 → length (kind_at k).name ≤ 12
unfolding kinds
name-short k h = leb-true _ _ (sym (column-at (λ r. r.name) (λ w. leb (length w) 12) (λ r. leb (length r.name) 12) [] refl k h) ∙ column-at (λ r. r.name) (λ w. leb (length w) 12) (λ r. true) [] refl k h)

-- every address of the instructions xs is below 1,024
abbrev pub Addresses : List Item → Type 0
Addresses xs = (z : ℤ) → index_of (number_at xs z) < 1024

module _ (ps : List (List ℕ)) (s : ShortNames ps) (xs : List Item) (m : Addresses xs) where
  argument-short : (x : Item) → SFits w32 x.argument → (a : Argument) → length (argument_text ps xs x a) ≤ 11
  unfolding argument_text
  argument-short x h Absent = omega arith
  argument-short x h Target =
      let q = m (landing x) in
      let l = decimal-length 4 (index_of (number_at xs (landing x))) (omega arith) (omega arith) in
      omega arith
  argument-short x h Primitive = let l = s.short (nat_abs x.argument) in omega arith
  argument-short x h (Within r) = integer-length x.argument h

  pub line-short : (n : ℕ) (x : Item) → SFits w32 x.argument → n < 1024 → x.kind < 61 → length (line_text ps xs n x) ≤ 30
  unfolding line_text
  line-short n x h g l =
      let a = argument-short x h (kind_at x.kind).argument in
      let b = name-short x.kind l in
      let d = decimal-length 4 n (omega arith) (omega arith) in
      omega (arith, parts-length (decimal n) (kind_at x.kind).name (argument_text ps xs x (kind_at x.kind).argument))

  -- those of instructions with no fault but in offsets, before which c stand
  lines-short : (n c : ℕ) (es : List Decoded) → Spaced c es → fault_from n c es ≡ None → length (lines_from ps xs c (items es)) ≤ 30 * length (items es)
  unfolding items lines_from fault_from
  lines-short n c [] none e = omega arith
  lines-short n c (unreadable i ∷ es) (unread l) e = let z : ◌≡◌ {A = ℕ} 0 1 = cc in absurd (omega arith)
  lines-short n c (item x ∷ es) (next l k f r) e =
      let o = sound-item n c x es e in
      let y = line-short c x f o.0 k in
      omega (arith, length-append (line_text ps xs c x) (lines_from ps xs (suc c) (items es)), lines-short n (suc c) es r o.1)

-- ---- all lines

-- 1,024 instructions have addresses below 1,024
few-addresses : (xs : List Item) → length xs ≤ 1024 → Addresses xs
unfolding number_at
few-addresses xs h (pos n) = go (place_from 0 n (map (λ x. x.index) xs)) refl
  where
    go : (p : Option ℕ) → place_from 0 n (map (λ x. x.index) xs) ≡ p → index_of p < 1024
    go None e = omega arith
    go (Some k) e = let q = (place_found 0 n k (map (λ x. x.index) xs) e).1 in omega (arith, simp length-map at q)
few-addresses xs h (negsuc n) = omega arith

pub code_fits : (ps : List (List ℕ)) → ShortNames ps → (ws : List Word) → Readable ws → length (code_text ps (items (decoded ws))) ≤ 32768
unfolding code_text
code_fits ps s ws r =
    let xs = items (decoded ws) in
    let f = items-few r.listed 0 (decoded ws) r.sound (omega arith) in
    let l = lines-short ps s xs (few-addresses xs (omega arith)) r.listed 0 (decoded ws) (decoded-spaced ws) r.sound in
    omega arith
