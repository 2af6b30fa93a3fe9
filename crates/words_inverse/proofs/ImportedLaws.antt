-- Laws of an import of exported words: the instructions of lines that say what is exported are put together without a fault, and an
-- import writes these lines. Assumes nothing.
use Rattle.std.specs.Prelude.{None}
use mathlib.Core.Path.{◌≡◌, refl, sym, ap, ap₂, ◌∙◌}
use mathlib.Core.Bool.{Bool, true, false, cond}
use mathlib.Core.List.{List, [], ◌∷◌, ◌++◌, map}
use Prim.Native.Nat.{ℕ, zero, suc, ◌+◌, ◌-◌, ◌*◌, ◌<◌, ◌≤◌}
use native.Mathlib.Omega.{arith}
use lib.Dec.{ltb}
use lib.IntN.{ℤ, pos, negsuc, ◌-ℤ◌}
use lib.ListN.{length, get_or}
use mir.Syntax.{w32}
use mir.Val.{SFits}
use borrow.Author.Tests.{lt-ltb}
use Rattle.text.specs.Text.{bytes, Line, index_of, lines_text}
use Rattle.text_decimals.specs.Decimal.{decimal}
use Rattle.text.proofs.TextLaws.{Every, none, more}
use Rattle.numbers.specs.Numbers.{IsNumber}
use Rattle.numbers.proofs.SignedLaws.{number_fits}
use Rattle.instructions.specs.Kinds.{kind_at}
use Rattle.instructions.specs.declared.Argument.{Argument}
use Rattle.instructions.specs.declared.Argument.TheVariants.{Absent, Target, Primitive, Within}
use Rattle.words.specs.Decoding.{Item, item_of, has_argument, item, is_place, call_listed, fault_from, is_found, lands, offset_fault, size_of}
use Rattle.words.specs.Lines.{argument_text, line_text, lines_from}
use Rattle.words.specs.Export.{Op, positions, argument_word, items_from}
use Rattle.words.proofs.HeadLaws.{size_small}
use Rattle.words.proofs.ExportLaws.{Placed, with-word, plain, target-back}
use Rattle.words.proofs.ExportLaws as placed
use Rattle.words_inverse.proofs.LineLaws.{Argued, absent, target, primitive, within-range, Says}

-- the lines from number k on say the given
pub data Said (ps : List (List ℕ)) (n : ℕ) : ℕ → List Line → List Op → Type 0 where
  end : {k : ℕ} → Said ps n k [] []
  next : {k : ℕ} {l : Line} {o : Op} {ls : List Line} {os : List Op} → Says ps n k l.text o → Said ps n (suc k) ls os → Said ps n k (l ∷ ls) (o ∷ os)

-- an opcode stands no farther than two words for each line
position-small : (i n : ℕ) (xs : List Op) → get_or (positions i xs) n 0 ≤ i + 2 * length xs
unfolding positions
position-small i n [] = omega arith
position-small i zero (x ∷ xs) = omega arith
position-small i (suc n) (x ∷ xs) = let h = position-small (i + size_of x.kind) n xs in let s = size_small x.kind in omega arith

-- so that an offset fits a word
offset-fits : (p i : ℕ) → p ≤ 2048 → i ≤ 2048 → SFits w32 (pos p -ℤ pos (suc i))
offset-fits p i h k = go (ltb p (suc i)) refl
  where
    go : (b : Bool) → ltb p (suc i) ≡ b → SFits w32 (cond b (negsuc (suc i - suc p)) (pos (p - suc i)))
    go true e = record { sfits = omega arith }
    go false e = record { sfits = omega arith }

module _ (ps : List (List ℕ)) (os : List Op) (few : length os ≤ 1024) where
  abbrev pub indices : List ℕ
  indices = positions 0 os

  -- the instructions that are exported
  abbrev pub exported : List Item
  exported = items_from indices 0 os

  -- ---- one instruction, of kind j, with its opcode at i, whose line says z

  module _ (i j : ℕ) (near : i ≤ 2048) where
    place-one : (a : Argument) {w : List ℕ} {z : ℤ} {xs : List Item} → (kind_at j).argument ≡ a → Argued ps (length os) a w z → IsNumber z → j < 61
        → Placed (i + size_of j) xs → Placed i (item_of i j (argument_word indices i z a) ∷ xs)
    unfolding argument_word
    place-one Absent q absent m h p = plain h (ap has_argument q) p
    place-one Target q (target {t} k) m h p =
        let s = position-small 0 t os in
        with-word h (ap has_argument q) (offset-fits (get_or indices t 0) i (omega arith) near) p
    place-one Primitive q (primitive k) m h p = with-word h (ap has_argument q) (number_fits _ m) p
    place-one (Within r) q within-range m h p = with-word h (ap has_argument q) (number_fits _ m) p

    argument-made : (a : Argument) {w : List ℕ} {z : ℤ} → Argued ps (length os) a w z → argument_text ps exported (item_of i j (argument_word indices i z a)) a ≡ w
    unfolding argument_word argument_text
    argument-made Absent absent = refl
    argument-made Target (target {t} k) = ap (λ p. decimal (index_of p)) (target-back os i t k)
    argument-made Primitive (primitive k) = refl
    argument-made (Within r) within-range = refl

    call-made : (a : Argument) {w : List ℕ} {z : ℤ} → Argued ps (length os) a w z → call_listed (length ps) (argument_word indices i z a) a ≡ true
    unfolding argument_word call_listed is_place
    call-made Absent absent = refl
    call-made Target (target k) = refl
    call-made Primitive (primitive {i = m} k) = lt-ltb m (length ps) k
    call-made (Within r) within-range = refl

    lands-made : (a : Argument) {w : List ℕ} {z : ℤ} → Argued ps (length os) a w z → lands exported (item_of i j (argument_word indices i z a)) a ≡ true
    unfolding argument_word lands
    lands-made Absent absent = refl
    lands-made Target (target {t} k) = ap is_found (target-back os i t k)
    lands-made Primitive (primitive k) = refl
    lands-made (Within r) within-range = refl

  -- ---- all of them

  pub all_placed : {k : ℕ} {ls : List Line} {xs : List Op} (i : ℕ) → Said ps (length os) k ls xs → i ≤ 2 * k → k + length xs ≤ 1024 → Every (λ o. IsNumber o.value) xs → Placed i (items_from indices i xs)
  unfolding items_from
  all_placed i end h m none = placed.none
  all_placed i (next {o} {os = xs} s ss) h m (more n ns) =
      let z = size_small o.kind in
      let near : i ≤ 2048 = omega arith in
      place-one i o.kind near (kind_at o.kind).argument refl s.argued n s.known (all_placed (i + size_of o.kind) ss (omega arith) (omega arith) ns)

  pub lines-made : {k : ℕ} {ls : List Line} {xs : List Op} (i : ℕ) → Said ps (length os) k ls xs → i ≤ 2 * k → k + length xs ≤ 1024 → lines_from ps exported k (items_from indices i xs) ≡ lines_text ls
  unfolding items_from lines_from line_text lines_text
  lines-made i end h m = refl
  lines-made {k} i (next {l} {o} {ls} {os = xs} s ss) h m =
      let z = size_small o.kind in
      let near : i ≤ 2048 = omega arith in
      let x = item_of i o.kind (argument_word indices i o.value (kind_at o.kind).argument) in
      let rest = lines_from ps exported (suc k) (items_from indices (i + size_of o.kind) xs) in
      ap (λ w. decimal k ++ bytes " " ++ (kind_at o.kind).name ++ bytes " " ++ w ++ bytes "\n" ++ rest) (argument-made i o.kind near (kind_at o.kind).argument s.argued)
      ∙ ap₂ (λ t u. t ++ bytes "\n" ++ u) (sym s.line) (lines-made (i + size_of o.kind) ss (omega arith) (omega arith))

  pub no-fault : {k : ℕ} {ls : List Line} {xs : List Op} (i : ℕ) → Said ps (length os) k ls xs → i ≤ 2 * k → k + length xs ≤ 1024 → fault_from (length ps) k (map item (items_from indices i xs)) ≡ None
  unfolding items_from fault_from
  no-fault i end h m = refl
  no-fault {k} i (next {o} {os = xs} s ss) h m =
      let z = size_small o.kind in
      let near : i ≤ 2048 = omega arith in
      let c = call-made i o.kind near (kind_at o.kind).argument s.argued in
      rw (lt-ltb k 1024 (omega arith), c) (no-fault (i + size_of o.kind) ss (omega arith) (omega arith))

  pub no-offset-fault : {k : ℕ} {ls : List Line} {xs : List Op} (i : ℕ) → Said ps (length os) k ls xs → i ≤ 2 * k → k + length xs ≤ 1024 → offset_fault exported (items_from indices i xs) ≡ None
  unfolding items_from offset_fault
  no-offset-fault i end h m = refl
  no-offset-fault {k} i (next {o} {os = xs} s ss) h m =
      let z = size_small o.kind in
      let near : i ≤ 2048 = omega arith in
      let c = lands-made i o.kind near (kind_at o.kind).argument s.argued in
      rw c (no-offset-fault (i + size_of o.kind) ss (omega arith) (omega arith))
