-- Laws of the pass that writes the lines: the line that is written is the definition's, no line has more than 30 bytes, and one turn.
-- Assumes nothing.
use Rattle.std.specs.Prelude.{None, Some}
use mathlib.Core.Path.{◌≡◌, refl, sym, ap, ◌∙◌}
use mathlib.Core.Bool.{Bool, true, false, cond}
use mathlib.Core.List.{List, [], ◌++◌, append_assoc, append-nil}
use Prim.Native.Nat.{ℕ, suc, ◌+◌, ◌*◌, ◌<◌, ◌≤◌}
use native.Mathlib.Omega.{arith}
use native.Mathlib.Numerals.{add-one}
use lib.Dec.{ltb}
use lib.IntN.{ℤ, pos, negsuc, ◌+ℤ◌}
use lib.ListN.{length, get_or, drop}
use mir.Syntax.{w32}
use mir.Val.{SFits}
use borrow.Author.Tests.{ltb-true}
use Rattle.text.specs.Text.{bytes, index_of}
use Rattle.text_decimals.specs.Decimal.{decimal}
use Rattle.text_decimals.specs.Memory.{over}
use Rattle.text_decimals.proofs.MemoryLaws.{Wrote, wrote_none, wrote-more}
use Rattle.instructions.specs.declared.Argument.{Argument}
use Rattle.instructions.specs.declared.Argument.TheVariants.{Absent, Target, Primitive, Within}
use Rattle.instructions.specs.Kinds.{kind_at}
use Rattle.words.specs.Words.{Word}
use Rattle.words.specs.Decoding.{Item, item_of, opcode, decoded_words, decoded, items, fault_from, size_of}
use Rattle.words.specs.Lines.{argument_text, line_text, lines_from}
use Rattle.words.specs.Held.{head_of, Readable, number_in, number_held, Numbered}
use Rattle.words.proofs.HeadLaws.{Read, size_small}
use Rattle.words.proofs.FaultLaws.{fault-unread}
use Rattle.words.proofs.NumberingLaws.{sound-read}
use Rattle.words.proofs.OffsetLaws.{number-in}
use Rattle.words_import.specs.HeldLines.{op_in, argument_in, line_in, ShortNames}
use Rattle.words_import.proofs.LengthLaws.{Addresses, line-short}

-- ---- the line is the definition's

argument-same : (ps : List (List ℕ)) {xs : List Item} {t : List ℕ} → Numbered xs t → (i k : ℕ) (z : ℤ) (a : Argument) → argument_in ps t i z a ≡ argument_text ps xs (item_of i k z) a
unfolding argument_in argument_text
argument-same ps d i k z Absent = refl
argument-same ps d i k z Target = ap (λ p. decimal (index_of p)) (number-in d (pos (suc i) +ℤ z))
argument-same ps d i k z Primitive = refl
argument-same ps d i k z (Within r) = refl

line_same : (ps : List (List ℕ)) {xs : List Item} {t : List ℕ} → Numbered xs t → (n i k : ℕ) (z : ℤ) → line_in ps t n i k z ≡ line_text ps xs n (item_of i k z)
unfolding op_in line_in line_text
line_same ps d n i k z =
    ap (λ a. decimal n ++ bytes " " ++ (kind_at k).name ++ bytes " " ++ a ++ bytes "\n") (argument-same ps d i k z (kind_at k).argument)

-- ---- so that it has 30 bytes at most

-- an address is below 1,024
held_small : (v : ℕ) → index_of (number_held v) < 1024
held_small v = go (ltb v 1024) refl
  where
    go : (b : Bool) → ltb v 1024 ≡ b → index_of (cond b (Some v) None) < 1024
    go true e = ltb-true v 1024 e
    go false e = omega arith

number_small : (t : List ℕ) (z : ℤ) → index_of (number_in t z) < 1024
unfolding number_in
number_small t (pos n) = held_small (get_or t n 1024)
number_small t (negsuc n) = omega arith

pub written-short : (ps : List (List ℕ)) → ShortNames ps → {xs : List Item} {t : List ℕ} → Numbered xs t → (n i k : ℕ) (z : ℤ) → SFits w32 z → n < 1024 → k < 61 → length (line_in ps t n i k z) ≤ 30
written-short ps s {xs} {t} d n i k z h g l =
    let m : Addresses xs = λ z. rw (← number-in d z) (number_small t z) in
    rw (line_same ps d n i k z) (line-short ps s xs m n (item_of i k z) h g l)

-- ---- the pass

-- out holds the lines of the instructions before index i, c of them, over `former` from `start` on, up to e; those of the words ws are left
pub record Writing (ps : List (List ℕ)) (former : List ℕ) (start : ℕ) (all : List Word) (out : List ℕ) (e i c : ℕ) (ws : List Word) : Type 0 where
  pub listed : ℕ
  pub sound : fault_from listed c (decoded_words opcode i ws) ≡ None
  pub near : i ≤ 2 * c
  pub few : c ≤ 1024
  pub made : List ℕ
  pub wrote : Wrote former start made e out
  pub short : e ≤ start + 30 * c
  pub long : length out ≡ length former
  pub whole : made ++ lines_from ps (items (decoded all)) c (items (decoded_words opcode i ws)) ≡ lines_from ps (items (decoded all)) 0 (items (decoded all))

pub writing-starts : (ps : List (List ℕ)) (former : List ℕ) (start : ℕ) (ws : List Word) → Readable ws → start ≤ length former → Writing ps former start ws former start 0 0 ws
unfolding decoded
writing-starts ps former start ws r h = record {
  listed = r.listed;
  sound = r.sound;
  near = omega arith;
  few = omega arith;
  made = [];
  wrote = wrote_none former start h;
  short = omega arith;
  long = refl;
  whole = refl;
}

module _ {ps : List (List ℕ)} {former : List ℕ} {start : ℕ} {all : List Word} {out : List ℕ} {e i c : ℕ} {ws : List Word} (w : Writing ps former start all out e i c ws) where
  -- what is no instruction is not there
  pub writing-reads : {X : Type 0} → 0 < length ws → head_of ws ≡ None → X
  writing-reads l h =
      let p = sym w.sound ∙ fault-unread w.listed c i ws l h in
      let x : ◌≡◌ {A = ℕ} 0 1 = cc in
      absurd (omega arith)

  -- at the end
  pub writing-ends : decoded_words opcode i ws ≡ [] → (e ≡ start + length (lines_from ps (items (decoded all)) 0 (items (decoded all)))) × (out ≡ over former start (lines_from ps (items (decoded all)) 0 (items (decoded all))))
  unfolding items lines_from
  writing-ends q =
      let m : w.made ≡ lines_from ps (items (decoded all)) 0 (items (decoded all)) = sym (append-nil w.made) ∙ sym (ap (λ es. w.made ++ lines_from ps (items (decoded all)) c (items es)) q) ∙ w.whole in
      (w.wrote.ends ∙ ap (λ t. start + length t) m, w.wrote.holds ∙ ap (over former start) m)

  module _ {k : ℕ} {z : ℤ} (r : Read i k z ws) where
    pub writing-room : (c < 1024) × (i < 2048)
    writing-room =
        let q = (sound-read w.listed c i k z ws r w.sound).0 in
        let m = w.near in
        (q, omega arith)

    -- one line more, by the table t, where `size` is its size and the words vs follow
    pub writing-next : (t : List ℕ) → Numbered (items (decoded all)) t → ShortNames ps → SFits w32 z → {e' : ℕ} {out' : List ℕ}
        → (e' ≡ e + length (line_in ps t c i k z)) × (out' ≡ over out e (line_in ps t c i k z)) → length out' ≡ length out
        → {size : ℕ} → size ≡ size_of k → {vs : List Word} → vs ≡ drop (size_of k) ws → Writing ps former start all out' e' (i + size) (c + 1) vs
    unfolding items lines_from
    writing-next t d s f {e'} {out'} p l {size} g {vs} h =
        let o = sound-read w.listed c i k z ws r w.sound in
        let m = w.near in
        let b = size_small k in
        let y = written-short ps s d c i k z f o.0 r.known in
        let v = w.short in
        let later = lines_from ps (items (decoded all)) (suc c) (items (decoded_words opcode (i + size_of k) (drop (size_of k) ws))) in
        rw (g, h, add-one c)
        (record {
          listed = w.listed;
          sound = o.1;
          near = omega arith;
          few = let u = o.0 in omega arith;
          made = w.made ++ line_in ps t c i k z;
          wrote = wrote-more w.wrote (line_in ps t c i k z) p;
          short = omega (arith, p.0);
          long = l ∙ w.long;
          whole = append_assoc w.made (line_in ps t c i k z) later
              ∙ ap (λ a. w.made ++ (a ++ later)) (line_same ps d c i k z)
              ∙ ap (λ es. w.made ++ lines_from ps (items (decoded all)) c (items es)) (sym r.first)
              ∙ w.whole;
        })
