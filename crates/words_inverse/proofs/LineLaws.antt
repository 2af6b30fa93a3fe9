-- Laws of a code line: of a passing file that begins at address 0 it is its number, its kind's name and its argument as an import
-- writes them, and it is known by them what it says. Assumes nothing.
use Rattle.std.specs.Prelude.{None, Option, Some}
use mathlib.Core.Path.{◌≡◌, refl, sym, ap, ap₂, subst, ◌∙◌}
use mathlib.Core.Bool.{Bool, true, false, cond, ◌&&◌, false≢true}
use mathlib.Core.List.{List, [], ◌∷◌, ◌++◌, append_assoc}
use Prim.Native.Nat.{ℕ, zero, suc, ◌+◌, ◌-◌, ◌<◌, ◌≤◌}
use native.Mathlib.Omega.{arith}
use lib.Dec.{leb, ltb}
use lib.IntN.{ℤ, pos, negsuc, ◌+ℤ◌, ◌-ℤ◌}
use lib.Signed.{le_z, lt_z}
use lib.ListN.{length, get_or, length-append}
use borrow.Author.Tests.{eqb-true, leb-true, ltb-true}
use Rattle.text.specs.Text.{bytes, Line, place_among, index_of, find, among, distinct}
use Rattle.text_decimals.specs.Decimal.{numeral, decimal, integer}
use Rattle.text.proofs.TextLaws.{Every, none, more, every-get_d, and_left, and_right, equals-path}
use Rattle.text_decimals.proofs.DecimalLaws.{decimal-read}
use Rattle.numbers.specs.declared.Range.{Range}
use Rattle.numbers.specs.Numbers.{within, numbers, same}
use Rattle.instructions.specs.Kinds.{addresses, kind_names, kind_at}
use Rattle.instructions.specs.declared.Argument.{Argument}
use Rattle.instructions.specs.declared.Argument.TheVariants.{Absent, Target, Primitive, Within}
use Rattle.file_format.specs.declared.Section.TheVariants.{Primitives as primitives}
use Rattle.file_format.specs.declared.Role.TheVariants.{Names as names, Code as code}
use Rattle.file_format.specs.declared.Row.TheVariants.{Layout as Layout-row, Range as range-row, Name as name-row, Target as target_row}
use Rattle.file_format.specs.Layout.{body, lines_of_code, listed}
use Rattle.file_format.specs.Rows.{is_numeral, value_of, value, at, op, arg, is_target, on_argument, argument_laid_out, argument_in_range, argument_named, argument_reaches, at_range, code_in_range, in_range, code_named, named, first_at, on_code, reaches, test}
use Rattle.file_format.specs.Routine.{inside, argument_value, first_address}
use Rattle.file_format.proofs.RowLaws.{laid_out}
use Rattle.file_format.proofs.CodeLaws.{code-laid-out, code-named, kind-there, on-kind}
use Rattle.file_format.proofs.RangeLaws.{within_low, inside_is, bounded, kind-bounded, number-within, argument-number}
use Rattle.words.specs.Export.{Op, relative, op_of}
use Rattle.text_decimals.proofs.SpellingLaws.{spelt_back, integer-read, lower-short, decimal-free, integer-free}
use Rattle.text.proofs.JoinLaws.{Free, words-three, cut-same}
use Rattle.instructions.proofs.KindNameLaws.{found-there, distinct-places, kind-name, name-known, name_free}

-- ---- what a line says

-- the word w is the argument z of a kind that takes a, where ps are the primitives and the code has n lines
pub data Argued (ps : List (List ℕ)) (n : ℕ) : Argument → List ℕ → ℤ → Type 0 where
  absent : Argued ps n Absent (bytes "-") (pos 0)
  target : {t : ℕ} → t < n → Argued ps n Target (decimal t) (pos t)
  primitive : {i : ℕ} → i < length ps → Argued ps n Primitive (get_or ps i []) (pos i)
  within-range : {r : Range} {z : ℤ} → Argued ps n (Within r) (integer z) z

-- line k says o
pub record Says (ps : List (List ℕ)) (n k : ℕ) (text : List ℕ) (o : Op) : Type 0 where
  pub known : o.kind < 61
  pub word : List ℕ
  pub line : text ≡ decimal k ++ bytes " " ++ (kind_at o.kind).name ++ bytes " " ++ word
  pub argued : Argued ps n (kind_at o.kind).argument word o.value

-- ---- numbers

spelt : (w : List ℕ) → is_numeral (numeral w) ≡ true → numeral w ≡ Some (value w)
unfolding is_numeral value value_of
spelt w e = go (numeral w) e
  where
    go : (x : Option ℤ) → is_numeral x ≡ true → x ≡ Some (value_of x)
    go None h = absurd (false≢true h)
    go (Some z) h = refl

same-path : (x y : ℤ) → same x y ≡ true → x ≡ y
same-path (pos m) (pos n) e = ap pos (eqb-true m n e)
same-path (pos m) (negsuc n) e = absurd (false≢true e)
same-path (negsuc m) (pos n) e = absurd (false≢true e)
same-path (negsuc m) (negsuc n) e = ap negsuc (eqb-true m n e)

-- ---- a line of a passing file

module _ (ps : List (List ℕ)) (n : ℕ) (w : List ℕ) where
  -- a target is a line of the code
  reached : (z : ℤ) → w ≡ integer z → within addresses z ≡ true → (le_z (pos 0) z && lt_z z (pos 0 +ℤ pos n)) ≡ true → Argued ps n Target w (z -ℤ pos 0)
  unfolding integer
  reached (pos t) e q h =
      let b = ltb-true t (0 + n) (and_right (leb 0 t) (ltb t (0 + n)) h) in
      let i : pos t -ℤ pos 0 ≡ pos t = ap pos (omega arith) in
      let j : t < n = omega arith in
      rw (e, i) (target j)
  reached (negsuc t) e q h = absurd (false≢true (within_low addresses (negsuc t) q))

  argument-said : (a : Argument) → bounded a ≡ true → argument_laid_out w a ≡ true → argument_in_range w a ≡ true → argument_named ps w a ≡ true → argument_reaches (pos 0) n w a ≡ true
      → Argued ps n a w (relative 0 (argument_value ps w a) a)
  unfolding argument_laid_out argument_in_range argument_named argument_reaches relative argument_value
  argument-said Absent b l r m t = rw (equals-path w (bytes "-") l) absent
  argument-said Target b l r m t =
      let e = spelt_back w (value w) (spelt w l) in
      rw (inside_is addresses (value w) r) (reached (value w) e r t)
  argument-said Primitive b l r m t = let f = found-there w ps m in subst (λ v. Argued ps n Primitive v (pos (find w ps))) f.1 (primitive f.0)
  argument-said (Within s) b l r m t =
      let e = spelt_back w (value w) (spelt w l) in
      rw (inside_is numbers (value w) (number-within (value w) (argument-number s (value w) b r))) (subst (λ v. Argued ps n (Within s) v (value w)) (sym e) within-range)

-- the place of a kind's name, as an index
kind-place : (w : List ℕ) → among w kind_names ≡ true → place_among w kind_names ≡ Some (find w kind_names)
unfolding find
kind-place w e = let (k, q) = kind-there w e in q ∙ ap (λ p. Some (index_of p)) (sym q)

module _ (ls : List Line) (begins : first_at (body ls) ≡ pos 0) (k : ℕ) (l : Line) where
  begins-at : first_address (body ls) ≡ 0
  unfolding inside
  begins-at = rw begins refl

  -- AT is the line's number
  at-said : is_numeral (numeral (at l.text)) ≡ true → same (value (at l.text)) (first_at (body ls) +ℤ pos k) ≡ true → at l.text ≡ decimal k
  unfolding integer
  at-said s e =
      let z = value (at l.text) in
      let v : z ≡ pos k = same-path z (first_at (body ls) +ℤ pos k) e ∙ ap (λ f. f +ℤ pos k) begins ∙ ap pos (omega arith) in
      spelt_back (at l.text) z (spelt (at l.text) s) ∙ ap integer v

  pub code-said : test Layout-row ls (code k) l ≡ true → test range-row ls (code k) l ≡ true → test name-row ls (code k) l ≡ true → test target_row ls (code k) l ≡ true
      → Says (listed (names primitives) ls) (length (lines_of_code (body ls))) k l.text (op_of (listed (names primitives) ls) (first_address (body ls)) l.text)
  unfolding test in_range code_in_range named code_named reaches on_code op_of
  code-said a b c d =
      let text = l.text in
      let ps = listed (names primitives) ls in
      let n = length (lines_of_code (body ls)) in
      let w = arg text in
      let i = find (op text) kind_names in
      let laid = code-laid-out ls k text (laid_out ls (code k) l a) in
      let called = code-named ls k text c in
      let e = kind-place (op text) called.kind in
      let there = kind-name (op text) called.kind in
      let follows = same (value (at text)) (first_at (body ls) +ℤ pos k) in
      let kind = among (op text) kind_names in
      let f : follows ≡ true = and_left follows kind (and_left (follows && kind) (on_argument (argument_named ps w) text) c) in
      let ranged : on_argument (argument_in_range w) text ≡ true = and_right (within (at_range k) (value (at text))) (on_argument (argument_in_range w) text) b in
      let aimed : on_argument (argument_reaches (pos 0) n w) text ≡ true = subst (λ z. on_argument (argument_reaches z n w) text ≡ true) begins d in
      record {
        known = there.0;
        word = w;
        line =
            words-three text laid.three
            ∙ ap (λ v. v ++ bytes " " ++ op text ++ bytes " " ++ w) (at-said laid.spelt f)
            ∙ ap (λ v. decimal k ++ bytes " " ++ v ++ bytes " " ++ w) (sym there.1);
        argued =
            subst (λ v. Argued ps n (kind_at i).argument w (relative v (argument_value ps w (kind_at i).argument) (kind_at i).argument)) (sym begins-at)
            (argument-said ps n w (kind_at i).argument (kind-bounded i)
            (on-kind (argument_laid_out w) text i e laid.argument)
            (on-kind (argument_in_range w) text i e ranged)
            (on-kind (argument_named ps w) text i e called.argument)
            (on-kind (argument_reaches (pos 0) n w) text i e aimed));
      }

-- ---- a line of a file that begins at another address

-- an address as the number of its line
difference : (u f : ℕ) → f ≤ u → pos u -ℤ pos f ≡ pos (u - f)
difference u zero h = ap pos (omega arith)
difference u (suc b) h = go (ltb u (suc b)) refl
  where
    go : (t : Bool) → ltb u (suc b) ≡ t → cond t (negsuc (suc b - suc u)) (pos (u - suc b)) ≡ pos (u - suc b)
    go true e = absurd (let l = ltb-true u (suc b) e in omega arith)
    go false e = refl

-- the argument w and the word that an import writes for it, where the file begins at `first`: only a target changes
pub data LowerWord (first : ℕ) : Argument → List ℕ → List ℕ → Type 0 where
  kept : {a : Argument} {w : List ℕ} → is_target a ≡ false → LowerWord first a w w
  moved : (u : ℕ) → LowerWord first Target (decimal (u + first)) (decimal u)

-- it is no longer
word-short : {first : ℕ} {a : Argument} {w v : List ℕ} → LowerWord first a w v → length v ≤ length w
word-short (kept e) = omega arith
word-short {first} (moved u) = lower-short u (u + first) (omega arith)

-- the argument w as an import writes it, and the target that it has there
record LowerArgument (ps : List (List ℕ)) (n first : ℕ) (w : List ℕ) (a : Argument) : Type 0 where
  pub word : List ℕ
  pub argued : Argued ps n a word (relative first (argument_value ps w a) a)
  pub back : a ≡ Target → (u : ℕ) × (relative first (argument_value ps w a) a ≡ pos u) × (argument_value ps w a ≡ pos (u + first))
  pub lowers : LowerWord first a w word

-- the line `text` as an import writes it
pub record LowerLine (ps : List (List ℕ)) (n k first : ℕ) (text : List ℕ) : Type 0 where
  pub line : List ℕ
  pub says : Says ps n k line (op_of ps first text)
  pub name : (kind_at (op_of ps first text).kind).name ≡ op text
  pub back : (kind_at (op_of ps first text).kind).argument ≡ Target → (u : ℕ) × ((op_of ps first text).value ≡ pos u) × (argument_value ps (arg text) Target ≡ pos (u + first))
  pub few : k < 1024
  pub placed : place_among (op text) kind_names ≡ Some (op_of ps first text).kind
  pub lowers : LowerWord first (kind_at (op_of ps first text).kind).argument (arg text) says.word
  pub short : length line ≤ length text

-- three words, each no longer
line-short : (a b c d e : List ℕ) → length a ≤ length d → length c ≤ length e → length (a ++ bytes " " ++ b ++ bytes " " ++ c) ≤ length (d ++ bytes " " ++ b ++ bytes " " ++ e)
line-short a b c d e h k = simp length-append (omega arith)

other : {X : Type 0} (a : Argument) → is_target a ≡ false → a ≡ Target → X
other a f e = absurd (false≢true (sym f ∙ ap is_target e))

module _ (ps : List (List ℕ)) (n first : ℕ) (w : List ℕ) where
  target-lower : (z : ℤ) → w ≡ integer z → inside addresses (value w) ≡ z → within addresses z ≡ true → (le_z (pos first) z && lt_z z (pos first +ℤ pos n)) ≡ true → LowerArgument ps n first w Target
  unfolding relative argument_value integer
  target-lower (pos u) s i q h =
      let a = leb-true first u (and_left (leb first u) (ltb u (first + n)) h) in
      let b = ltb-true u (first + n) (and_right (leb first u) (ltb u (first + n)) h) in
      let e : inside addresses (value w) -ℤ pos first ≡ pos (u - first) = ap (λ z. z -ℤ pos first) i ∙ difference u first a in
      let j : u - first < n = omega arith in
      let r : u ≡ u - first + first = omega arith in
      record {
        word = decimal (u - first);
        argued = subst (λ z. Argued ps n Target (decimal (u - first)) z) (sym e) (target j);
        back = λ t. (u - first, e, i ∙ ap pos r);
        lowers = subst (λ v. LowerWord first Target v (decimal (u - first))) (sym (s ∙ ap decimal r)) (moved (u - first));
      }
  target-lower (negsuc u) s i q h = absurd (false≢true (within_low addresses (negsuc u) q))

  argument-lower : (a : Argument) → bounded a ≡ true → argument_laid_out w a ≡ true → argument_in_range w a ≡ true → argument_named ps w a ≡ true → argument_reaches (pos first) n w a ≡ true
      → LowerArgument ps n first w a
  unfolding argument_laid_out argument_in_range argument_named argument_reaches relative argument_value
  argument-lower Absent b l r m t =
      record { word = bytes "-"; argued = absent; back = λ e. other Absent refl e; lowers = subst (λ v. LowerWord first Absent v (bytes "-")) (sym (equals-path w (bytes "-") l)) (kept refl) }
  argument-lower Target b l r m t = target-lower (value w) (spelt_back w (value w) (spelt w l)) (inside_is addresses (value w) r) r t
  argument-lower Primitive b l r m t =
      let f = found-there w ps m in
      record {
        word = w;
        argued = subst (λ v. Argued ps n Primitive v (pos (find w ps))) f.1 (primitive f.0);
        back = λ e. other Primitive refl e;
        lowers = kept refl;
      }
  argument-lower (Within s) b l r m t =
      let e = spelt_back w (value w) (spelt w l) in
      let i : inside numbers (value w) ≡ value w = inside_is numbers (value w) (number-within (value w) (argument-number s (value w) b r)) in
      record {
        word = w;
        argued = rw i (subst (λ v. Argued ps n (Within s) v (value w)) (sym e) within-range);
        back = λ q. other (Within s) refl q;
        lowers = kept refl;
      }

module _ (ls : List Line) (begins : pos (first_address (body ls)) ≡ first_at (body ls)) (k : ℕ) (l : Line) where
  -- AT is the address of the line
  at-lower : is_numeral (numeral (at l.text)) ≡ true → same (value (at l.text)) (first_at (body ls) +ℤ pos k) ≡ true → at l.text ≡ decimal (first_address (body ls) + k)
  unfolding integer
  at-lower s e =
      let z = value (at l.text) in
      let v : z ≡ pos (first_address (body ls) + k) = same-path z (first_at (body ls) +ℤ pos k) e ∙ ap (λ f. f +ℤ pos k) (sym begins) in
      spelt_back (at l.text) z (spelt (at l.text) s) ∙ ap integer v

  pub code-lower : test Layout-row ls (code k) l ≡ true → test range-row ls (code k) l ≡ true → test name-row ls (code k) l ≡ true → test target_row ls (code k) l ≡ true
      → LowerLine (listed (names primitives) ls) (length (lines_of_code (body ls))) k (first_address (body ls)) l.text
  unfolding test in_range code_in_range named code_named reaches on_code op_of
  code-lower a b c d =
      let text = l.text in
      let ps = listed (names primitives) ls in
      let n = length (lines_of_code (body ls)) in
      let first = first_address (body ls) in
      let w = arg text in
      let i = find (op text) kind_names in
      let laid = code-laid-out ls k text (laid_out ls (code k) l a) in
      let called = code-named ls k text c in
      let e = kind-place (op text) called.kind in
      let there = kind-name (op text) called.kind in
      let follows = same (value (at text)) (first_at (body ls) +ℤ pos k) in
      let kind = among (op text) kind_names in
      let f : follows ≡ true = and_left follows kind (and_left (follows && kind) (on_argument (argument_named ps w) text) c) in
      let ranged : on_argument (argument_in_range w) text ≡ true = and_right (within (at_range k) (value (at text))) (on_argument (argument_in_range w) text) b in
      let aimed : on_argument (argument_reaches (pos first) n w) text ≡ true = subst (λ z. on_argument (argument_reaches z n w) text ≡ true) (sym begins) d in
      let x : LowerArgument ps n first w (kind_at i).argument =
      argument-lower ps n first w (kind_at i).argument (kind-bounded i)
      (on-kind (argument_laid_out w) text i e laid.argument)
      (on-kind (argument_in_range w) text i e ranged)
      (on-kind (argument_named ps w) text i e called.argument)
      (on-kind (argument_reaches (pos first) n w) text i e aimed) in
      let t : text ≡ decimal (first + k) ++ bytes " " ++ (kind_at i).name ++ bytes " " ++ w =
      words-three text laid.three
      ∙ ap (λ v. v ++ bytes " " ++ op text ++ bytes " " ++ w) (at-lower laid.spelt f)
      ∙ ap (λ v. decimal (first + k) ++ bytes " " ++ v ++ bytes " " ++ w) (sym there.1) in
      record {
        line = decimal k ++ bytes " " ++ (kind_at i).name ++ bytes " " ++ x.word;
        says = record { known = there.0; word = x.word; line = refl; argued = x.argued };
        name = there.1;
        back = λ t. let r = x.back t in (r.0, r.1, ap (argument_value ps w) (sym t) ∙ r.2);
        few = laid.few;
        placed = e;
        lowers = x.lowers;
        short = subst (λ v. length (decimal k ++ bytes " " ++ (kind_at i).name ++ bytes " " ++ x.word) ≤ length v) (sym t) (line-short (decimal k) (kind_at i).name x.word (decimal (first + k)) w (lower-short k (first + k) (omega arith)) (word-short x.lowers));
      }

-- ---- a line is known by what it says

-- a byte that is neither a minus nor a digit, nor in a primitive's name
pub argued-free : (c : ℕ) → (45 ≡ c → ⊥) → c < 48 → {ps : List (List ℕ)} {n : ℕ} {a : Argument} {w : List ℕ} {z : ℤ} → Every (Free c) ps → Argued ps n a w z → Free c w
argued-free c m h f absent = more m none
argued-free c m h f (target {t} k) = decimal-free c h t
argued-free c m h f (primitive {i} k) = every-get_d f none i
argued-free c m h f (within-range {z}) = integer-free c m h z

numbers-same : (x y : ℤ) → Some x ≡ Some y → x ≡ y
numbers-same x y e = cc

module _ (ps : List (List ℕ)) (unlike : distinct ps ≡ true) (n : ℕ) where
  argument-same : {a : Argument} {w v : List ℕ} {y z : ℤ} → Argued ps n a w y → Argued ps n a v z → w ≡ v → y ≡ z
  argument-same absent absent e = refl
  argument-same (target {t} h) (target {t = u} k) e = numbers-same (pos t) (pos u) (sym (decimal-read t) ∙ ap numeral e ∙ decimal-read u)
  argument-same (primitive {i} h) (primitive {i = j} k) e = ap pos (distinct-places ps unlike i j h k e)
  argument-same (within-range {z}) (within-range {z = y}) e = numbers-same z y (sym (integer-read z) ∙ ap numeral e ∙ integer-read y)

  -- what follows AT
  after-at : (k : ℕ) (w v : List ℕ) → decimal k ++ bytes " " ++ w ++ bytes " " ++ v ≡ decimal k ++ 32 ∷ (w ++ 32 ∷ v)
  after-at k w v = simp append_assoc

  pub says-one : (k : ℕ) (text : List ℕ) (o p : Op) → Says ps n k text o → Says ps n k text p → o ≡ p
  says-one k text o p s t =
      let d = decimal-free 32 (omega arith) k in
      let e : decimal k ++ 32 ∷ ((kind_at o.kind).name ++ 32 ∷ s.word) ≡ decimal k ++ 32 ∷ ((kind_at p.kind).name ++ 32 ∷ t.word) =
      sym (after-at k (kind_at o.kind).name s.word) ∙ sym s.line ∙ t.line ∙ after-at k (kind_at p.kind).name t.word in
      let r = (cut-same 32 ((kind_at o.kind).name ++ 32 ∷ s.word) ((kind_at p.kind).name ++ 32 ∷ t.word) d d e).1 in
      let q = cut-same 32 s.word t.word (name_free 32 (omega arith) o.kind) (name_free 32 (omega arith) p.kind) r in
      let m : o.kind ≡ p.kind = name-known o.kind p.kind s.known t.known q.0 in
      let v : o.value ≡ p.value = argument-same (subst (λ j. Argued ps n (kind_at j).argument s.word o.value) m s.argued) t.argued q.1 in
      ap₂ (λ j z. record { kind = j; value = z }) m v
