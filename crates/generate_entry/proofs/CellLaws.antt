-- Laws of the cases of a definition as the code tells them apart. Assumes nothing.
use mathlib.Core.Path.{◌≡◌, refl, sym, ap, ◌∙◌}
use mathlib.Core.Bool.{Bool, true, false, cond}
use Prim.Native.Nat.{ℕ, zero, suc, ◌+◌, ◌-◌, ◌/◌, ◌%◌, ◌<◌, ◌≤◌}
use native.Mathlib.Omega.{arith}
use lib.Dec.{leb, ltb}
use borrow.Author.Tests.{eq-eqb, ne_eqb, le-leb, lt-leb, leb-true}
use Rattle.generate_file.specs.declared.Column.{Column}
use Rattle.generate_file.specs.declared.Column.TheVariants.{Names, Limits, Cycles, Words, Extras, Handles, Known, Open}
use Rattle.generate_file.specs.Draws.{next, after}
use mathlib.Core.List.{List, []}
use lib.IntN.{ℤ}
use lib.ListN.{length, get_or}
use mir.Syntax.{w32}
use mir.Val.{of_z, to_z}
use mir.ValLaws.{to_z-of_z}
use Rattle.text.specs.Text.{bytes, parted_by, line_words, all}
use Rattle.text_decimals.specs.Decimal.{decimal, integer}
use Rattle.numbers.specs.declared.Range.{Range}
use Rattle.numbers.specs.Numbers.{numbers}
use Rattle.numbers.proofs.SignedLaws.{number_fits}
use Rattle.instructions.specs.Kinds.{kind_at}
use Rattle.instructions.specs.declared.Argument.{Argument}
use Rattle.instructions.specs.declared.Argument.TheVariants.{Absent, Target, Primitive, Within}
use Rattle.text_decimals.proofs.IntegerLaws.{integer-length}
use Rattle.text.proofs.TextLaws.{every-get_d, all-every}
use Rattle.text_decimals.proofs.DecimalLaws.{decimal-length}
use Rattle.generate_file.specs.Held.{sound}
use Rattle.generate_file.proofs.NumberLaws.{numbers-sound, sound_argument, kind-sound, range-sound as kind-range-sound, number_is}
use Rattle.generate_file.proofs.CodeLaws.{target-within}
use Rattle.generate_file.specs.Words.{below, number_in, spread, amount, handle_word, number_word, open_word, word, break, is_going}
use Rattle.generate_file.specs.File.{count, primitives, target, argument, accesses, is_open, plain_cells, cells_for, kind_of}

first-draw : (seed : ℕ) → after 1 seed ≡ next seed
unfolding after
first-draw seed = refl

pub open-cells : (seed d : ℕ) → d ≡ next seed → d / 200 % 2 ≡ 1 → Open ≡ plain_cells seed
unfolding plain_cells is_open
open-cells seed d e h = rw (first-draw seed, ← e, eq-eqb (d / 200 % 2) 1 h) refl

pub known-cells : (seed d : ℕ) → d ≡ next seed → (d / 200 % 2 ≡ 1 → ⊥) → Known ≡ plain_cells seed
unfolding plain_cells is_open
known-cells seed d e h = rw (first-draw seed, ← e, ne_eqb (d / 200 % 2) 1 h) refl

pub aimed : (n k d : ℕ) → d / (n - k) % 16 ≡ 0 → n - d % (n - k) ≡ target n k d
unfolding target
aimed n k d h = rw (eq-eqb (d / (n - k) % 16) 0 h) refl

pub closing : (n k d : ℕ) → (d / (n - k) % 16 ≡ 0 → ⊥) → n ≡ target n k d
unfolding target
closing n k d h = rw (ne_eqb (d / (n - k) % 16) 0 h) (omega arith)

-- ---- a number of a range that is written

module _ (r : Range) (d : ℕ) (s : sound r ≡ true) {z : ℤ} (e : z ≡ number_in r d) where
  pub integer-as : integer (number_in r d) ≡ integer (to_z w32 (of_z w32 z))
  integer-as = sym (ap (λ y. integer (to_z w32 (of_z w32 y))) e ∙ ap integer (to_z-of_z w32 (number_in r d) (number_fits (number_in r d) (number_is r d s))))

  pub integer-room : length (integer (to_z w32 (of_z w32 z))) ≤ 11
  integer-room = rw (← integer-as) (integer-length (number_in r d) (number_fits (number_in r d) (number_is r d s)))

pub range-sound : {r : Range} → r ≡ numbers → sound r ≡ true
range-sound e = ap sound e ∙ numbers-sound

pub small-number : (d : ℕ) → d / 2 % 2 ≡ 0 → number_word d ≡ decimal (d / 4 % 8)
unfolding number_word
small-number d h = rw (eq-eqb (d / 2 % 2) 0 h) refl

pub any-number : (d : ℕ) → (d / 2 % 2 ≡ 0 → ⊥) → number_word d ≡ integer (number_in numbers d)
unfolding number_word
any-number d h = rw (ne_eqb (d / 2 % 2) 0 h) refl

pub open-word : (d : ℕ) → d % 2 ≡ 0 → open_word d ≡ bytes "?"
unfolding open_word
open-word d h = rw (eq-eqb (d % 2) 0 h) refl

pub closed-word : (d : ℕ) → (d % 2 ≡ 0 → ⊥) → open_word d ≡ number_word d
unfolding open_word
closed-word d h = rw (ne_eqb (d % 2) 0 h) refl

-- ---- what follows a word

pub break-more : (n : ℕ) (f : Bool) → 0 < n → break (is_going n f) ≡ bytes " "
break-more zero f h = absurd (omega arith)
break-more (suc n) f h = refl

pub break-follows : (n : ℕ) (f : Bool) → n ≤ 0 → f ≡ true → break (is_going n f) ≡ bytes " "
break-follows zero f h e = rw e refl
break-follows (suc n) f h e = absurd (omega arith)

pub break-ends : (n : ℕ) (f : Bool) → n ≤ 0 → f ≡ false → break (is_going n f) ≡ bytes "\n"
break-ends zero f h e = rw e refl
break-ends (suc n) f h e = absurd (omega arith)

-- ---- columns

pub limit-first : (i : ℕ) → i ≡ 0 → 1000 ≡ spread Limits i
limit-first i e = rw (eq-eqb i 0 e) refl

pub limit-second : (i : ℕ) → (i ≡ 0 → ⊥) → 100000 ≡ spread Limits i
limit-second i e = rw (ne_eqb i 0 e) refl

pub extra-if : (i : ℕ) → i ≡ 53 → 100 ≡ spread Extras i
extra-if i e = rw (eq-eqb i 53 e) refl

pub extra-if-not : (i : ℕ) → (i ≡ 53 → ⊥) → i ≡ 54 → 100 ≡ spread Extras i
extra-if-not i f e = rw (ne_eqb i 53 f, eq-eqb i 54 e) refl

pub extra-other : (i : ℕ) → (i ≡ 53 → ⊥) → (i ≡ 54 → ⊥) → 1 ≡ spread Extras i
extra-other i f e = rw (ne_eqb i 53 f, ne_eqb i 54 e) refl

module _ {c : Column} (i d : ℕ) where
  pub word-names : c ≡ Names → word c i d ≡ (kind_at i).name
  unfolding word
  word-names e = rw e refl

  pub word-handles : c ≡ Handles → word c i d ≡ handle_word d
  unfolding word
  word-handles e = rw e refl

  pub word-known : c ≡ Known → word c i d ≡ number_word d
  unfolding word
  word-known e = rw e refl

  pub word-open : c ≡ Open → word c i d ≡ open_word d
  unfolding word
  word-open e = rw e refl

  pub word-limits : c ≡ Limits → {s : ℕ} → s ≡ spread Limits i → word c i d ≡ decimal (1 + below s d)
  unfolding word amount
  word-limits e q = rw (e, q) refl

  pub word-cycles : c ≡ Cycles → word c i d ≡ decimal (0 + below 1000 d)
  unfolding word amount
  word-cycles e = rw e refl

  pub word-words : c ≡ Words → word c i d ≡ decimal (0 + below 16 d)
  unfolding word amount
  word-words e = rw e refl

  pub word-extras : c ≡ Extras → {s : ℕ} → s ≡ spread Extras i → word c i d ≡ decimal (0 + below s d)
  unfolding word amount
  word-extras e q = rw (e, q) refl

-- ---- cells that a kind calls for

pub no_access : (k : ℕ) → k < 42 → false ≡ accesses k
no_access k h = rw (lt-leb 42 k h) refl

pub an-access : (k : ℕ) → 42 ≤ k → leb k 51 ≡ accesses k
an-access k h = rw (le-leb 42 k h) refl

module _ (seed k : ℕ) {n d m : ℕ} (p : n ≡ count seed) (e : d ≡ after (k + 2) seed) (f : m ≡ cond (ltb k n) (d % 61) 60) where
  kind-is : m ≡ kind_of seed k
  unfolding kind_of
  kind-is =
      let q : k + 2 ≡ 2 + k = omega arith in
      f ∙ ap (λ x. cond (ltb k n) (x % 61) 60) (e ∙ ap (λ x. after x seed) q) ∙ ap (λ x. cond (ltb k x) (after (2 + k) seed % 61) 60) p

  pub handles-for : {b : Bool} → b ≡ accesses m → b ≡ true → Handles ≡ cells_for seed k
  unfolding cells_for
  handles-for q t = rw (← kind-is, ← q, t) refl

  pub plain-for : {b : Bool} → b ≡ accesses m → b ≡ false → {c : Column} → c ≡ plain_cells seed → c ≡ cells_for seed k
  unfolding cells_for
  plain-for q t g = rw (← kind-is, ← q, t) g

-- ---- arguments

primitive-short : (i : ℕ) → length (get_or primitives i []) ≤ 12
unfolding all
primitive-short i = leb-true (length (get_or primitives i [])) 12 (every-get_d (all-every (λ w. leb (length w) 12) primitives refl) refl i)

pub argument-short : (n k d : ℕ) → n < 200 → (a : Argument) → sound_argument a ≡ true → length (argument n k d a) ≤ 12
unfolding argument
argument-short n k d h Absent s = omega arith
argument-short n k d h Target s =
    let t = target-within n k d in
    let l = decimal-length 3 (target n k d) (omega arith) (omega arith) in
    omega arith
argument-short n k d h Primitive s = primitive-short (d % 4)
argument-short n k d h (Within r) s = let l = integer-length (number_in r d) (number_fits (number_in r d) (number_is r d s)) in omega arith

pub kind-short : (n k d kind : ℕ) → n < 200 → length (argument n k d (kind_at kind).argument) ≤ 12
kind-short n k d kind h = argument-short n k d h (kind_at kind).argument (kind-sound kind)

pub listed-primitives : line_words (bytes "READ WRITE CLOCK NOISE") ≡ primitives
unfolding line_words parted_by
listed-primitives = refl

module _ {a : Argument} (n k d : ℕ) where
  pub argument-absent : a ≡ Absent → argument n k d a ≡ bytes "-"
  unfolding argument
  argument-absent e = rw e refl

  pub argument-target : a ≡ Target → {t : ℕ} → t ≡ target n k d → argument n k d a ≡ decimal t
  unfolding argument
  argument-target e f = rw (e, ← f) refl

  pub argument-primitive : a ≡ Primitive → {w : List ℕ} → w ≡ get_or (line_words (bytes "READ WRITE CLOCK NOISE")) (d % 4) [] → argument n k d a ≡ w
  unfolding argument
  argument-primitive e f = rw e (sym (f ∙ ap (λ ws. get_or ws (d % 4) []) listed-primitives))

  pub argument-within : (r : Range) → a ≡ Within r → argument n k d a ≡ integer (number_in r d)
  unfolding argument
  argument-within r e = rw e refl

pub primitive-room : (i : ℕ) {w : List ℕ} → w ≡ get_or (line_words (bytes "READ WRITE CLOCK NOISE")) i [] → length w ≤ 12
primitive-room i e = rw (e ∙ ap (λ ws. get_or ws i []) listed-primitives) (primitive-short i)

pub within-sound : (k : ℕ) (r : Range) {a : Argument} → a ≡ (kind_at k).argument → a ≡ Within r → sound r ≡ true
within-sound k r e f = kind-range-sound k r (sym e ∙ f)

-- ---- the number of lines

pub count-is : (seed : ℕ) {d : ℕ} → d ≡ next seed → d % 200 ≡ count seed
unfolding count
count-is seed e = ap (λ x. x % 200) (e ∙ sym (first-draw seed))
