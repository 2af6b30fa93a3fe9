-- Laws of a line of three words: what follows its first word, and how many bytes the words have. Assumes nothing.
use Prim.Native.Nat.{ℕ, zero, suc, ◌+◌, ◌-◌, ◌<◌, ◌≤◌}
use mathlib.Core.Path.{◌≡◌, refl, sym, ap, ◌∙◌}
use mathlib.Core.Bool.{Bool, true, false, cond, ◌&&◌}
use mathlib.Core.List.{List, [], ◌∷◌}
use native.Mathlib.Omega.{arith}
use lib.Dec.{eqb}
use lib.ListN.{length, get_or, take}
use borrow.Author.Tests.{eq-eqb, ne_eqb}
use Rattle.text.specs.Text.{onto, parted_by, line_words, all}
use Rattle.text.proofs.ScanLaws.{first_length, past}
use Rattle.text.proofs.PieceLaws.{split-some, words_more, words_last, word-here}
use Rattle.file_format.specs.Rows.{at, op, arg}
use Rattle.file_lines.specs.declared.WordTest.TheVariants.{Filled}
use Rattle.file_lines.specs.HeldLines.{word_test}
use Rattle.file_code.specs.HeldCode.{is_whole}

-- ---- what follows the first word of l, which has n bytes

module _ (l : List ℕ) (n : ℕ) (q : n ≡ first_length 32 l) where
  pub after_more : n < length l → (k : ℕ) → get_or (line_words (past n l)) k [] ≡ get_or (line_words l) (suc k) []
  after_more h k = sym (ap (λ ws. get_or ws (suc k) []) (words_more l n q h))

  pub after_none : length l ≤ n → (k : ℕ) → get_or (line_words []) k [] ≡ get_or (line_words l) (suc k) []
  unfolding line_words parted_by
  after_none h k = go k ∙ sym (ap (λ ws. get_or ws (suc k) []) (words_last l n q h))
    where
      go : (j : ℕ) → get_or ([] ∷ []) j [] ≡ get_or (l ∷ []) (suc j) []
      go zero = refl
      go (suc j) = refl

-- ---- a line that is cut: its first word has e bytes, that of what follows has f, and that of what follows this has g

module _ (line rest last : List ℕ) {e f g : ℕ} (first : e ≡ first_length 32 line) (after : (k : ℕ) → get_or (line_words rest) k [] ≡ get_or (line_words line) (suc k) []) (second : f ≡ first_length 32 rest)
    (then : (k : ℕ) → get_or (line_words last) k [] ≡ get_or (line_words rest) (suc k) []) (third : g ≡ first_length 32 last) where
  pub cut_at : take e line ≡ at line
  cut_at = sym (word-here line e 0 first (omega arith))

  pub cut-op : take f rest ≡ op line
  cut-op = sym (word-here rest f 0 second (omega arith)) ∙ after 0

  pub cut-arg : take g last ≡ arg line
  cut-arg = sym (word-here last g 0 third (omega arith)) ∙ then 0 ∙ after 1

  pub cut-lengths : (e ≡ length (at line)) × (f ≡ length (op line)) × (g ≡ length (arg line))
  unfolding line_words
  cut-lengths = (first, second ∙ ap length (after 0), third ∙ ap length (then 0 ∙ after 1))

-- ---- the bytes of words and of the spaces between them

abbrev spread : List (List ℕ) → ℕ
spread [] = 0
spread (w ∷ []) = length w
spread (w ∷ v ∷ ws) = length w + 1 + spread (v ∷ ws)

spread-cons : (w : List ℕ) (ws : List (List ℕ)) → 0 < length ws → spread (w ∷ ws) ≡ length w + 1 + spread ws
spread-cons w [] h = absurd (omega arith)
spread-cons w (v ∷ ws) h = refl

spread-onto : (x : ℕ) (ws : List (List ℕ)) → 0 < length ws → spread (onto x ws) ≡ suc (spread ws)
spread-onto x [] h = absurd (omega arith)
spread-onto x (w ∷ []) h = refl
spread-onto x (w ∷ v ∷ ws) h = omega arith

spread-split : (c : ℕ) (s : List ℕ) → spread (parted_by c s) ≡ length s
unfolding parted_by
spread-split c [] = refl
spread-split c (x ∷ xs) = go (eqb x c) (spread-split c xs)
  where
    go : (b : Bool) → spread (parted_by c xs) ≡ length xs → spread (cond b ([] ∷ parted_by c xs) (onto x (parted_by c xs))) ≡ suc (length xs)
    go true e = omega (arith, spread-cons [] (parted_by c xs) (split-some c xs))
    go false e = omega (arith, spread-onto x (parted_by c xs) (split-some c xs))

spread-words : (l : List ℕ) → spread (line_words l) ≡ length l
unfolding line_words
spread-words l = spread-split 32 l

words-some : (l : List ℕ) → 0 < length (line_words l)
unfolding line_words
words-some l = split-some 32 l

-- ---- three words, none of them empty

empty-word : (w : List ℕ) → length w ≡ 0 → word_test Filled w ≡ false
unfolding word_test
empty-word [] e = refl
empty-word (x ∷ xs) e = absurd (omega arith)

some_word : (w : List ℕ) → (length w ≡ 0 → ⊥) → word_test Filled w ≡ true
unfolding word_test
some_word [] n = absurd (n refl)
some_word (x ∷ xs) n = refl

and_none : (b : Bool) → b && false ≡ false
and_none true = refl
and_none false = refl

first-empty : (ws : List (List ℕ)) → 0 < length ws → length (get_or ws 0 []) ≡ 0 → false ≡ is_whole ws
unfolding is_whole all
first-empty [] h e = absurd (omega arith)
first-empty (w ∷ ws) h e = rw (empty-word w e) refl

second_empty : (ws : List (List ℕ)) → 0 < length ws → length (get_or ws 1 []) ≡ 0 → false ≡ is_whole ws
unfolding is_whole all
second_empty [] h e = absurd (omega arith)
second_empty (w ∷ []) h e = sym (and_none (word_test Filled w && true))
second_empty (w ∷ v ∷ ws) h e = rw (empty-word v e, and_none (word_test Filled w)) refl

third-empty : (ws : List (List ℕ)) → 0 < length ws → length (get_or ws 2 []) ≡ 0 → false ≡ is_whole ws
unfolding is_whole all
third-empty [] h e = absurd (omega arith)
third-empty (w ∷ []) h e = sym (and_none (word_test Filled w && true))
third-empty (w ∷ v ∷ []) h e = sym (and_none (word_test Filled w && (word_test Filled v && true)))
third-empty (w ∷ v ∷ u ∷ ws) h e = rw (empty-word u e, and_none (word_test Filled v), and_none (word_test Filled w)) refl

-- the bytes of the first three words
fits : (ws : List (List ℕ)) (n : ℕ) → spread ws ≡ n → length (get_or ws 0 []) + length (get_or ws 1 []) + length (get_or ws 2 []) ≤ n
fits [] n s = omega arith
fits (w ∷ []) n s = omega arith
fits (w ∷ v ∷ []) n s = omega arith
fits (w ∷ v ∷ u ∷ []) n s = omega arith
fits (w ∷ v ∷ u ∷ x ∷ ws) n s = omega arith

none-empty : (ws : List (List ℕ)) (n : ℕ) → spread ws ≡ n → (length (get_or ws 0 []) ≡ 0 → ⊥) → (length (get_or ws 1 []) ≡ 0 → ⊥) → (length (get_or ws 2 []) ≡ 0 → ⊥)
    → eqb (n - length (get_or ws 0 []) - length (get_or ws 1 []) - length (get_or ws 2 [])) 2 ≡ is_whole ws
unfolding is_whole all
none-empty [] n s a b d = absurd (a refl)
none-empty (w ∷ []) n s a b d = absurd (b refl)
none-empty (w ∷ v ∷ []) n s a b d = absurd (d refl)
none-empty (w ∷ v ∷ u ∷ []) n s a b d = rw (some_word w a, some_word v b, some_word u d) (eq-eqb (n - length w - length v - length u) 2 (omega arith))
none-empty (w ∷ v ∷ u ∷ x ∷ ws) n s a b d =
    ne_eqb (n - length w - length v - length u) 2 (λ e. omega arith)
    ∙ sym (ap (λ t. all (word_test Filled) (w ∷ v ∷ u ∷ x ∷ ws) && t) (ne_eqb (length (w ∷ v ∷ u ∷ x ∷ ws)) 3 (λ e. omega arith)) ∙ and_none (all (word_test Filled) (w ∷ v ∷ u ∷ x ∷ ws)))

-- the same of the words of a line, whose lengths are e, f and g

module _ (l : List ℕ) {e f g : ℕ} (p : (e ≡ length (get_or (line_words l) 0 [])) × (f ≡ length (get_or (line_words l) 1 [])) × (g ≡ length (get_or (line_words l) 2 []))) where
  pub words-fit : e + f + g ≤ length l
  words-fit = omega (arith, fits (line_words l) (length l) (spread-words l), p.0, p.1, p.2)

  pub no-first : e ≡ 0 → false ≡ is_whole (line_words l)
  no-first z = first-empty (line_words l) (words-some l) (sym p.0 ∙ z)

  pub no_second : f ≡ 0 → false ≡ is_whole (line_words l)
  no_second z = second_empty (line_words l) (words-some l) (sym p.1 ∙ z)

  pub no_third : g ≡ 0 → false ≡ is_whole (line_words l)
  no_third z = third-empty (line_words l) (words-some l) (sym p.2 ∙ z)

  pub all_there : (e ≡ 0 → ⊥) → (f ≡ 0 → ⊥) → (g ≡ 0 → ⊥) → eqb (length l - e - f - g) 2 ≡ is_whole (line_words l)
  all_there a b d =
      rw (p.0, p.1, p.2)
      (none-empty (line_words l) (length l) (spread-words l) (λ z. a (p.0 ∙ z)) (λ z. b (p.1 ∙ z)) (λ z. d (p.2 ∙ z)))
