-- Laws of pieces put together again: the pieces of a text make the text, and joined pieces are split into the same; lines that each
-- end in a line feed likewise. Assumes nothing.
use mathlib.Core.Path.{◌≡◌, refl, sym, ap, ap₂, ◌∙◌}
use mathlib.Core.Bool.{Bool, true, false, cond, not, false≢true}
use mathlib.Core.List.{List, [], ◌∷◌, ◌++◌, append_assoc, map}
use Prim.Native.Nat.{ℕ, zero, suc, ◌<◌}
use native.Mathlib.Omega.{arith}
use lib.Dec.{eqb}
use lib.ListN.{length, get_or, set, take, drop}
use lib.Seq.{set_split}
use borrow.Author.Tests.{eqb-true, eqb-false, eq-eqb, ne_eqb, not-true}
use Rattle.text.specs.Text.{bytes, onto, parted_by, joined, line_words, Line, lines_of, lines, lines_text, all}
use Rattle.text.proofs.TextLaws.{Every, none, more, every_append, every_map, all-every}
use Rattle.text.proofs.PieceLaws.{split-some}
use Rattle.text.proofs.LineLaws.{ended_line}

-- ---- pieces

-- no byte of a piece is c
abbrev pub Free : ℕ → List ℕ → Type 0
Free c w = Every (λ b. b ≡ c → ⊥) w

-- the same of a closed text: `refl` shows the test
pub text-free : (c : ℕ) (w : List ℕ) → all (λ b. not (eqb b c)) w ≡ true → Free c w
text-free c w e = every_map (λ b k. eqb-false b c (not-true (eqb b c) k)) (all-every (λ b. not (eqb b c)) w e)

join-onto : (c x : ℕ) (ps : List (List ℕ)) → 0 < length ps → joined c (onto x ps) ≡ x ∷ joined c ps
unfolding joined
join-onto c x [] h = absurd (omega arith)
join-onto c x (w ∷ []) h = refl
join-onto c x (w ∷ v ∷ ws) h = refl

join-empty : (c : ℕ) (ps : List (List ℕ)) → 0 < length ps → joined c ([] ∷ ps) ≡ c ∷ joined c ps
unfolding joined
join-empty c [] h = absurd (omega arith)
join-empty c (w ∷ ws) h = refl

-- the pieces of a text make the text
pub join-split : (c : ℕ) (s : List ℕ) → joined c (parted_by c s) ≡ s
unfolding parted_by joined
join-split c [] = refl
join-split c (x ∷ xs) = go (eqb x c) refl (join-split c xs)
  where
    go : (b : Bool) → eqb x c ≡ b → joined c (parted_by c xs) ≡ xs → joined c (cond b ([] ∷ parted_by c xs) (onto x (parted_by c xs))) ≡ x ∷ xs
    go true e ih = join-empty c (parted_by c xs) (split-some c xs) ∙ ap (λ d. d ∷ joined c (parted_by c xs)) (sym (eqb-true x c e)) ∙ ap (λ t. x ∷ t) ih
    go false e ih = join-onto c x (parted_by c xs) (split-some c xs) ∙ ap (λ t. x ∷ t) ih

-- one byte more in front of the first piece
onto-every : (P : ℕ → Type 0) (x : ℕ) (ps : List (List ℕ)) → P x → Every (Every P) ps → Every (Every P) (onto x ps)
onto-every P x [] h none = more (more h none) none
onto-every P x (w ∷ ws) h (more p ps) = more (more h p) ps

-- no piece holds the byte that parts them
pub split-free : (c : ℕ) (s : List ℕ) → Every (Free c) (parted_by c s)
unfolding parted_by
split-free c [] = more none none
split-free c (x ∷ xs) = go (eqb x c) refl (split-free c xs)
  where
    go : (b : Bool) → eqb x c ≡ b → Every (Free c) (parted_by c xs) → Every (Free c) (cond b ([] ∷ parted_by c xs) (onto x (parted_by c xs)))
    go true e ih = more none ih
    go false e ih = onto-every (λ b. b ≡ c → ⊥) x (parted_by c xs) (eqb-false x c e) ih

-- what holds of each byte of a text holds of each byte of its pieces
pub pieces-every : {P : ℕ → Type 0} (c : ℕ) {s : List ℕ} → Every P s → Every (Every P) (parted_by c s)
unfolding parted_by
pieces-every c none = more none none
pieces-every {P} c (more {x} {xs} h hs) = go (eqb x c) (pieces-every c hs)
  where
    go : (b : Bool) → Every (Every P) (parted_by c xs) → Every (Every P) (cond b ([] ∷ parted_by c xs) (onto x (parted_by c xs)))
    go true ih = more none ih
    go false ih = onto-every P x (parted_by c xs) h ih

-- joined pieces are split into the same
pub split-alone : (c : ℕ) {w : List ℕ} → Free c w → parted_by c w ≡ w ∷ []
unfolding parted_by
split-alone c none = refl
split-alone c (more {x} {xs} h hs) = rw (ne_eqb x c h, split-alone c hs) refl

pub split-first : (c : ℕ) {w : List ℕ} (t : List ℕ) → Free c w → parted_by c (w ++ c ∷ t) ≡ w ∷ parted_by c t
unfolding parted_by
split-first c t none = rw (eq-eqb c c refl) refl
split-first c t (more {x} {xs} h hs) = rw (ne_eqb x c h, split-first c t hs) refl

pub split-joined : (c : ℕ) {ps : List (List ℕ)} → 0 < length ps → Every (Free c) ps → parted_by c (joined c ps) ≡ ps
unfolding joined
split-joined c h none = absurd (omega arith)
split-joined c h (more f none) = split-alone c f
split-joined c h (more {x = w} f (more {x = v} {xs = ws} g gs)) =
    split-first c (joined c (v ∷ ws)) f ∙ ap (λ ps. w ∷ ps) (split-joined c (omega arith) (more g gs))

-- what holds of c and of each byte of the pieces holds of each byte of the text
pub joined-every : {P : ℕ → Type 0} (c : ℕ) → P c → {ps : List (List ℕ)} → Every (Every P) ps → Every P (joined c ps)
unfolding joined
joined-every c h none = none
joined-every c h (more q none) = q
joined-every c h (more q (more r rs)) = every_append q (more h (joined-every c h (more r rs)))

-- ---- one place of a list

module _ {A : Type 0} {P : A → Type 0} where
  pub every_set : {xs : List A} {x : A} → Every P xs → P x → (i : ℕ) → Every P (set xs i x)
  every_set none q i = none
  every_set (more p ps) q zero = more q ps
  every_set (more p ps) q (suc i) = more p (every_set ps q i)

-- ---- lines

-- lines that each end in a line feed, one after the other
pub lines-append : (ls ms : List Line) → lines_text (ls ++ ms) ≡ lines_text ls ++ lines_text ms
unfolding lines_text
lines-append [] ms = refl
lines-append (l ∷ ls) ms = ap (λ t. l.text ++ bytes "\n" ++ t) (lines-append ls ms) ∙ sym (append_assoc (l.text ++ bytes "\n") (lines_text ls) (lines_text ms))

-- a text whose lines all end in a line feed is the text of its lines
pieces-text : (ps : List (List ℕ)) → 0 < length ps → Every (λ l. l.ended ≡ true) (lines_of ps) → lines_text (lines_of ps) ≡ joined 10 ps
unfolding lines_of lines_text joined
pieces-text [] h e = absurd (omega arith)
pieces-text ([] ∷ []) h e = refl
pieces-text ((x ∷ xs) ∷ []) h (more k none) = absurd (false≢true k)
pieces-text (p ∷ q ∷ ps) h (more k e) = append_assoc p (10 ∷ []) (lines_text (lines_of (q ∷ ps))) ∙ ap (λ t. p ++ 10 ∷ t) (pieces-text (q ∷ ps) (omega arith) e)

pub text-of-lines : (text : List ℕ) → Every (λ l. l.ended ≡ true) (lines text) → lines_text (lines text) ≡ text
unfolding lines
text-of-lines text e = pieces-text (parted_by 10 text) (split-some 10 text) e ∙ join-split 10 text

-- no line holds a line feed
pieces-free : (ps : List (List ℕ)) → Every (Free 10) ps → Every (λ l. Free 10 l.text) (lines_of ps)
unfolding lines_of
pieces-free [] none = none
pieces-free ([] ∷ []) (more k none) = none
pieces-free ((x ∷ xs) ∷ []) (more k none) = more k none
pieces-free (p ∷ q ∷ ps) (more k ks) = more k (pieces-free (q ∷ ps) ks)

pub lines-free : (text : List ℕ) → Every (λ l. Free 10 l.text) (lines text)
unfolding lines
lines-free text = pieces-free (parted_by 10 text) (split-free 10 text)

-- the lines of a text that is made of lines
more-lines : (p : List ℕ) (ps : List (List ℕ)) → 0 < length ps → lines_of (p ∷ ps) ≡ ended_line p ∷ lines_of ps
unfolding lines_of
more-lines p [] h = absurd (omega arith)
more-lines p (q ∷ ps) h = refl

pub lines-of-text : {ls : List Line} → Every (λ l. Free 10 l.text) ls → lines (lines_text ls) ≡ map (λ l. ended_line l.text) ls
unfolding lines lines_text lines_of parted_by
lines-of-text none = refl
lines-of-text (more {x = l} {xs = ls} h hs) =
    ap (λ t. lines_of (parted_by 10 t)) (append_assoc l.text (10 ∷ []) (lines_text ls))
    ∙ ap lines_of (split-first 10 (lines_text ls) h)
    ∙ more-lines l.text (parted_by 10 (lines_text ls)) (split-some 10 (lines_text ls))
    ∙ ap (λ ms. ended_line l.text ∷ ms) (lines-of-text hs)

-- lines that are ended, by their texts
pub ended-lines : {ls : List Line} → Every (λ l. l.ended ≡ true) ls → map (λ l. ended_line l.text) ls ≡ ls
ended-lines none = refl
ended-lines (more {x = l} e es) = ap₂ (λ b ms. record { text = l.text; ended = b } ∷ ms) (sym e) (ended-lines es)

-- another text in the place of line k, where each line is ended
pub lines-set : (text new : List ℕ) (k : ℕ) → Every (λ l. l.ended ≡ true) (lines text) → Free 10 new → lines (lines_text (set (lines text) k (ended_line new))) ≡ set (lines text) k (ended_line new)
lines-set text new k e f = lines-of-text (every_set (lines-free text) f k) ∙ ended-lines (every_set e refl k)

-- the same by its bytes
pub text-set : (ls : List Line) (new : List ℕ) (k : ℕ) → k < length ls → lines_text (set ls k (ended_line new)) ≡ lines_text (take k ls) ++ new ++ bytes "\n" ++ lines_text (drop (suc k) ls)
unfolding lines_text
text-set ls new k h = ap lines_text (set_split ls k (ended_line new) h) ∙ lines-append (take k ls) (ended_line new ∷ drop (suc k) ls) ∙ simp append_assoc

-- ---- words

-- a text of three words
pub words-three : (text : List ℕ) → length (line_words text) ≡ 3 → text ≡ get_or (line_words text) 0 [] ++ bytes " " ++ get_or (line_words text) 1 [] ++ bytes " " ++ get_or (line_words text) 2 []
unfolding line_words joined
words-three text h = sym (join-split 32 text) ∙ go (parted_by 32 text) h
  where
    go : (ws : List (List ℕ)) → length ws ≡ 3 → joined 32 ws ≡ get_or ws 0 [] ++ bytes " " ++ get_or ws 1 [] ++ bytes " " ++ get_or ws 2 []
    go [] e = absurd (omega arith)
    go (x ∷ []) e = absurd (omega arith)
    go (x ∷ y ∷ []) e = absurd (omega arith)
    go (x ∷ y ∷ z ∷ []) e = simp append_assoc
    go (x ∷ y ∷ z ∷ v ∷ vs) e = absurd (omega arith)

-- what stands before the first c, and what stands after it
pub cut-same : (c : ℕ) {w v : List ℕ} (t u : List ℕ) → Free c w → Free c v → w ++ c ∷ t ≡ v ++ c ∷ u → (w ≡ v) × (t ≡ u)
cut-same c {w} {v} t u f g e =
    let q : w ∷ parted_by c t ≡ v ∷ parted_by c u = sym (split-first c t f) ∙ ap (parted_by c) e ∙ split-first c u g in
    let s : parted_by c t ≡ parted_by c u = cc in
    ((cc), sym (join-split c t) ∙ ap (joined c) s ∙ join-split c u)
