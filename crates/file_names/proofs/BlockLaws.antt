-- Laws of the sizes of blocks: how names add to them one by one, as the code reads them, and how large they are. Assumes nothing.
use Prim.Native.Nat.{ℕ, zero, suc, ◌+◌, ◌-◌, ◌*◌, ◌<◌, ◌≤◌}
use mathlib.Core.Path.{◌≡◌, refl, sym, ap, ◌∙◌}
use mathlib.Core.Bool.{Bool, true, false, cond, ◌&&◌}
use mathlib.Core.List.{List, [], ◌∷◌, ◌++◌}
use native.Mathlib.Omega.{arith}
use native.Mathlib.Numerals.{add-one}
use lib.Dec.{eqb, ltb}
use lib.ListN.{length, get_or, take, drop, set, drop_of_length-le}
use lib.Seq.{drop-cons, length-take-le, take-suc, take-suc-set}
use borrow.Author.Tests.{eqb-true, eqb-false, eq-eqb, ne_eqb, ltb-true}
use Rattle.text.specs.Text.{bytes, equals, line_words}
use Rattle.text_decimals.specs.Decimal.{decimal}
use Rattle.text.proofs.TextLaws.{and_left, and_right}
use Rattle.file_format.specs.Layout.{list}
use Rattle.file_format.specs.Rows.{is_field, sizes_from, block_sizes, total}
use Rattle.file_names.specs.declared.Blocks.{Blocks}
use Rattle.file_names.specs.HeldNames.{BlocksOf, added}

-- ---- bounds

pub block-below : (k n : ℕ) (w : List ℕ) → is_field k n w ≡ true → k < 8
unfolding is_field
block-below k n w e =
    let f = equals w (bytes "B" ++ decimal k ++ bytes "." ++ decimal n) in
    ltb-true k 8 (and_left (ltb k 8) (ltb n 16) (and_left (ltb k 8 && ltb n 16) f e))

pub place-below : (k n : ℕ) (w : List ℕ) → is_field k n w ≡ true → n < 16
unfolding is_field
place-below k n w e =
    let f = equals w (bytes "B" ++ decimal k ++ bytes "." ++ decimal n) in
    ltb-true n 16 (and_right (ltb k 8) (ltb n 16) (and_left (ltb k 8 && ltb n 16) f e))

-- ---- name by name

-- the sizes ns of block k and those after it, with the names ws up to the first that adds nothing
unfoldable pub grow : ℕ → List ℕ → List (List ℕ) → List ℕ
grow k ns [] = ns
grow k ns (w ∷ ws) = cond (eqb (total (added k ns w)) (total ns)) ns (grow k (added k ns w) ws)

added-front : (k n : ℕ) (ms : List ℕ) (w : List ℕ) → 0 < length ms → added k (n ∷ ms) w ≡ n ∷ added (suc k) ms w
unfolding added
added-front k n [] w h = absurd (omega arith)
added-front k n (m ∷ ms) w h = refl

added-some : (k : ℕ) (ns : List ℕ) (w : List ℕ) → 0 < length ns → 0 < length (added k ns w)
unfolding added
added-some k [] w h = absurd (omega arith)
added-some k (n ∷ []) w h = go (is_field k n w)
  where
    go : (b : Bool) → 0 < length (cond b (suc n ∷ []) (n ∷ cond (is_field (suc k) 0 w) (1 ∷ []) []))
    go true = omega arith
    go false = omega arith
added-some k (n ∷ m ∷ ns) w h = omega arith

add_left : (n a b : ℕ) → eqb (n + a) (n + b) ≡ eqb a b
add_left n a b = go (eqb a b) refl
  where
    go : (c : Bool) → eqb a b ≡ c → eqb (n + a) (n + b) ≡ c
    go true e = let q = eqb-true a b e in eq-eqb (n + a) (n + b) (omega arith)
    go false e = let q = eqb-false a b e in ne_eqb (n + a) (n + b) (λ p. q (omega arith))

grow-front : (k n : ℕ) (ms : List ℕ) (ws : List (List ℕ)) → 0 < length ms → grow k (n ∷ ms) ws ≡ n ∷ grow (suc k) ms ws
unfolding grow total
grow-front k n ms [] h = refl
grow-front k n ms (w ∷ ws) h =
    rw (added-front k n ms w h, add_left n (total (added (suc k) ms w)) (total ms))
    (go (eqb (total (added (suc k) ms w)) (total ms)) (grow-front k n (added (suc k) ms w) ws (added-some (suc k) ms w h)))
  where
    go : (b : Bool) → grow k (n ∷ added (suc k) ms w) ws ≡ n ∷ grow (suc k) (added (suc k) ms w) ws
        → cond b (n ∷ ms) (grow k (n ∷ added (suc k) ms w) ws) ≡ n ∷ cond b ms (grow (suc k) (added (suc k) ms w) ws)
    go true i = refl
    go false i = i

grow-from : (k n : ℕ) (ws : List (List ℕ)) → grow k (n ∷ []) ws ≡ sizes_from k n ws
unfolding grow added sizes_from total
grow-from k n [] = refl
grow-from k n (w ∷ ws) = go (is_field k n w) (is_field (suc k) 0 w) (grow-from k (suc n) ws) (grow-from (suc k) 1 ws)
  where
    go : (a b : Bool) → grow k (suc n ∷ []) ws ≡ sizes_from k (suc n) ws → grow (suc k) (1 ∷ []) ws ≡ sizes_from (suc k) 1 ws
        → cond (eqb (total (cond a (suc n ∷ []) (n ∷ cond b (1 ∷ []) []))) (n + 0)) (n ∷ []) (grow k (cond a (suc n ∷ []) (n ∷ cond b (1 ∷ []) [])) ws)
        ≡ cond a (sizes_from k (suc n) ws) (cond b (n ∷ sizes_from (suc k) 1 ws) (n ∷ []))
    go true b i j = rw (ne_eqb (suc n + 0) (n + 0) (λ p. absurd (omega arith))) i
    go false true i j = rw (ne_eqb (n + (1 + 0)) (n + 0) (λ p. absurd (omega arith))) (grow-front k n (1 ∷ []) ws (omega arith) ∙ ap (λ (ms : List ℕ). n ∷ ms) j)
    go false false i j = rw (eq-eqb (n + 0) (n + 0) refl) refl

grow-start : (ws : List (List ℕ)) → block_sizes ws ≡ grow 0 [] ws
unfolding grow added block_sizes total
grow-start [] = refl
grow-start (w ∷ ws) = go (is_field 0 0 w)
  where
    go : (b : Bool) → cond b (sizes_from 0 1 ws) [] ≡ cond (eqb (total (cond b (1 ∷ []) [])) 0) [] (grow 0 (cond b (1 ∷ []) []) ws)
    go true = sym (grow-from 0 1 ws)
    go false = refl

-- the names ws, of which k were read: the next, x, adds nothing, it adds something, or there is none

pub grow-stop : (ns : List ℕ) (ws : List (List ℕ)) (k : ℕ) (x : List ℕ) → k < length ws → x ≡ get_or ws k x → total (added 0 ns x) ≡ total ns → grow 0 ns (drop k ws) ≡ ns
unfolding grow
grow-stop ns ws k x h is e =
    let q : total (added 0 ns (get_or ws k x)) ≡ total ns = ap (λ w. total (added 0 ns w)) (sym is) ∙ e in
    rw (drop-cons ws k x h, eq-eqb (total (added 0 ns (get_or ws k x))) (total ns) q) refl

pub grow-next : (ns ms : List ℕ) (ws : List (List ℕ)) (k j : ℕ) (x : List ℕ) → j ≡ k + 1 → k < length ws → x ≡ get_or ws k x → ms ≡ added 0 ns x → (total ms ≡ total ns → ⊥)
    → grow 0 ns (drop k ws) ≡ grow 0 ms (drop j ws)
unfolding grow
grow-next ns ms ws k j x next h is a e =
    let q : added 0 ns (get_or ws k x) ≡ ms = ap (added 0 ns) (sym is) ∙ sym a in
    rw (next, add-one k, drop-cons ws k x h, q, ne_eqb (total ms) (total ns) e) refl

pub grow-end : (ns : List ℕ) (ws : List (List ℕ)) (k : ℕ) → length ws ≤ k → grow 0 ns (drop k ws) ≡ ns
unfolding grow
grow-end ns ws k h = rw (drop_of_length-le ws h) refl

pub some-names : (l : List ℕ) → equals l (bytes "-") ≡ false → block_sizes (list l) ≡ grow 0 [] (line_words l)
unfolding list
some-names l e = rw e (grow-start (line_words l))

-- ---- name by name, in an array

-- whether w names the next field of the last block
unfoldable pub continues : ℕ → List ℕ → List ℕ → Bool
continues k [] w = false
continues k (n ∷ []) w = is_field k n w
continues k (n ∷ m ∷ ns) w = continues (suc k) (m ∷ ns) w

continues-front : (k n : ℕ) (ms : List ℕ) (w : List ℕ) → 0 < length ms → continues k (n ∷ ms) w ≡ continues (suc k) ms w
unfolding continues
continues-front k n [] w h = absurd (omega arith)
continues-front k n (m ∷ ms) w h = refl

end-some : (ds : List ℕ) (n : ℕ) → 0 < length (ds ++ (n ∷ []))
end-some [] n = omega arith
end-some (d ∷ ds) n = omega arith

continues-end : (k : ℕ) (ds : List ℕ) (n : ℕ) (w : List ℕ) → continues k (ds ++ (n ∷ [])) w ≡ is_field (k + length ds) n w
unfolding continues
continues-end k [] n w = ap (λ (j : ℕ). is_field j n w) (omega arith)
continues-end k (d ∷ ds) n w =
    continues-front k d (ds ++ (n ∷ [])) w (end-some ds n) ∙ continues-end (suc k) ds n w ∙ ap (λ (j : ℕ). is_field j n w) (omega arith)

added-end : (k : ℕ) (ds : List ℕ) (n : ℕ) (w : List ℕ) → is_field (k + length ds) n w ≡ true → added k (ds ++ (n ∷ [])) w ≡ ds ++ (suc n ∷ [])
unfolding added
added-end k [] n w e = let q : is_field k n w ≡ true = ap (λ (j : ℕ). is_field j n w) (omega arith) ∙ e in rw q refl
added-end k (d ∷ ds) n w e =
    added-front k d (ds ++ (n ∷ [])) w (end-some ds n)
    ∙ ap (λ (ms : List ℕ). d ∷ ms) (added-end (suc k) ds n w (ap (λ (j : ℕ). is_field j n w) (omega arith) ∙ e))

added-open : (k : ℕ) (ns : List ℕ) (w : List ℕ) → continues k ns w ≡ false → is_field (k + length ns) 0 w ≡ true → added k ns w ≡ ns ++ (1 ∷ [])
unfolding added continues
added-open k [] w a e = let q : is_field k 0 w ≡ true = ap (λ (j : ℕ). is_field j 0 w) (omega arith) ∙ e in rw q refl
added-open k (n ∷ []) w a e = let q : is_field (suc k) 0 w ≡ true = ap (λ (j : ℕ). is_field j 0 w) (omega arith) ∙ e in rw (a, q) refl
added-open k (n ∷ m ∷ ns) w a e =
    ap (λ (ms : List ℕ). n ∷ ms) (added-open (suc k) (m ∷ ns) w a (ap (λ (j : ℕ). is_field j 0 w) (omega arith) ∙ e))

added_none : (k : ℕ) (ns : List ℕ) (w : List ℕ) → continues k ns w ≡ false → is_field (k + length ns) 0 w ≡ false → added k ns w ≡ ns
unfolding added continues
added_none k [] w a e = let q : is_field k 0 w ≡ false = ap (λ (j : ℕ). is_field j 0 w) (omega arith) ∙ e in rw q refl
added_none k (n ∷ []) w a e = let q : is_field (suc k) 0 w ≡ false = ap (λ (j : ℕ). is_field j 0 w) (omega arith) ∙ e in rw (a, q) refl
added_none k (n ∷ m ∷ ns) w a e =
    ap (λ (ms : List ℕ). n ∷ ms) (added_none (suc k) (m ∷ ns) w a (ap (λ (j : ℕ). is_field j 0 w) (omega arith) ∙ e))

total-end : (ds : List ℕ) (n : ℕ) → total (ds ++ (n ∷ [])) ≡ total ds + n
unfolding total
total-end [] n = omega arith
total-end (d ∷ ds) n = let q = total-end ds n in omega arith

abbrev Small : List ℕ → Type 0
Small s = (k : ℕ) → get_or s k 0 ≤ 16

small-set : (s : List ℕ) (i v : ℕ) → Small s → v ≤ 16 → Small (set s i v)
small-set [] i v h l k = h k
small-set (x ∷ xs) zero v h l zero = l
small-set (x ∷ xs) zero v h l (suc k) = h (suc k)
small-set (x ∷ xs) (suc i) v h l zero = h zero
small-set (x ∷ xs) (suc i) v h l (suc k) = small-set xs i v (λ j. h (suc j)) l k

pub small-total : (n : ℕ) (s : List ℕ) → Small s → total (take n s) ≤ 16 * n
unfolding total
small-total zero s h = omega arith
small-total (suc n) [] h = omega arith
small-total (suc n) (x ∷ xs) h = let a : x ≤ 16 = h 0 in let q = small-total n xs (λ k. h (suc k)) in omega arith

-- the blocks hold their own sizes
abbrev pub Own : Blocks → Type 0
Own b = BlocksOf (take b.count b.sizes) b

pub own : {ns : List ℕ} {b : Blocks} → BlocksOf ns b → Own b
own h = record { few = h.few; sizes = refl; sum = h.sum ∙ ap total (sym h.sizes); small = h.small }

pub held : {ns ms : List ℕ} {b : Blocks} → BlocksOf ns b → ms ≡ ns → BlocksOf ms b
held h e = record { few = h.few; sizes = h.sizes ∙ sym e; sum = h.sum ∙ ap total (sym e); small = h.small }

pub own-total : (b : Blocks) → Own b → b.total ≤ 128
own-total b h = let a = h.sum in let f = h.few in let q = small-total b.count b.sizes h.small in omega arith

-- the last of the first n elements, read and set
last-read : (s : List ℕ) (n : ℕ) → 0 < n → n ≤ length s → take n s ≡ take (n - 1) s ++ (get_or s (n - 1) 0 ∷ [])
last-read s zero p h = absurd (omega arith)
last-read s (suc n) p h = let q : suc n - 1 ≡ n = omega arith in rw q (take-suc s n 0 (omega arith))

last_set : (s : List ℕ) (n v : ℕ) → 0 < n → n ≤ length s → take n (set s (n - 1) v) ≡ take (n - 1) s ++ (v ∷ [])
last_set s zero v p h = absurd (omega arith)
last_set s (suc n) v p h = let q : suc n - 1 ≡ n = omega arith in rw q (take-suc-set s n v (omega arith))

pub continues-none : (s w : List ℕ) (n : ℕ) → n ≤ 0 → continues 0 (take n s) w ≡ false
unfolding continues
continues-none s w zero h = refl
continues-none s w (suc n) h = absurd (omega arith)

pub continues-last : (s w : List ℕ) (n : ℕ) → 0 < n → n ≤ length s → continues 0 (take n s) w ≡ is_field (n - 1) (get_or s (n - 1) 0) w
continues-last s w n p h =
    let k = length-take-le (n - 1) s (omega arith) in
    ap (λ (ms : List ℕ). continues 0 ms w) (last-read s n p h)
    ∙ continues-end 0 (take (n - 1) s) (get_or s (n - 1) 0) w
    ∙ ap (λ (j : ℕ). is_field j (get_or s (n - 1) 0) w) (omega arith)

-- w names the next field of the last block
pub field-added : (b : Blocks) (w : List ℕ) → Own b → length b.sizes ≡ 8 → 0 < b.count → is_field (b.count - 1) (get_or b.sizes (b.count - 1) 0) w ≡ true
    → BlocksOf (added 0 (take b.count b.sizes) w) (record { sizes = set b.sizes (b.count - 1) (get_or b.sizes (b.count - 1) 0 + 1); count = b.count; total = b.total + 1 })
field-added b w h l p e =
    let n = b.count in
    let x = get_or b.sizes (n - 1) 0 in
    let d = take (n - 1) b.sizes in
    let f : n ≤ length b.sizes = omega (arith, h.few) in
    let k : length d ≡ n - 1 = length-take-le (n - 1) b.sizes (omega arith) in
    let r : take n b.sizes ≡ d ++ (x ∷ []) = last-read b.sizes n p f in
    let a : added 0 (take n b.sizes) w ≡ d ++ (suc x ∷ []) =
    ap (λ (ms : List ℕ). added 0 ms w) r ∙ added-end 0 d x w (ap (λ (j : ℕ). is_field j x w) (omega arith) ∙ e) in
    let t : total (take n b.sizes) ≡ total d + x = ap total r ∙ total-end d x in
    let u : total (added 0 (take n b.sizes) w) ≡ total d + suc x = ap total a ∙ total-end d (suc x) in
    let m : x < 16 = place-below (n - 1) x w e in
    let o : b.total ≡ total (take n b.sizes) = h.sum in
    record {
      few = h.few;
      sizes = last_set b.sizes n (x + 1) p f ∙ ap (λ (v : ℕ). d ++ (v ∷ [])) (add-one x) ∙ sym a;
      sum = omega arith;
      small = small-set b.sizes (n - 1) (x + 1) h.small (omega arith);
    }

-- w names the first field of the next block
pub block-added : (b : Blocks) (w : List ℕ) → Own b → length b.sizes ≡ 8 → continues 0 (take b.count b.sizes) w ≡ false → is_field b.count 0 w ≡ true
    → BlocksOf (added 0 (take b.count b.sizes) w) (record { sizes = set b.sizes b.count 1; count = b.count + 1; total = b.total + 1 })
block-added b w h l g e =
    let n = b.count in
    let f : n < 8 = block-below n 0 w e in
    let k : length (take n b.sizes) ≡ n = length-take-le n b.sizes (omega arith) in
    let a : added 0 (take n b.sizes) w ≡ take n b.sizes ++ (1 ∷ []) =
    added-open 0 (take n b.sizes) w g (ap (λ (j : ℕ). is_field j 0 w) (omega arith) ∙ e) in
    let u : total (added 0 (take n b.sizes) w) ≡ total (take n b.sizes) + 1 = ap total a ∙ total-end (take n b.sizes) 1 in
    let o : b.total ≡ total (take n b.sizes) = h.sum in
    record {
      few = omega arith;
      sizes = ap (λ (j : ℕ). take j (set b.sizes n 1)) (add-one n) ∙ take-suc-set b.sizes n 1 (omega arith) ∙ sym a;
      sum = omega arith;
      small = small-set b.sizes n 1 h.small (omega arith);
    }

-- w is out of sequence
pub none-added : (b : Blocks) (w : List ℕ) → Own b → length b.sizes ≡ 8 → continues 0 (take b.count b.sizes) w ≡ false → is_field b.count 0 w ≡ false
    → BlocksOf (added 0 (take b.count b.sizes) w) b
none-added b w h l g e =
    let n = b.count in
    let k : length (take n b.sizes) ≡ n = length-take-le n b.sizes (omega (arith, h.few)) in
    let a : added 0 (take n b.sizes) w ≡ take n b.sizes =
    added_none 0 (take n b.sizes) w g (ap (λ (j : ℕ). is_field j 0 w) (omega arith) ∙ e) in
    record { few = h.few; sizes = sym a; sum = h.sum ∙ ap total (sym a); small = h.small }

-- ---- no names

zeros-small : (s : List ℕ) → total s ≡ 0 → Small s
unfolding total
zeros-small [] e k = omega arith
zeros-small (x ∷ xs) e zero = omega arith
zeros-small (x ∷ xs) e (suc k) = zeros-small xs (omega arith) k

pub no_blocks : BlocksOf [] (record { sizes = 0 ∷ 0 ∷ 0 ∷ 0 ∷ 0 ∷ 0 ∷ 0 ∷ 0 ∷ []; count = 0; total = 0 })
unfolding total
no_blocks = record {
  few = omega arith;
  sizes = refl;
  sum = refl;
  small = zeros-small (0 ∷ 0 ∷ 0 ∷ 0 ∷ 0 ∷ 0 ∷ 0 ∷ 0 ∷ []) refl;
}

pub none_named : (l : List ℕ) → list l ≡ [] → BlocksOf (block_sizes (list l)) (record { sizes = 0 ∷ 0 ∷ 0 ∷ 0 ∷ 0 ∷ 0 ∷ 0 ∷ 0 ∷ []; count = 0; total = 0 })
unfolding block_sizes
none_named l e = held no_blocks (ap block_sizes e)
