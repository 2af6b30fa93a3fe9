-- A number that the bound does not read: where the bound is accepted as the file has it, and also with a handle in the number's place, it
-- has the same CYCLES with any number there. Assumes nothing.
use Prim.Native.Nat.{ℕ, zero, suc, ◌+◌, ◌/◌, ◌%◌, max}
use mathlib.Core.Path.{◌≡◌, refl, ap, ap₂, ◌∙◌}
use mathlib.Core.Bool.{Bool, true, false, cond, not}
use mathlib.Core.List.{List, [], ◌∷◌}
use Rattle.std.specs.Prelude.{None as none}
use native.Mathlib.Omega.{arith}
use lib.IntN.{ℤ}
use lib.ListN.{get_or, set}
use borrow.Author.Tests.{eq-eqb}
use Rattle.numbers.specs.Numbers.{wrap, within, numbers}
use Rattle.cells.specs.Try.{Try, stuck, done, ◌>>=◌}
use Rattle.cells.specs.declared.Cell.{Cell}
use Rattle.cells.specs.Cells.{range, handle, unknown}
use Rattle.machine.specs.Lists.{nth}
use Rattle.machine.specs.Machine.{State, Code, Next, step, load, restack, reblock}
use Rattle.bound_theory.specs.Tree.{Tree, expand, tree, cycles, size, report, Report, Verdict, accepted, refused, verdict, explore, bound}
use Rattle.bound_theory.proofs.TreeLaws.{Complete, accepted-complete, complete-accepted}
use Rattle.nearest_changes.specs.declared.Position.{Position}
use Rattle.nearest_changes.specs.declared.Position.TheVariants.{Accu, Entry, Field}
use Rattle.nearest_changes.specs.Places.{cell_at, replace_at, position_of}
use Rattle.nearest_changes.specs.Changes.{number_at, change, change_to, applied, first}
use Rattle.nearest_changes.specs.Held.{shift, directed, trial_of}
use Rattle.nearest_changes.proofs.CellLaws.{never, number-cell}
use Rattle.nearest_search.specs.Search.{moved}
use Rattle.nearest_search.specs.Held.{Reported, no_block, read_by, is_read, first_moved}
use Rattle.nearest_search.proofs.Threefold.{alike, Together, first-stuck, second_stuck, all, Entries, cons, entries-self, Side, Stands, same-cell, swapped, Nexts, all-stop, all_go, all-open, step-law}

-- ---- three trees

-- every step of the tree u is made, as many and at the same cost as those of t
record Costs (t u : Tree) : Type 0 where
  complete : Complete u
  cost : cycles u ≡ cycles t
  count : size u ≡ size t

module _ {R : State → State → State → Type 0} where
  expand-law : (below : ℕ → State → Tree)
      (ih : (o : ℕ) (s t u : State) → R s t u → Complete (below o s) → Complete (below o t) → Costs (below o s) (below o u))
      (o : ℕ) (s t u : State) {l m n : Try Next} → Together (Nexts R) l m n →
      Complete (expand below o s l) → Complete (expand below o t m) → Costs (expand below o s l) (expand below o u n)
  unfolding expand cycles size
  expand-law below ih o a b c first-stuck w x = absurd w
  expand-law below ih o a b c second_stuck w x = absurd x
  expand-law below ih o a b c (all all-stop) w x = record { complete = tt; cost = refl; count = refl }
  expand-law below ih o a b c (all (all_go {p} {s} {t} {u} r)) w x =
      let k = ih o s t u r w x in
      record { complete = k.complete; cost = ap (λ i. p.cycles + i) k.cost; count = ap suc k.count }
  expand-law below ih zero a b c (all (all-open r r')) w x = absurd w
  expand-law below ih (suc o) a b c (all (all-open {p} {q} {s} {t} {u} {s'} {t'} {u'} r r')) w x =
      let k = ih o s t u r w.0 x.0 in
      let l = ih o s' t' u' r' w.1 x.1 in
      record {
        complete = (k.complete, l.complete);
        cost = ap₂ (λ i j. max (p.cycles + i) (q.cycles + j)) k.cost l.cost;
        count = ap₂ (λ i j. suc (i + j)) k.count l.count;
      }

  tree-law : (act : State → Try Next) (keeps : (s t u : State) → R s t u → Together (Nexts R) (act s) (act t) (act u))
      (f o : ℕ) (s t u : State) → R s t u → Complete (tree act f o s) → Complete (tree act f o t) → Costs (tree act f o s) (tree act f o u)
  unfolding tree
  tree-law act keeps zero o s t u r w x = absurd w
  tree-law act keeps (suc f) o s t u r w x = expand-law (tree act f) (λ o s t u r w x. tree-law act keeps f o s t u r w x) o s t u (keeps s t u r) w x

-- ---- the verdict

module _ (c : Code) (budget : ℕ) where
  same-cycles : (v : ℤ) (k : ℕ) (n : ℤ) (s t u : State) → Side (Stands v k n) s t u → (q r : Report) → bound c budget s ≡ accepted q → bound c budget t ≡ accepted r →
      moved q.cycles (bound c budget u) ≡ false
  unfolding bound explore verdict report moved
  same-cycles v k n s t u e q r h g =
      let act = step c unknown in
      let x = accepted-complete (tree act budget 32 s) budget _ q h in
      let y = accepted-complete (tree act budget 32 t) budget _ r g in
      let z = tree-law act (λ s t u e. step-law v k n c unknown e) budget 32 s t u e x.0 y.0 in
      rw (complete-accepted (tree act budget 32 u) budget (report (tree act budget 32 u)) z.complete (omega (arith, x.1, z.count)))
      (ap not (eq-eqb (cycles (tree act budget 32 u)) q.cycles (z.cost ∙ ap (λ (p : Report). p.cycles) x.2)))

-- ---- one cell replaced

module _ {A : Type 0} (Q : A → A → A → Type 0) (self : (a : A) → Q a a a) where
  set-entry : (i : ℕ) (xs : List A) (x y z : A) → nth i xs ≡ done x → Q x y z → Entries Q xs (set xs i y) (set xs i z)
  unfolding nth
  set-entry i [] x y z e q = never x e
  set-entry zero (a ∷ xs) x y z e q = let h : a ≡ x = cc in let r : Q a y z = rw h q in cons r (entries-self self xs)
  set-entry (suc i) (a ∷ xs) x y z e q = cons (self a) (set-entry i xs x y z e q)

-- a field, by its block
in_block : (j i : ℕ) (bs : List (List Cell)) (x : Cell) → (nth j bs >>= λ b. nth i b) ≡ done x → (nth j bs ≡ done (get_or bs j [])) × (nth i (get_or bs j []) ≡ done x)
unfolding nth ◌>>=◌
in_block j i [] x e = never x e
in_block zero i (b ∷ bs) x e = (refl, e)
in_block (suc j) i (b ∷ bs) x e = in_block j i bs x e

module _ (v : ℤ) (k : ℕ) (n : ℤ) (s : State) where
  abbrev S : Cell → Cell → Cell → Type 0
  S = Stands v k n

  cells : (xs : List Cell) → Entries S xs xs xs
  cells xs = entries-self (λ a. same-cell) xs

  pub replaced : (p : Position) → cell_at p s ≡ done (range v 0) → Side S s (replace_at p (handle k) s) (replace_at p (range n 0) s)
  unfolding cell_at replace_at load restack reblock
  replaced Accu e =
      let h : s.accu ≡ range v 0 = cc in
      record { at = alike; accu = rw h swapped; stack = cells s.stack; blocks = entries-self cells s.blocks }
  replaced (Entry i) e =
      record { at = alike; accu = same-cell; stack = set-entry S (λ a. same-cell) i s.stack (range v 0) (handle k) (range n 0) e swapped; blocks = entries-self cells s.blocks }
  replaced (Field j i) e =
      let h = in_block j i s.blocks (range v 0) e in
      record {
        at = alike;
        accu = same-cell;
        stack = cells s.stack;
        blocks = set-entry (Entries S) cells j s.blocks _ _ _ h.0 (set-entry S (λ a. same-cell) i (get_or s.blocks j []) (range v 0) (handle k) (range n 0) h.1 swapped);
      }

-- ---- a cell that is passed over

-- a bound that is not moved is accepted
unmoved : (n : ℕ) (v : Verdict) → moved n v ≡ false → (q : Report) × (v ≡ accepted q)
unfolding moved
unmoved n (accepted q) e = (q, refl)
unmoved n (refused r) e = let z : ◌≡◌ {A = ℕ} 0 1 = cc in absurd (omega arith)

module _ (c : Code) (budget n : ℕ) (s : State) (reported : Reported c budget n s) where
  -- where a handle in the place of a number does not move the bound, no number there does
  unread : (p : Position) (v m : ℤ) → number_at p s ≡ done v → moved n (bound c budget (replace_at p no_block s)) ≡ false →
      moved n (bound c budget (replace_at p (range m 0) s)) ≡ false
  unread p v m e h =
      let a = unmoved n (bound c budget (replace_at p no_block s)) h in
      let k = same-cycles c budget v 8 m s (replace_at p no_block s) (replace_at p (range m 0) s) (replaced v 8 m s p (number-cell p s v e)) reported.report a.0 reported.accepts a.1 in
      rw (← reported.figure) k

  -- its trials are passed over
  pub passed_over : (j : ℕ) → is_read c budget n s (position_of (j / 2 % 193)) ≡ false → none ≡ first_moved c budget n s (trial_of s j)
  unfolding is_read read_by trial_of directed first applied change_to
  passed_over j h = go (number_at p s) refl h
    where
      p : Position
      p = position_of (j / 2 % 193)

      inside : (v w : ℤ) → number_at p s ≡ done v → moved n (bound c budget (replace_at p no_block s)) ≡ false → (b : Bool) →
          none ≡ first_moved c budget n s (cond b (change p w ∷ []) [])
      inside v w e h true = rw (unread p v (wrap w) e h) refl
      inside v w e h false = refl

      go : (m : Try ℤ) → number_at p s ≡ m → read_by m (moved n (bound c budget (replace_at p no_block s))) ≡ false →
          none ≡ first_moved c budget n s (directed (j / 2 / 193 + 1) p m (j % 2))
      go stuck e h = refl
      go (done v) e h = inside v (shift (j % 2) (j / 2 / 193 + 1) v) e h (within numbers (shift (j % 2) (j / 2 / 193 + 1) v))
