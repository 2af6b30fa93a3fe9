-- The way back from the STOP of the largest sum is a costliest way, and the largest cycles are spent before each of its moves.
-- Assumes nothing.
use mathlib.Core.Path.{◌≡◌, refl, sym, ◌∙◌, ap, ap₂, subst}
use mathlib.Core.Bool.{Bool, true, false}
use mathlib.Core.Logic.{◌≢◌}
use mathlib.Core.List.{List, [], ◌∷◌, ◌++◌, map}
use Prim.Native.Nat.{ℕ, zero, suc, ◌+◌, ◌-◌, ◌≤◌, ◌<◌}
use native.Mathlib.Omega.{arith}
use lib.Dec.{eqb}
use lib.ListN.{length}
use borrow.Author.Tests.{eqb-true, eqb-false}
use Rattle.cells.specs.Try.{Try, stuck, done, ◌>>=◌}
use Rattle.cells.specs.Cells.{unknown}
use Rattle.machine.specs.Machine.{State, Price, Next, stops, Instruction, Code, fetch, jump, sum, execute, step}
use Rattle.machine.specs.Forward.{Forward}
use Rattle.machine.specs.Targets.{Closed}
use Rattle.machine.proofs.LeadLaws.{goes-there, opens-there}
use Rattle.machine.proofs.TargetLaws.{Onward, step-onward}
use Rattle.machine.proofs.FetchLaws.{stuck-not, from_first, fetch-below}
use Rattle.bound_theory.specs.Tree.{Report, accepted}
use Rattle.bound_theory.specs.Traces.{Move, move, Transition, goes_on, not_taken, taken, cost}
use Rattle.bound_theory.specs.Promises.{LargestOver}
use Rattle.merge_theory.specs.Merge.{Arrival, arrival, Slot, empty, unlike, held, slot, Table, end, span, merged}
use Rattle.merge_theory.specs.Ways.{table, Among, MergedPath, stop, go_on, Arrives, begins, follows}
use Rattle.merge_theory.specs.Promises.{Gathered}
use Rattle.merge_theory.proofs.Theorems.{table-gathered, merged-exact}
use Rattle.merge_way.specs.Way.{spent_in, spent_at, Goal, out, to, Kept, nothing, kept, origins, way_back, costliest_way}
use Rattle.merge_way.specs.HeldBeside.{point, lines_from}
use Rattle.merge_way.specs.Promises.{MergedTrace, here, further, Leaves, ends, leads, Before, itself, more, lower, Costliest}
use Rattle.merge_way.specs.HeldBeside.{line_at}
use Rattle.merge_way.specs.Promises as promises
use Rattle.merge_way.proofs.OriginLaws.{move_at, Has, Genuine, kept-sound, kept-first}

pub before-least : {x y : ℕ} {m n : Move} → Before x m y n → y ≤ x
before-least (itself e f) = omega arith
before-least (more l) = omega arith
before-least (lower e l) = omega arith
before-least (promises.taken e f g) = omega arith

module _ (c : Code) (forward : Forward c) (closed : Closed c) (start : State) where
  abbrev act : State → Try Next
  act = step c unknown

  abbrev came : Table
  came = table c start

  gathered : Gathered c start came
  gathered = table-gathered c forward closed start

  onward : (a : ℕ) (s : State) {t : State} {m : Move} → Transition act (jump a s) m t → Onward a (end c) t
  unfolding jump
  onward a s (goes_on e) = goes-there (step-onward c forward closed unknown (jump a s) _ e)
  onward a s (not_taken e) = (opens-there (step-onward c forward closed unknown (jump a s) _ e)).0
  onward a s (taken e) = (opens-there (step-onward c forward closed unknown (jump a s) _ e)).1

  -- a step is made from an address of the code
  inside : (a : ℕ) (s : State) (n : Next) → act (jump a s) ≡ done n → (c.first ≤ a) × (a < end c)
  unfolding step jump ◌>>=◌
  inside a s n e = go (fetch c a) refl e
    where
      go : (k : Try Instruction) → fetch c a ≡ k → (k >>= λ i. execute unknown i (jump a s)) ≡ done n → (c.first ≤ a) × (a < end c)
      go stuck f e = stuck-not n e
      go (done i) f e = ((from_first c a i f).0, fetch-below c a i f)

  -- ---- what comes to an address

  among-range : (k a : ℕ) (x : Arrival) → a < k → Among x (came a) → (start.at ≤ a) × (a < start.at + span c start)
  among-range zero a x l h = absurd (omega arith)
  among-range (suc k) a x l h = go ((gathered.comes a x).0 h) (among-range k)
    where
      go : (x.state.at ≡ a) × Arrives act came start x → ((b : ℕ) (y : Arrival) → b < k → Among y (came b) → (start.at ≤ b) × (b < start.at + span c start)) → (start.at ≤ a) × (a < start.at + span c start)
      go (e, begins f) ih = let i = ap (λ (y : Arrival). y.state.at) f in omega arith
      go (e, follows b {s = u} {t} f w g) ih =
          let o = onward b u w in
          let i = ap (λ (y : Arrival). y.state.at) g in
          let (y, j, r) = (gathered.merges b _ _ f).cycles in
          let (lo, hi) = ih b y (omega (arith, o)) j in
          omega (arith, o)

  held-range : (a : ℕ) {s : State} {p : Price} → slot (came a) ≡ held s p → (start.at ≤ a) × (a < start.at + span c start)
  held-range a e = let (x, h, k) = (gathered.merges a _ _ e).cycles in among-range (suc a) a x (omega arith) h

  way-comes : (a : ℕ) (s : State) {t : State} {p : Price} {m : Move} → slot (came a) ≡ held s p → Transition act (jump a s) m t → Among (arrival t (sum p m.price)) (came t.at)
  way-comes a s {t} e w = (gathered.comes t.at _).1 (refl, follows a e w refl)

  start-comes : Among (arrival start (record { cycles = 0; words = 0 })) (came start.at)
  start-comes = (gathered.comes start.at _).1 (refl, begins refl)

  pub held-spent : (a : ℕ) {s : State} {p : Price} → slot (came a) ≡ held s p → spent_at c start a ≡ p.cycles
  unfolding spent_at spent_in
  held-spent a e = ap spent_in e

  -- ---- what is kept

  leaves-range : {a : ℕ} {p : Price} {m : Move} {g : Goal} → Leaves act came a p m g → (start.at ≤ a) × (a < start.at + span c start)
  leaves-range {a} (ends e f) = held-range a e
  leaves-range {a} (leads e w) = held-range a e

  pub sound : (g : Goal) (x : ℕ) (m : Move) → origins c start g ≡ kept x m → Genuine act came g x m
  unfolding origins
  sound g x m e = kept-sound act came (span c start) start.at g x m e

  pub first : {a : ℕ} {p : Price} {m : Move} {g : Goal} → Leaves act came a p m g → Has (origins c start g) (p.cycles + m.price.cycles) m
  unfolding origins
  first {a} w = let (lo, hi) = leaves-range w in kept-first act came (span c start) start.at a lo hi w

  -- nothing for the address of the start
  leaves-up : {a b : ℕ} {p : Price} {m : Move} {g : Goal} → g ≡ to b → Leaves act came a p m g → a < b
  leaves-up h (ends e f) = let z : ◌≡◌ {A = ℕ} 0 1 = cc in absurd (omega arith)
  leaves-up {a} {b} h (leads {s} {t} e w) = let i : t.at ≡ b = cc in omega (arith, onward a s w)

  at_start : origins c start (to start.at) ≡ nothing
  at_start = go (origins c start (to start.at)) refl
    where
      go : (k : Kept) → origins c start (to start.at) ≡ k → k ≡ nothing
      go nothing e = refl
      go (kept x m) e = let (p, w, f) = sound _ x m e in absurd (omega (arith, leaves-up refl w, leaves-range w))

  -- the largest cycles for every other address that is reached
  record Led (b : ℕ) (total : ℕ) : Type 0 where
    move : Move
    keeps : origins c start (to b) ≡ kept total move
    address : ℕ
    is : move.state.at ≡ address
    from : State
    spent : Price
    comes : slot (came address) ≡ held from spent
    state : State
    way : Transition act (jump address from) move state
    at : state.at ≡ b
    sums : total ≡ spent.cycles + move.price.cycles

  led : (b : ℕ) {s : State} {p : Price} → slot (came b) ≡ held s p → b ≢ start.at → Led b p.cycles
  led b {s} {p} e ne = let (x, h, r) = (gathered.merges b s p e).cycles in go x r ((gathered.comes b x).0 h)
    where
      -- no way to b costs more
      by_way : (a : ℕ) {g : Goal} (y : ℕ) (n : Move) (q : Price) → g ≡ to b → Leaves act came a q n g → p.cycles ≤ y → origins c start (to b) ≡ kept y n → y ≡ q.cycles + n.price.cycles → Led b p.cycles
      by_way a y n q i (ends f w) le k l = let z : ◌≡◌ {A = ℕ} 0 1 = cc in absurd (omega arith)
      by_way a y n q i (leads {s = u} {t} f w) le k l =
          let j : t.at ≡ b = cc in
          let most = ((gathered.merges b s p e).sums _ (subst (λ b. Among (arrival t (sum q n.price)) (came b)) j (way-comes a u f w))).cycles in
          let v : y ≡ p.cycles = omega arith in
          record { move = n; keeps = k ∙ ap (λ y. kept y n) v; address = a; is = move_at a u w; from = u; spent = q; comes = f; state = t; way = w; at = j; sums = sym v ∙ l }

      go : (x : Arrival) → x.spent.cycles ≡ p.cycles → (x.state.at ≡ b) × Arrives act came start x → Led b p.cycles
      go x r (i, begins f) = absurd (ne (sym i ∙ ap (λ (y : Arrival). y.state.at) f))
      go x r (i, follows a {t = t} f w g) =
          let j : t.at ≡ b = sym (ap (λ (y : Arrival). y.state.at) g) ∙ i in
          let (y, n, k, before) = first (leads f w) in
          let k' : origins c start (to b) ≡ kept y n = ap (λ b. origins c start (to b)) (sym j) ∙ k in
          let (q', w', l) = sound (to b) y n k' in
          let d = ap (λ (y : Arrival). y.spent.cycles) g in
          by_way n.state.at y n q' refl w' (omega (arith, before-least before)) k' l

  -- ---- the way back

  module _ (P : ℕ → List Move → Type 0)
      (longer : (a : ℕ) (s t u : State) (p r : Price) (m : Move) (ms : List Move) → slot (came a) ≡ held s p → Transition act (jump a s) m t → slot (came t.at) ≡ held u r → r.cycles ≡ p.cycles + m.price.cycles → origins c start (to t.at) ≡ kept r.cycles m → P t.at ms → P a (m ∷ ms)) where
    back : (k b : ℕ) (ms : List Move) (s : State) (p : Price) → slot (came b) ≡ held s p → b ≤ start.at + k → P b ms → P start.at (way_back (origins c start) k (origins c start (to b)) ms)
    unfolding way_back
    back zero b ms s p e le h = let (lo, hi) = held-range b e in let i : b ≡ start.at = omega arith in rw i at h
    back (suc k) b ms s p e le h = go (eqb b start.at) refl (back k)
      where
        go : (x : Bool) → eqb b start.at ≡ x → ((b : ℕ) (ms : List Move) (s : State) (p : Price) → slot (came b) ≡ held s p → b ≤ start.at + k → P b ms → P start.at (way_back (origins c start) k (origins c start (to b)) ms)) →
            P start.at (way_back (origins c start) (suc k) (origins c start (to b)) ms)
        go true x ih =
            let i = eqb-true b start.at x in
            let j : origins c start (to b) ≡ nothing = ap (λ b. origins c start (to b)) i ∙ at_start in
            rw j (subst (λ b. P b ms) i h)
        go false x ih =
            let l = led b e (eqb-false b start.at x) in
            let a = l.address in
            let o = onward a l.from l.way in
            let i = l.at in
            let up = longer a l.from l.state s l.spent p l.move ms l.comes l.way (ap (λ b. slot (came b)) i ∙ e) l.sums (ap (λ b. origins c start (to b)) i ∙ l.keeps) (subst (λ b. P b ms) (sym i) h) in
            rw l.keeps (subst (λ a. P start.at (way_back (origins c start) k (origins c start (to a)) (l.move ∷ ms))) (sym l.is) (ih a (l.move ∷ ms) l.from l.spent l.comes (omega (arith, o)) up))

  -- ---- the ways to an address

  no_more : (b : ℕ) {s : State} {p : Price} (x : Arrival) → slot (came b) ≡ held s p → Among x (came b) → x.spent.cycles ≤ p.cycles
  no_more b x e h = ((gathered.merges b _ _ e).sums x h).cycles

  trace-most : {a b : ℕ} {ls : List Move} {s : State} {p : Price} → MergedTrace act came a ls b → slot (came b) ≡ held s p → (x : Arrival) → Among x (came a) → x.spent.cycles + cost ls ≤ p.cycles
  unfolding cost
  trace-most {b = b} here e x h = omega (arith, no_more b x e h)
  trace-most (further {a} {s} f w r) e x h = omega (arith, no_more a x f h, trace-most r e _ (way-comes a s f w))

  start-spent : {s : State} {p : Price} → slot (came start.at) ≡ held s p → p.cycles ≡ 0
  start-spent {p = p} e = let (x, h, r) = (gathered.merges start.at _ _ e).cycles in go x r ((gathered.comes start.at x).0 h)
    where
      go : (x : Arrival) → x.spent.cycles ≡ p.cycles → (x.state.at ≡ start.at) × Arrives act came start x → p.cycles ≡ 0
      go x r (i, begins f) = sym r ∙ ap (λ (y : Arrival). y.spent.cycles) f
      go x r (i, follows a {s} f w g) =
          let (lo, hi) = held-range a f in
          let j = ap (λ (y : Arrival). y.state.at) g in
          absurd (omega (arith, onward a s w))

  start-free : spent_at c start start.at ≡ 0
  unfolding spent_at spent_in
  start-free = go (slot (came start.at)) refl
    where
      go : (i : Slot) → slot (came start.at) ≡ i → spent_in i ≡ 0
      go empty e = refl
      go unlike e = refl
      go (held s p) e = start-spent e

  -- the way back from an address, and what it costs
  record To (b a : ℕ) (ms : List Move) : Type 0 where
    trace : MergedTrace act came a ms b
    sums : spent_at c start a + cost ms ≡ spent_at c start b

  to-longer : (b a : ℕ) (s t u : State) (p r : Price) (m : Move) (ms : List Move) → slot (came a) ≡ held s p → Transition act (jump a s) m t → slot (came t.at) ≡ held u r → r.cycles ≡ p.cycles + m.price.cycles → origins c start (to t.at) ≡ kept r.cycles m → To b t.at ms → To b a (m ∷ ms)
  unfolding cost
  to-longer b a s t u p r m ms e w f h o k = record { trace = further e w k.trace; sums = omega (arith, held-spent a e, held-spent t.at f, k.sums) }

  to-self : (b : ℕ) → To b b []
  unfolding cost
  to-self b = record { trace = here; sums = omega arith }

  pub spent-largest : (b : ℕ) (s : State) (p : Price) → slot (came b) ≡ held s p → LargestOver (λ ms. MergedTrace act came start.at ms b) cost (spent_at c start b)
  spent-largest b s p e =
      let (lo, hi) = held-range b e in
      let k = back (To b) (to-longer b) (span c start) b [] s p e (omega arith) (to-self b) in
      record {
        witness = way_back (origins c start) (span c start) (origins c start (to b)) [];
        path = k.trace;
        attains = omega (arith, k.sums, start-free);
        most = λ ms r. omega (arith, held-spent b e, trace-most r e _ start-comes);
      }

  -- ---- the ways to a STOP

  -- a way on which every step goes from the largest cycles to the largest cycles, and ends in so many
  data Best (total : ℕ) : ℕ → List Move → Type 0 where
    last : {a : ℕ} {s : State} {p q : Price} → slot (came a) ≡ held s p → act (jump a s) ≡ done (stops q) → total ≡ p.cycles + q.cycles → origins c start out ≡ kept total (move (jump a s) q []) → Best total a (move (jump a s) q [] ∷ [])
    next : {a : ℕ} {s t u : State} {p r : Price} {m : Move} {ms : List Move} → slot (came a) ≡ held s p → Transition act (jump a s) m t → slot (came t.at) ≡ held u r → r.cycles ≡ p.cycles + m.price.cycles → origins c start (to t.at) ≡ kept r.cycles m → Best total t.at ms → Best total a (m ∷ ms)

  best-path : {x a : ℕ} {ms : List Move} → Best x a ms → MergedPath act came a ms
  best-path (last e f h o) = stop e f
  best-path (next e w f h o b) = go_on e w (best-path b)

  best-cost : {x a : ℕ} {ms : List Move} → Best x a ms → spent_at c start a + cost ms ≡ x
  unfolding cost
  best-cost (last {a} e f h o) = omega (arith, held-spent a e)
  best-cost (next {a} {t = t} e w f h o b) = omega (arith, held-spent a e, held-spent t.at f, best-cost b)

  -- its lines
  best-lines : {x a : ℕ} {ms : List Move} → Best x a ms → (y : ℕ) → y ≡ spent_at c start a → lines_from y ms ≡ map (λ m. line_at (spent_at c start) (point m)) ms
  unfolding lines_from point jump
  best-lines (last {a} {s} {q = q} e f h o) y i = rw i refl
  best-lines (next {a} {s} {t = t} {m = m} {ms = ms} e w f h o b) y i =
      let j : y ≡ spent_at c start m.state.at = i ∙ ap (spent_at c start) (sym (move_at a s w)) in
      ap₂ (λ y ls. record { at = m.state.at; before = y; decision = m.decision } ∷ ls) j (best-lines b (y + m.price.cycles) (omega (arith, held-spent a e, held-spent t.at f)))

  -- so far
  record SoFar (a : ℕ) (ls : List Move) (b : ℕ) : Type 0 where
    trace : MergedTrace act came a ls b
    sums : spent_at c start a + cost ls ≡ spent_at c start b
    state : State
    spent : Price
    reached : slot (came b) ≡ held state spent

  at_once : {a b : ℕ} {s : State} {p : Price} → slot (came a) ≡ held s p → b ≡ a → SoFar a [] b
  unfolding cost
  at_once {a} {b} {s} {p} e h = rw h (record { trace = here; sums = omega arith; state = s; spent = p; reached = e })

  best-sums : {x a : ℕ} {ms : List Move} → Best x a ms → (ls : List Move) (m : Move) (rs : List Move) → ms ≡ ls ++ (m ∷ rs) → SoFar a ls m.state.at
  unfolding cost jump
  best-sums (last {a} {s} {q = q} e f h o) [] m rs i = let j : move (jump a s) q [] ≡ m = cc in at_once e (ap (λ (m : Move). m.state.at) (sym j))
  best-sums (last e f h o) (l ∷ []) m rs i = let z : ◌≡◌ {A = ℕ} 0 1 = cc in absurd (omega arith)
  best-sums (last e f h o) (l ∷ (k ∷ ks)) m rs i = let z : ◌≡◌ {A = ℕ} 0 1 = cc in absurd (omega arith)
  best-sums (next {a} {s} {m = n} e w f h o b) [] m rs i = let j : n ≡ m = cc in at_once e (ap (λ (m : Move). m.state.at) (sym j) ∙ move_at a s w)
  best-sums (next {a} {t = t} {m = n} {ms = ms} e w f h o b) (l ∷ ls) m rs i =
      let j : n ≡ l = cc in
      let k : ms ≡ ls ++ (m ∷ rs) = cc in
      let v = best-sums b ls m rs k in
      let y = ap (λ (m : Move). m.price.cycles) j in
      record {
        trace = subst (λ l. MergedTrace act came a (l ∷ ls) m.state.at) j (further e w v.trace);
        sums = omega (arith, held-spent a e, held-spent t.at f, v.sums);
        state = v.state;
        spent = v.spent;
        reached = v.reached;
      }

  head_at : {a : ℕ} {ms : List Move} → MergedPath act came a ms → (n : Move) (rs : List Move) → ms ≡ n ∷ rs → n.state.at ≡ a
  unfolding jump
  head_at (stop {a} {s} {q = q} e f) n rs i = let j : move (jump a s) q [] ≡ n = cc in ap (λ (m : Move). m.state.at) (sym j)
  head_at (go_on {a} {s} {m = m} e w r) n rs i = let j : m ≡ n = cc in ap (λ (m : Move). m.state.at) (sym j) ∙ move_at a s w

  -- each of its moves is kept, and so before every other

  same-before : {x y : ℕ} {m l n : Move} {k : Kept} {z : ℕ} → k ≡ kept x m → m ≡ n → Has k z l → x ≡ y → Before y n z l
  same-before {x} {y} {m} {l} {n} {z = z} e i (y', n', f, b) h =
      let j : y' ≡ y = cc in
      let k : n' ≡ n = cc in
      subst (λ y. Before y n z l) j (subst (λ n. Before y' n z l) k b)

  best-chosen : {x a : ℕ} {ms : List Move} → Best x a ms → (ls : List Move) (m n : Move) (rs : List Move) → ms ≡ ls ++ (m ∷ (n ∷ rs)) →
      (b : ℕ) (p : Price) (l : Move) → Leaves act came b p l (to n.state.at) → Before (spent_at c start n.state.at) m (p.cycles + l.price.cycles) l
  best-chosen (last e f h o) [] m n rs i b p l v = let z : ◌≡◌ {A = ℕ} 0 1 = cc in absurd (omega arith)
  best-chosen (last e f h o) (k ∷ []) m n rs i b p l v = let z : ◌≡◌ {A = ℕ} 0 1 = cc in absurd (omega arith)
  best-chosen (last e f h o) (k ∷ (k' ∷ ks)) m n rs i b p l v = let z : ◌≡◌ {A = ℕ} 0 1 = cc in absurd (omega arith)
  best-chosen (next {t = t} {m = m'} {ms = ms} e w f h o r) [] m n rs i b p l v =
      let j : m' ≡ m = cc in
      let k : ms ≡ n ∷ rs = cc in
      let u = head_at (best-path r) n rs k in
      let v' = subst (λ b. Has (origins c start (to b)) (p.cycles + l.price.cycles) l) u (first v) in
      same-before o j v' (sym (held-spent t.at f) ∙ ap (spent_at c start) (sym u))
  best-chosen (next {ms = ms} e w f h o r) (k ∷ ls) m n rs i b p l v = let j : ms ≡ ls ++ (m ∷ (n ∷ rs)) = cc in best-chosen r ls m n rs j b p l v

  best-ended : {x a : ℕ} {ms : List Move} → Best x a ms → (ls : List Move) (m : Move) → ms ≡ ls ++ (m ∷ []) → (b : ℕ) (p : Price) (l : Move) → Leaves act came b p l out → Before x m (p.cycles + l.price.cycles) l
  best-ended (last {a} {s} {q = q} e f h o) [] m i b p l v = let j : move (jump a s) q [] ≡ m = cc in same-before o j (first v) refl
  best-ended (last e f h o) (k ∷ []) m i b p l v = let z : ◌≡◌ {A = ℕ} 0 1 = cc in absurd (omega arith)
  best-ended (last e f h o) (k ∷ (k' ∷ ks)) m i b p l v = let z : ◌≡◌ {A = ℕ} 0 1 = cc in absurd (omega arith)
  best-ended (next {ms = ms} e w f h o r) [] m i b p l v = let j : ms ≡ [] = cc in absurd (never r j)
    where
      never : {x a : ℕ} {ms : List Move} → Best x a ms → ms ≡ [] → ⊥
      never (last e f h o) j = let z : ◌≡◌ {A = ℕ} 0 1 = cc in omega arith
      never (next e w f h o r) j = let z : ◌≡◌ {A = ℕ} 0 1 = cc in omega arith
  best-ended (next {ms = ms} e w f h o r) (k ∷ ls) m i b p l v = let j : ms ≡ ls ++ (m ∷ []) = cc in best-ended r ls m j b p l v

  -- the addresses rise

  pub path-rises : {a : ℕ} {ms : List Move} → MergedPath act came a ms → (ls : List Move) (m n : Move) (rs : List Move) → ms ≡ ls ++ (m ∷ (n ∷ rs)) → m.state.at < n.state.at
  path-rises (stop e f) [] m n rs i = let z : ◌≡◌ {A = ℕ} 0 1 = cc in absurd (omega arith)
  path-rises (stop e f) (l ∷ []) m n rs i = let z : ◌≡◌ {A = ℕ} 0 1 = cc in absurd (omega arith)
  path-rises (stop e f) (l ∷ (k ∷ ks)) m n rs i = let z : ◌≡◌ {A = ℕ} 0 1 = cc in absurd (omega arith)
  path-rises (go_on {a} {s} {m = m'} {ms = ms} e w r) [] m n rs i =
      let j : m' ≡ m = cc in
      let k : ms ≡ n ∷ rs = cc in
      omega (arith, ap (λ (m : Move). m.state.at) j, move_at a s w, head_at r n rs k, onward a s w)
  path-rises (go_on {ms = ms} e w r) (l ∷ ls) m n rs i = let k : ms ≡ ls ++ (m ∷ (n ∷ rs)) = cc in path-rises r ls m n rs k

  transition-inside : (a : ℕ) (s : State) {t : State} {m : Move} → Transition act (jump a s) m t → (c.first ≤ a) × (a < end c)
  transition-inside a s (goes_on e) = inside a s _ e
  transition-inside a s (not_taken e) = inside a s _ e
  transition-inside a s (taken e) = inside a s _ e

  pub path-lines : {a : ℕ} {ms : List Move} → MergedPath act came a ms → (c.first ≤ a) × (a + length ms ≤ end c)
  path-lines (stop {a} {s} e f) = let (lo, hi) = inside a s _ f in omega arith
  path-lines (go_on {a} {s} e w r) = let (lo, hi) = transition-inside a s w in let (l, h) = path-lines r in omega (arith, onward a s w)

  -- no way costs more than what is kept for STOP

  path-most : {a : ℕ} {ms : List Move} → MergedPath act came a ms → (x : Arrival) → Among x (came a) → (y : ℕ) × (n : Move) × (origins c start out ≡ kept y n) × (x.spent.cycles + cost ms ≤ y)
  unfolding cost
  path-most (stop {a} e f) x h = let (y, n, k, before) = first (ends e f) in (y, n, k, omega (arith, before-least before, no_more a x e h))
  path-most (go_on {a} {s} e w r) x h = let (y, n, k, le) = path-most r _ (way-comes a s e w) in (y, n, k, omega (arith, no_more a x e h))

  module _ (q : Report) (accepts : merged c start ≡ accepted q) where
    largest : LargestOver (MergedPath act came start.at) cost q.cycles
    largest = (merged-exact c forward closed start q accepts).cycles

    -- the way that is listed
    listed : (x : ℕ) × (q.cycles ≤ x) × Best x start.at (costliest_way c start)
    unfolding costliest_way way_back
    listed = let (y, n, k, le) = path-most largest.path _ start-comes in (y, omega (arith, largest.attains), go y n k (sound out y n k))
      where
        ended : (a : ℕ) {g : Goal} (y : ℕ) (n : Move) (p : Price) → g ≡ out → n.state.at ≡ a → Leaves act came a p n g → y ≡ p.cycles + n.price.cycles → origins c start out ≡ kept y n →
            Best y start.at (way_back (origins c start) (end c - start.at) (origins c start (to n.state.at)) (n ∷ []))
        ended a y n p i l (ends {s} e f) h k =
            let (lo, hi) = held-range a e in
            subst (λ b. Best y start.at (way_back (origins c start) (end c - start.at) (origins c start (to b)) (n ∷ []))) (sym l)
            (back (Best y) (λ a s t u p r m ms. next) (end c - start.at) a (n ∷ []) s p e (omega arith) (last e f h k))
        ended a y n p i l (leads e w) h k = let z : ◌≡◌ {A = ℕ} 0 1 = cc in absurd (omega arith)

        go : (y : ℕ) (n : Move) → origins c start out ≡ kept y n → Genuine act came out y n → Best y start.at (way_back (origins c start) (span c start) (origins c start out) [])
        go y n k (p, w, h) = rw k (ended n.state.at y n p refl refl w h k)

    pub costliest : Costliest c start q (costliest_way c start)
    costliest =
        let (x, le, best) = listed in
        let path = best-path best in
        let most = largest.most _ path in
        let same : x ≡ q.cycles = omega (arith, best-cost best, start-free) in
        record {
          path = path;
          attains = omega (arith, best-cost best, start-free);
          sums = λ ls m rs e. so_far ls m.state.at (best-sums best ls m rs e);
          rises = path-rises path;
          chosen = best-chosen best;
          ended = λ ls m e b p l v. subst (λ x. Before x m (p.cycles + l.price.cycles) l) same (best-ended best ls m e b p l v);
          lines = omega (arith, path-lines path);
        }
      where
        so_far : (ls : List Move) (b : ℕ) → SoFar start.at ls b → (cost ls ≡ spent_at c start b) × LargestOver (λ ks. MergedTrace act came start.at ks b) cost (cost ls)
        so_far ls b v =
            let e : cost ls ≡ spent_at c start b = omega (arith, v.sums, start-free) in
            (e, rw e (record { witness = ls; path = v.trace; attains = e; most = (spent-largest b v.state v.spent v.reached).most }))

    pub lines-found : lines_from 0 (costliest_way c start) ≡ map (λ m. line_at (spent_at c start) (point m)) (costliest_way c start)
    lines-found = let (x, le, best) = listed in best-lines best 0 (sym start-free)
