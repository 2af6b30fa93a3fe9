-- The figures of a sweep are settled by the ways through the merged states, and its refusal is the lowest fault. Assumes nothing.
use mathlib.Core.Path.{◌≡◌, refl, sym, ◌∙◌, ap, subst}
use mathlib.Core.Bool.{Bool, true, false}
use mathlib.Core.Logic.{◌⊎◌, inl, inr, ◌↔◌}
use mathlib.Core.List.{List, [], ◌∷◌, map}
use Prim.Native.Nat.{ℕ, zero, suc, ◌+◌, ◌≤◌, ◌<◌}
use native.Mathlib.Omega.{arith}
use lib.Dec.{ltb}
use lib.ListN.{length}
use borrow.Author.Tests.{ltb-true, ltb-false}
use Rattle.refusals.specs.declared.Refusal.{Refusal}
use Rattle.cells.specs.Try.{Try, done}
use Rattle.machine.specs.Machine.{State, Price, Next, stops, goes, opens, height, jump, sum}
use Rattle.machine.proofs.LeadLaws.{Leads, goes-there, opens-there}
use Rattle.machine.proofs.TargetLaws.{Onward}
use Rattle.machine.proofs.SizeLaws.{Sized}
use Rattle.bound_theory.specs.Tree.{Report, Verdict, accepted, refused}
use Rattle.bound_theory.specs.Traces.{Move, move, Transition, goes_on, not_taken, taken}
use Rattle.bound_theory.specs.Promises.{NoGreater, LargestOver}
use Rattle.merge_theory.specs.Merge.{Arrival, arrival, Slot, empty, unlike, held, slot, Table, nowhere, join, reach, finish, sweep, only, none}
use Rattle.merge_theory.specs.Ways.{fill, Among, Under, NoMore, Together, Unlike, MergedPath, stop, go_on, Arrives, begins, follows, Fault, FirstFault, LargestMerged, count}
use Rattle.merge_theory.specs.Ways as ways
use Rattle.merge_theory.proofs.FillLaws.{assess, arrive-own, arrive-has, New, itself, former, arrive-new, From, from, fill-keeps, fill_start, fill-has, Source, before, by_way, fill-from, swept}
use Rattle.merge_theory.proofs.SlotLaws.{Summary, of_none, of-unlike, of-held, nobody, summary, slot_held, slot-unlike, parted-unlike, unlike-parted}
use Rattle.merge_theory.proofs.MergeLaws.{under-sizes}
use Rattle.merge_theory.proofs.AssessLaws.{free, Measure, Fine, unreached, carried, fine, AtStop, at-stop, stopped, AtHeight, at-height, deepest, counted, pathless, Bad, no_meeting, is_stuck, bad-unique, fine-good, lowest}

pub only-slot : (s : State) → slot (only s s.at) ≡ held s free
unfolding only nowhere slot join
only-slot s = ap slot (arrive-own (arrival s free) nowhere)

-- a sweep from a state on, which goes through so many addresses, up to the top; no way leads down, to its own address or over the top
pub record Pass (act : State → Try Next) : Type 0 where
  pub start : State
  pub many : ℕ
  pub top : ℕ
  pub inside : start.at ≤ top
  pub last : start.at + many ≡ suc top
  pub rising : (s : State) (n : Next) → act s ≡ done n → Leads (Onward s.at top) n
  -- and blocks keep their sizes
  pub sized : (ns : List ℕ) (s : State) (n : Next) → act s ≡ done n → Sized ns s → Leads (Sized ns) n

module _ (act : State → Try Next) (pass : Pass act) where
  abbrev pub start : State
  start = pass.start

  abbrev pub n : ℕ
  n = pass.many

  abbrev z : ℕ
  z = pass.top

  rising : (s : State) (n : Next) → act s ≡ done n → Leads (Onward s.at z) n
  rising = pass.rising

  unfoldable pub came : Table
  came = fill act n start.at (only start)

  transition-onward : (a : ℕ) (s : State) {t : State} {m : Move} → Transition act (jump a s) m t → Onward a z t
  unfolding jump
  transition-onward a s (goes_on e) = goes-there (rising (jump a s) _ e)
  transition-onward a s (not_taken e) = (opens-there (rising (jump a s) _ e)).0
  transition-onward a s (taken e) = (opens-there (rising (jump a s) _ e)).1

  -- ---- what comes to an address

  -- it is the start, or a way from a lower address leads to it
  data Origin (b : ℕ) (x : Arrival) : Type 0 where
    is-start : x ≡ arrival start free → b ≡ start.at → Origin b x
    on-way : (a : ℕ) {s t : State} {p : Price} {m : Move} → start.at ≤ a → a < b → b ≤ z → slot (came a) ≡ held s p → Transition act (jump a s) m t → x ≡ arrival t (sum p m.price) → b ≡ t.at → Origin b x

  only-start : (b : ℕ) (x : Arrival) → Among x (only start b) → Origin b x
  unfolding only nowhere
  only-start b x h = go (arrive-new (arrival start free) nowhere b x h)
    where
      go : New x (arrival start free) b nowhere → Origin b x
      go (itself e f) = is-start e f
      go (former k) = absurd (nobody refl k)

  origin : (b : ℕ) (x : Arrival) → Among x (came b) → Origin b x
  unfolding came
  origin b x h = go (fill-from act z rising n start.at (only start) b x h)
    where
      way : (a : ℕ) {i : Slot} → start.at ≤ a → slot (came a) ≡ i → From act a i b x → Origin b x
      way a lo e (from {s} f w g k) = let o = transition-onward a s w in on-way a lo (omega (arith, o)) (omega (arith, o)) (e ∙ f) w g k

      go : Source act z rising n start.at (only start) b x → Origin b x
      go (before k) = only-start b x k
      go (by_way a lo hi f) = way a lo refl f

  among-range : (b : ℕ) {x : Arrival} → Among x (came b) → (start.at ≤ b) × (b ≤ z)
  among-range b {x} h = go (origin b x h)
    where
      go : Origin b x → (start.at ≤ b) × (b ≤ z)
      go (is-start e f) = omega arith
      go (on-way a lo k hi e w f g) = omega arith

  pub together : (b : ℕ) {s : State} {p : Price} → slot (came b) ≡ held s p → Together (came b) s p
  together b e = slot_held (summary (came b)) e

  held-range : (b : ℕ) {s : State} {p : Price} → slot (came b) ≡ held s p → (start.at ≤ b) × (b ≤ z)
  held-range b e = let (x, h, k) = (together b e).cycles in among-range b h

  start-comes : Among (arrival start free) (came start.at)
  unfolding came only
  start-comes = fill-keeps act n start.at _ start.at _ (arrive-has (arrival start free) nowhere)

  pub way-comes : (b : ℕ) (s : State) {t : State} {p : Price} {m : Move} → slot (came b) ≡ held s p → Transition act (jump b s) m t → Among (arrival t (sum p m.price)) (came t.at)
  unfolding came
  way-comes b s {p = p} e w = let (lo, hi) = held-range b e in fill-has act z rising n start.at (only start) b s p lo (omega arith) e w

  pub comes-where : (b : ℕ) (x : Arrival) → Among x (came b) ↔ ((x.state.at ≡ b) × Arrives act came start x)
  comes-where b x = (λ h. out (origin b x h), λ (e, k). subst (λ b. Among x (came b)) e (in_table k))
    where
      out : Origin b x → (x.state.at ≡ b) × Arrives act came start x
      out (is-start e f) = (ap (λ (y : Arrival). y.state.at) e ∙ sym f, begins e)
      out (on-way a lo k hi e w f g) = (ap (λ (y : Arrival). y.state.at) f ∙ sym g, follows a e w f)

      in_table : Arrives act came start x → Among x (came x.state.at)
      in_table (begins e) = subst (λ (y : Arrival). Among y (came y.state.at)) (sym e) start-comes
      in_table (follows a {s} e w f) = subst (λ (y : Arrival). Among y (came y.state.at)) (sym f) (way-comes a s e w)

  pub nothing-where : (b : ℕ) → (slot (came b) ≡ empty) ↔ (came b ≡ [])
  unfolding slot
  nothing-where b = (λ e. out (summary (came b)) e, λ e. ap slot e)
    where
      out : {i : Slot} → Summary (came b) i → i ≡ empty → came b ≡ []
      out (of_none h) e = h
      out (of-unlike x y u) e = let z : ◌≡◌ {A = ℕ} 0 1 = cc in absurd (omega arith)
      out (of-held h) e = let z : ◌≡◌ {A = ℕ} 0 1 = cc in absurd (omega arith)

  -- every state that comes has blocks of the start's sizes
  transition-sized : (ns : List ℕ) (s : State) {t : State} {m : Move} → Transition act s m t → Sized ns s → Sized ns t
  transition-sized ns s (goes_on e) h = goes-there (pass.sized ns s _ e h)
  transition-sized ns s (not_taken e) h = (opens-there (pass.sized ns s _ e h)).0
  transition-sized ns s (taken e) h = (opens-there (pass.sized ns s _ e h)).1

  sized : (k b : ℕ) (x : Arrival) → b < k → Among x (came b) → Sized (map length start.blocks) x.state
  unfolding jump
  sized zero b x l h = absurd (omega arith)
  sized (suc k) b x l h = go (origin b x h) (sized k)
    where
      merged-sized : (a : ℕ) {s t : State} → Under t s → Sized (map length start.blocks) t → Sized (map length start.blocks) (jump a s)
      merged-sized a u i = record { sizes = sym (under-sizes u) ∙ i.sizes }

      go : Origin b x → ((b : ℕ) (x : Arrival) → b < k → Among x (came b) → Sized (map length start.blocks) x.state) → Sized (map length start.blocks) x.state
      go (is-start e f) ih = rw e (record { sizes = refl })
      go (on-way a {s} lo lt hi e w f g) ih =
          let (y, j, r) = (together a e).cycles in
          let i = ih a y (omega arith) j in
          rw f (transition-sized _ (jump a s) w (merged-sized a ((together a e).covers y j) i))

  -- nothing but the start comes to its address
  pub start-slot : slot (came start.at) ≡ held start free
  unfolding came
  start-slot = ap slot (fill_start act z rising n start.at (only start)) ∙ only-slot start

  -- ---- the refusal

  fault-bad : {a : ℕ} {x : Refusal} → Fault act came a x → Bad act came a x (slot (came a))
  fault-bad {a} (ways.no_meeting {x} {y} h k u) = rw (slot-unlike (summary (came a)) h k (unlike-parted x.state y.state u)) no_meeting
  fault-bad (ways.is_stuck e f) = rw e (is_stuck f)

  -- there is no merged state where two are unlike, and only there
  pub parts-where : (b : ℕ) → (slot (came b) ≡ unlike) ↔ ((x : Arrival) × (y : Arrival) × Among x (came b) × Among y (came b) × Unlike x.state y.state)
  parts-where b = (out (summary (came b)), λ (x, y, h, k, u). slot-unlike (summary (came b)) h k (unlike-parted x.state y.state u))
    where
      out : {i : Slot} → Summary (came b) i → i ≡ unlike → (x : Arrival) × (y : Arrival) × Among x (came b) × Among y (came b) × Unlike x.state y.state
      out (of_none h) f = let z : ◌≡◌ {A = ℕ} 0 1 = cc in absurd (omega arith)
      out (of-unlike {x} {y} h k u) f =
          (x, y, h, k, parted-unlike x.state y.state ((sized (suc b) b x (omega arith) h).sizes ∙ sym (sized (suc b) b y (omega arith) k).sizes) u)
      out (of-held h) f = let z : ◌≡◌ {A = ℕ} 0 1 = cc in absurd (omega arith)

  bad-fault : {a : ℕ} {x : Refusal} {i : Slot} → slot (came a) ≡ i → Bad act came a x i → Fault act came a x
  bad-fault {a} e no_meeting = let (x, y, h, k, u) = (parts-where a).0 e in ways.no_meeting h k u
  bad-fault e (is_stuck f) = ways.is_stuck e f

  fault-range : {a : ℕ} {x : Refusal} → Fault act came a x → (start.at ≤ a) × (a ≤ z)
  fault-range {a} (ways.no_meeting x y u) = among-range a x
  fault-range {a} (ways.is_stuck e f) = held-range a e

  assessed : sweep act n start.at (only start) none ≡ assess act came n start.at none
  unfolding came
  assessed = swept act z rising n start.at (only start) none

  -- where it is accepted there is no fault
  pub no-fault : (q : Report) → sweep act n start.at (only start) none ≡ accepted q → (a : ℕ) (x : Refusal) → Fault act came a x → ⊥
  no-fault q e a x f =
      let (lo, hi) = fault-range f in
      fine-good act came (fine act came n start.at none q (sym assessed ∙ e) a lo (omega arith)) x (fault-bad f)

  pub first-fault : (x : Refusal) → sweep act n start.at (only start) none ≡ refused x → FirstFault act came x
  first-fault x e =
      let l = lowest act came n start.at none x (sym assessed ∙ e) in
      record {
        address = l.address;
        fault = bad-fault refl l.bad;
        lower = λ b y h f. l.good b (fault-range f).0 h y (fault-bad f);
      }

  pub fault-refused : (x : Refusal) → FirstFault act came x → sweep act n start.at (only start) none ≡ refused x
  fault-refused x f = go (sweep act n start.at (only start) none) refl
    where
      same : (y : Refusal) → FirstFault act came y → y ≡ x
      same y g = by (ltb g.address f.address) refl (ltb f.address g.address) refl
        where
          by : (s : Bool) → ltb g.address f.address ≡ s → (t : Bool) → ltb f.address g.address ≡ t → y ≡ x
          by true h t k = absurd (f.lower g.address y (ltb-true _ _ h) g.fault)
          by false h true k = absurd (g.lower f.address x (ltb-true _ _ k) f.fault)
          by false h false k =
              let l = ltb-false g.address f.address h in
              let m = ltb-false f.address g.address k in
              let e : g.address ≡ f.address = omega arith in
              bad-unique act came (fault-bad (rw e at g.fault)) (fault-bad f.fault)

      go : (v : Verdict) → sweep act n start.at (only start) none ≡ v → v ≡ refused x
      go (accepted q) e = absurd (no-fault q e f.address x f.fault)
      go (refused y) e = ap refused (same y (first-fault y e))

  pub faultless : ((a : ℕ) (x : Refusal) → Fault act came a x → ⊥) → (q : Report) × (sweep act n start.at (only start) none ≡ accepted q)
  faultless h = go (sweep act n start.at (only start) none) refl
    where
      go : (v : Verdict) → sweep act n start.at (only start) none ≡ v → (q : Report) × (v ≡ accepted q)
      go (accepted q) e = (q, refl)
      go (refused x) e = let f = first-fault x e in absurd (h f.address x f.fault)

  -- ---- the figures

  module _ (q : Report) (accepts : sweep act n start.at (only start) none ≡ accepted q) where
    weighed : assess act came n start.at none ≡ accepted q
    weighed = sym assessed ∙ accepts

    -- an address that something comes to makes its step
    data Made (b : ℕ) (x : Arrival) : Type 0 where
      makes : {s : State} {p : Price} (k : Next) → slot (came b) ≡ held s p → NoMore x.spent p → act (jump b s) ≡ done k → NoGreater (finish p k (reach s none)) q → Made b x

    made : (b : ℕ) (x : Arrival) → Among x (came b) → Made b x
    made b x h = let (lo, hi) = among-range b h in go (slot (came b)) refl (fine act came n start.at none q weighed b lo (omega arith))
      where
        vacant : {i : Slot} → Summary (came b) i → i ≡ empty → ⊥
        vacant (of_none e) f = nobody e h
        vacant (of-unlike y w u) f = let z : ◌≡◌ {A = ℕ} 0 1 = cc in omega arith
        vacant (of-held k) f = let z : ◌≡◌ {A = ℕ} 0 1 = cc in omega arith

        go : (i : Slot) → slot (came b) ≡ i → Fine act came q b i → Made b x
        go empty e unreached = absurd (vacant (summary (came b)) e)
        go unlike e x3 = elim x3 [ ]
        go (held s p) e (carried k f g) = makes k e ((together b e).sums x h) f g

    pub held-made : (b : ℕ) (s : State) {p : Price} → slot (came b) ≡ held s p → (k : Next) × (act (jump b s) ≡ done k) × NoGreater (finish p k (reach s none)) q
    held-made b s {p} e = let (x, h, f) = (together b e).cycles in go (made b x h)
      where
        go : {x : Arrival} → Made b x → (k : Next) × (act (jump b s) ≡ done k) × NoGreater (finish p k (reach s none)) q
        go (makes {s = t} {p = r} k f l g u) =
            let i : t ≡ s = cc in
            let j : r ≡ p = cc in
            (k, rw i at g, subst (λ r. NoGreater (finish r k (reach s none)) q) j (subst (λ t. NoGreater (finish r k (reach t none)) q) i u))

    -- DEPTH
    no-higher : (b : ℕ) {s : State} {p : Price} → slot (came b) ≡ held s p → height s ≤ q.depth
    unfolding finish reach
    no-higher b {s = s} {p = p} e = let (k, f, g) = held-made b s e in go k g
      where
        go : (k : Next) → NoGreater (finish p k (reach s none)) q → height s ≤ q.depth
        go (stops y) g = omega (arith, g)
        go (goes y t) g = omega (arith, g)
        go (opens y t y' u) g = omega (arith, g)

    start-held : (s : State) × (p : Price) × (slot (came start.at) ≡ held s p)
    start-held = go (made start.at (arrival start free) start-comes)
      where
        go : Made start.at (arrival start free) → (s : State) × (p : Price) × (slot (came start.at) ≡ held s p)
        go (makes {s} {p} k e l f g) = (s, p, e)

    highest : AtHeight act came q.depth
    highest = go (deepest act came n start.at none q weighed)
      where
        go : (q.depth ≡ 0) ⊎ AtHeight act came q.depth → AtHeight act came q.depth
        go (inl e) = let (s, p, f) = start-held in let h = no-higher start.at f in at-height start.at f (omega arith)
        go (inr h) = h

    pub depth-exact : LargestMerged act came q.depth
    depth-exact = go highest
      where
        go : AtHeight act came q.depth → LargestMerged act came q.depth
        go (at-height b {s} {p} e h) = record { address = b; deepest = s; spent = p; merges = e; attains = h; most = λ a s p e. no-higher a e }

    -- STEPS, PATH
    pub steps-exact : count came n start.at ≡ q.steps
    steps-exact = omega (arith, counted act came n start.at none q weighed)

    pub path-exact : q.path ≡ []
    path-exact = pathless act came n start.at none q refl weighed

    -- the ways

    -- each merged state has a way to a STOP
    way_on : (k b : ℕ) (s : State) (p : Price) → z < b + k → slot (came b) ≡ held s p → (ms : List Move) × MergedPath act came b ms
    way_on zero b s p h e = let (lo, hi) = held-range b e in absurd (omega arith)
    way_on (suc k) b s p h e = let (m, f, g) = held-made b s e in go m f (λ t j w. onward t j w (way_on k t.at))
      where
        onward : (t : State) (m : Move) → Transition act (jump b s) m t → ((s : State) (p : Price) → z < t.at + k → slot (came t.at) ≡ held s p → (ms : List Move) × MergedPath act came t.at ms) → (ms : List Move) × MergedPath act came b ms
        onward t m w ih = next (made t.at _ (way-comes b s e w))
          where
            next : {x : Arrival} → Made t.at x → (ms : List Move) × MergedPath act came b ms
            next (makes {s = s'} {p = p'} j f l u v) = let o = transition-onward b s w in let (ms, path) = ih s' p' (omega (arith, o)) f in (m ∷ ms, go_on e w path)

        go : (m : Next) → act (jump b s) ≡ done m → ((t : State) (m : Move) → Transition act (jump b s) m t → (ms : List Move) × MergedPath act came b ms) → (ms : List Move) × MergedPath act came b ms
        go (stops y) f on = (move (jump b s) y [] ∷ [], stop e f)
        go (goes y t) f on = on t _ (goes_on f)
        go (opens y t y' u) f on = on t _ (not_taken f)

    module _ (M : Measure) where
      -- no way costs more
      most : {b : ℕ} {ms : List Move} → MergedPath act came b ms → (x : Arrival) → Among x (came b) → M.of x.spent + M.total ms ≤ M.figure q
      most (stop {a = b} {s} {p} {q = y} e f) x h =
          let (k, g, l) = held-made b s e in
          let j : k ≡ stops y = cc in
          let l' = M.grown (subst (λ k. NoGreater (finish p k (reach s none)) q) j l) in
          let u = M.stopped p y (reach s none) in
          let v = M.cons (move (jump b s) y []) [] in
          let w = M.nil in
          let r = M.more ((together b e).sums x h) in
          omega arith
      most (go_on {a = b} {s} {p = p} {m = m} {ms = ms} e w path) x h =
          let i = most path _ (way-comes b s e w) in
          let u = M.sums p m.price in
          let v = M.cons m ms in
          let r = M.more ((together b e).sums x h) in
          omega arith

      -- nor do the ways to an address that something comes to
      pub spent-within : (b : ℕ) (x : Arrival) → Among x (came b) → M.of x.spent ≤ M.figure q
      spent-within b x h = go (made b x h)
        where
          go : Made b x → M.of x.spent ≤ M.figure q
          go (makes {s} {p} k e l f g) = let (ms, path) = way_on (suc z) b s p (omega arith) e in let i = most path x h in omega arith

      -- each way from a merged state is the end of one from the start that costs what the ways there have cost at most
      back : (k b : ℕ) (x : Arrival) (ms : List Move) → b < k → Among x (came b) → MergedPath act came b ms → (ls : List Move) × MergedPath act came start.at ls × (M.total ls ≡ M.of x.spent + M.total ms)
      back zero b x ms l h path = absurd (omega arith)
      back (suc k) b x ms l h path = go (origin b x h) (back k)
        where
          go : Origin b x → ((b : ℕ) (x : Arrival) (ms : List Move) → b < k → Among x (came b) → MergedPath act came b ms → (ls : List Move) × MergedPath act came start.at ls × (M.total ls ≡ M.of x.spent + M.total ms)) →
              (ls : List Move) × MergedPath act came start.at ls × (M.total ls ≡ M.of x.spent + M.total ms)
          go (is-start e f) ih =
              let u = ap (λ (y : Arrival). M.of y.spent) e in
              let v = M.nothing in
              (ms, subst (λ b. MergedPath act came b ms) f path, omega arith)
          go (on-way a {p = p} {m = m} lo lt hi e w f g) ih =
              let (y, j, r) = M.attained (together a e) in
              let (ls, c, t) = ih a y (m ∷ ms) (omega arith) j (go_on e w (subst (λ b. MergedPath act came b ms) g path)) in
              let u = ap (λ (y : Arrival). M.of y.spent) f in
              let v = M.sums p m.price in
              let i = M.cons m ms in
              (ls, c, omega arith)

      pub largest : LargestOver (MergedPath act came start.at) M.total (M.figure q)
      largest = go (stopped act came M n start.at none q weighed)
        where
          within : (ms : List Move) → MergedPath act came start.at ms → M.total ms ≤ M.figure q
          within ms path = let i = most path (arrival start free) start-comes in omega arith

          at : (b : ℕ) (s : State) (p y : Price) → slot (came b) ≡ held s p → act (jump b s) ≡ done (stops y) → M.figure q ≡ M.of p + M.of y → LargestOver (MergedPath act came start.at) M.total (M.figure q)
          at b s p y e f k =
              let (x, h, r) = M.attained (together b e) in
              let (ls, path, t) = back (suc b) b x (move (jump b s) y [] ∷ []) (omega arith) h (stop e f) in
              let v = M.cons (move (jump b s) y []) [] in
              let w = M.nil in
              record { witness = ls; path = path; attains = omega arith; most = within }

          go : (M.figure q ≡ M.figure none) ⊎ AtStop act came M (M.figure q) → LargestOver (MergedPath act came start.at) M.total (M.figure q)
          go (inl e) =
              let (s, p, f) = start-held in
              let (ms, path) = way_on (suc z) start.at s p (omega arith) f in
              let i = within ms path in
              let j = M.none_yet in
              record { witness = ms; path = path; attains = omega arith; most = within }
          go (inr (at-stop b {s} {p} {y} e f k)) = at b s p y e f k
